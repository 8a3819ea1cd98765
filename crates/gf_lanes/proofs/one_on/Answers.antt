use Rattle.gf_lanes.proofs.Moved.{one_small, one_are}
use Rattle.gf_lanes.proofs.one_on.Goals as goal

pub invariant_of-result : goal.invariant_of-result
invariant_of-result c = one_small c.value.result c.a.inside.lanes c.value.ensures.small c.a.invariant

pub returns-clause-lanes : goal.returns-clause-lanes
returns-clause-lanes c = one_are c.value.result c.args.first c.a.inside.lanes c.args.a c.value.ensures.same c.a.invariant c.a.view_is
