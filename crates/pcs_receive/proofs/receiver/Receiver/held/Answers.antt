use Rattle.std.proofs.Common.{arith, ap, subst, sym}
use Rattle.pcs_bits.specs.Captures.{Capture}
use Rattle.pcs_receive.specs.contracts.receiver.Receiver.{the_view}
use Rattle.pcs_receive.specs.State.{Stands, Holds}
use Rattle.pcs_receive.proofs.receiver.Receiver.held.Goals as goal

pub returns-clause-bound : goal.returns-clause-bound
unfolding Stands
returns-clause-bound c = λ h stands.
    let s : Holds (the_view c.self.inside) h = subst (λ y. Stands y h) (sym c.self.view_is) stands in
    omega (arith, c.held.ensures.bound s.hunt s.aligner, s.skew, ap (λ (x : Capture). x.period) s.heard)
