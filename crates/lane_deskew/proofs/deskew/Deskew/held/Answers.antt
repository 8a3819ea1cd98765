use Rattle.std.proofs.Common.{arith, subst, sym}
use Rattle.lane_deskew.specs.State.{Stands}
use Rattle.lane_deskew.proofs.deskew.Deskew.held.Goals as goal

pub returns-clause-bound : goal.returns-clause-bound
returns-clause-bound c = λ h stands.
    let s = subst (λ a. Stands a h) (sym c.self.view_is) stands in
    omega (arith, s.skew, s.period, c.self.invariant.7, c.self.invariant.8, c.len.ensures.len, c.held.ensures.bound)
