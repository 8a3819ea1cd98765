use Rattle.std.proofs.Common.{◌≡◌, ℕ, ◌-◌, ◌≤◌, List, Option}
use Rattle.lane_impair.specs.Histories.{Impairing}
use Rattle.pcs_drive.specs.Writing.{Longer}
use Rattle.pcs_top.specs.Giving.{with_given, HasGiven}
use Rattle.pcs_top.proofs.impair.put_next.Given as goal

abbrev pub invariant-loop-beat : goal.invariant-loop-beat
invariant-loop-beat g l = let held = g.W.Sink.held in
    record {
      gives : (h : Impairing) (front : List ℕ) (start : Option (List ℕ)) → HasGiven l.fn.impairer h front start (held l.fn.sink) l.fn.output
          → (given : ℕ) × HasGiven l.impairer (with_given h given) front start (held l.sink) l.output;
      taken : l.impairer.taken ≡ l.fn.impairer.taken;
      finished : l.impairer.finished ≡ l.fn.impairer.finished;
      later : g.W.Sink.faults l.fn.sink ≤ g.W.Sink.faults l.sink;
      grows : Longer (held l.fn.sink) (held l.sink);
    }

abbrev pub decreases-loop-beat : goal.decreases-loop-beat
decreases-loop-beat g l = l.impairer.ready - l.impairer.rows.given
