use Rattle.std.proofs.Common.{◌≤◌, ◌-◌, length, take}
use Rattle.pcs_drive.specs.Writing.{Puts, Longer}
use Rattle.pcs_top.specs.Reporting.{numbers_text}
use Rattle.pcs_top.proofs.tallies.put_numbers.Given as goal

abbrev pub invariant-loop-number : goal.invariant-loop-number
invariant-loop-number g l = let held = g.W.Sink.held in let faults = g.W.Sink.faults in
    let tally = (goal.Watcher-dyn g (l.watcher.vtable, l.watcher.value)).tally l.watcher.value in
    record {
      within : l.i ≤ length tally;
      put : Puts (held l.fn.sink) l.fn.output (numbers_text (take l.i tally)) (held l.sink) l.output;
      later : faults l.fn.sink ≤ faults l.sink;
      grows : Longer (held l.fn.sink) (held l.sink);
    }

abbrev pub decreases-loop-number : goal.decreases-loop-number
decreases-loop-number g l = length ((goal.Watcher-dyn g (l.watcher.vtable, l.watcher.value)).tally l.watcher.value) - l.i
