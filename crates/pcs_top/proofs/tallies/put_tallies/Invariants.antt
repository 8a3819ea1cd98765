use Rattle.std.proofs.Common.{◌≤◌}
use Rattle.pcs_drive.specs.Writing.{Puts, Longer}
use Rattle.pcs_watch.specs.Watching.{seen}
use Rattle.pcs_top.proofs.TallyLines.{first_tallies}
use Rattle.pcs_top.proofs.tallies.put_tallies.Given as goal

abbrev pub invariant-loop-i : goal.invariant-loop-i
invariant-loop-i g l = let held = g.W.Sink.held in let faults = g.W.Sink.faults in
    record {
      put : Puts (held l.fn.sink) l.fn.output (first_tallies l.watchers (λ w. let m = goal.Watcher-dyn g (w.vtable, w.value) in seen m.label m.tally m.after m.leaves w.value) l.i) (held l.sink) l.output;
      later : faults l.fn.sink ≤ faults l.sink;
      grows : Longer (held l.fn.sink) (held l.sink);
    }
