use Rattle.std.proofs.Common.{◌≤◌}
use Rattle.pcs_drive.specs.Writing.{Puts, Longer}
use Rattle.pcs_top.proofs.ColumnText.{idle_lines}
use Rattle.pcs_top.proofs.columns.put_idles.Given as goal

abbrev pub invariant-loop-i : goal.invariant-loop-i
invariant-loop-i g l = let held = g.W.Sink.held in let faults = g.W.Sink.faults in
    record {
      put : Puts (held l.fn.sink) l.fn.output (idle_lines l.i) (held l.sink) l.output;
      later : faults l.fn.sink ≤ faults l.sink;
      grows : Longer (held l.fn.sink) (held l.sink);
    }
