use Rattle.std.proofs.Common.{◌≡◌, ◌+◌, ◌≤◌, length, false}
use Rattle.mac_columns.specs.Columns.{columns_of}
use Rattle.pcs_send.specs.Holding.{is_ready}
use Rattle.pcs_top.specs.Trials.{IsTrying}
use Rattle.pcs_top.proofs.TriedColumns.{FrameTried}
use Rattle.pcs_top.proofs.trial.Trying.send_frame.Given as goal

abbrev pub invariant-loop-column : goal.invariant-loop-column
invariant-loop-column l = record {
  frame : FrameTried (columns_of l.fn.frame l.fn.gap) l.columns l.fn.self l.self;
  trying : IsTrying l.self;
  waits : is_ready l.self.sender ≡ false;
  octets : l.self.octets ≡ l.fn.self.octets;
  pairs : l.self.pairs + length l.columns ≤ l.fn.self.pairs + 204;
  columns : l.self.columns + length l.columns ≤ l.fn.self.columns + 204;
}

abbrev pub decreases-loop-column : goal.decreases-loop-column
decreases-loop-column l = length l.columns
