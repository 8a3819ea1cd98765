use Rattle.std.proofs.Common.{◌≡◌, ◌+◌, ◌*◌, ◌≤◌, ◌++◌, length, take}
use Rattle.pcs_top.proofs.EventLines.{with_commas}
use Rattle.pcs_top.proofs.event_lines.put_wrong.Given as goal

abbrev pub invariant-loop-lane : goal.invariant-loop-lane
invariant-loop-lane l = record {
  text : l.line.bytes ≡ l.fn.line.bytes ++ with_commas (take l.lane l.wrong);
  size : length l.line.bytes ≤ length l.fn.line.bytes + 6 * l.lane;
}
