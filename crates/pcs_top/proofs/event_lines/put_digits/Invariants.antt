use Rattle.std.proofs.Common.{◌≡◌, ◌+◌, ◌++◌, length, map, take}
use Rattle.pcs_top.specs.Reporting.{lane_digit}
use Rattle.pcs_top.proofs.event_lines.put_digits.Given as goal

abbrev pub invariant-loop-lane : goal.invariant-loop-lane
invariant-loop-lane l = record {
  text : l.line.bytes ≡ l.fn.line.bytes ++ map lane_digit (take l.lane l.numbers);
  size : length l.line.bytes ≡ length l.fn.line.bytes + l.lane;
}
