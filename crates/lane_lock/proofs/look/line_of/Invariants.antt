use Rattle.std.proofs.Common.{◌≡◌, ◌*◌, ◌<◌, ◌^◌, length, drop, take}
use Rattle.bit_lists.specs.Bits.{bits}
use Rattle.lane_lock.specs.Seen.{padded}
use Rattle.lane_lock.proofs.look.line_of.Given as goal

abbrev pub invariant-loop-i : goal.invariant-loop-i
invariant-loop-i l = record {
  bits : bits 120 l.last ≡ drop (8 * length (take l.i l.octets)) (padded (take l.i l.octets));
  fits : l.last < 2 ^ 120;
}
