use Rattle.std.proofs.Common.{◌≡◌, ℕ, ◌<◌, [], length, get_or}
use Rattle.lane_deskew.proofs.each_lane.first_of.Given as goal

abbrev pub invariant-loop-i : goal.invariant-loop-i
invariant-loop-i l = record {
  size : length l.octets ≡ 16;
  done : (k : ℕ) → k < l.i → get_or l.octets k 0 ≡ get_or (get_or l.kept.items k []) l.lane 0;
}
