use Rattle.std.proofs.Common.{◌≡◌, ◌≢◌, ℕ, ◌+◌, ◌-◌, ◌<◌, ◌≤◌, length, get_or, []}
use Rattle.std.specs.Prelude.{slice_index, slice_index_or}
use Rattle.lane_deskew.proofs.pair.put_octets.Given as goal

abbrev pub invariant-loop-j : goal.invariant-loop-j
invariant-loop-j l = record {
  size : length l.octets ≡ 88;
  put : (k : ℕ) → l.at ≤ k → k < l.j → slice_index (get_or l.octets k []) l.u ≡ slice_index (slice_index_or l.beats (l.first + (k - l.at)) []) l.lane;
  before : (k : ℕ) → k < l.at → get_or l.octets k [] ≡ get_or l.fn.octets k [];
  behind : (k : ℕ) → l.j ≤ k → get_or l.octets k [] ≡ get_or l.fn.octets k [];
  beside : (k v : ℕ) → v ≢ l.u → slice_index (get_or l.octets k []) v ≡ slice_index (get_or l.fn.octets k []) v;
}
