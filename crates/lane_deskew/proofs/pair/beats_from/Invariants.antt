use Rattle.std.proofs.Common.{◌≡◌, ℕ, ◌+◌, ◌<◌, ◌++◌, length, get_or, []}
use Rattle.std.specs.Prelude.{slice_index, slice_index_or}
use Rattle.lane_deskew.proofs.pair.beats_from.Given as goal

abbrev pub invariant-loop-k : goal.invariant-loop-k
invariant-loop-k l = record {
  size : length l.octets ≡ 88;
  done : (k : ℕ) → k < l.k → (v : ℕ) → v < 16 → slice_index (get_or l.octets k []) v ≡ slice_index (slice_index_or (l.front ++ l.back) (l.from + k) []) (slice_index l.lanes v);
}
