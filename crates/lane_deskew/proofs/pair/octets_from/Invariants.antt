use Rattle.std.proofs.Common.{◌≡◌, ℕ, ◌+◌, ◌<◌, ◌≤◌, ◌++◌, []}
use Rattle.std.specs.Prelude.{slice_index, slice_index_or}
use Rattle.lane_deskew.proofs.pair.octets_from.Given as goal

abbrev pub invariant-loop-u : goal.invariant-loop-u
invariant-loop-u l = record {
  done : (v : ℕ) → v < l.u → (k : ℕ) → k < 88 → slice_index (slice_index_or l.octets k []) v ≡ slice_index (slice_index_or (l.front ++ l.back) (slice_index l.froms v + k) []) (slice_index l.lanes v);
  none : (v k : ℕ) → l.u ≤ v → v < 16 → k < 88 → slice_index (slice_index_or l.octets k []) v ≡ 0;
}
