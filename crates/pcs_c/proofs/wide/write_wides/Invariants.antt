use Rattle.std.proofs.Common.{◌≡◌, ℕ, ◌<◌, [], get_or, length, slice_index}
use Rattle.pcs_bits.specs.Wides.{wide_bits}
use Rattle.pcs_c.proofs.wide.write_wides.Given as goal

abbrev pub invariant-loop-i : goal.invariant-loop-i
invariant-loop-i l = record {
  long : length l.words ≡ length l.wides;
  each : (k : ℕ) → k < l.i → wide_bits (get_or l.words k []) ≡ get_or l.wides k [];
  tops : (k : ℕ) → k < l.i → slice_index (get_or l.words k []) 4 < 2;
}
