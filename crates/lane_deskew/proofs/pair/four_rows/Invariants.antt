use Rattle.std.proofs.Common.{◌≡◌, ℕ, ◌+◌, ◌*◌, ◌<◌, length, get_or}
use Rattle.gf1024.specs.Symbol.{zero_symbol}
use Rattle.lane_deskew.proofs.CutRows.{cut_symbol}
use Rattle.lane_deskew.proofs.pair.four_rows.Given as goal

abbrev pub invariant-loop-u : goal.invariant-loop-u
invariant-loop-u l = record {
  sizes : (length l.first ≡ 16) × (length l.second ≡ 16) × (length l.third ≡ 16) × (length l.fourth ≡ 16);
  first : (v : ℕ) → v < l.u → get_or l.first v zero_symbol ≡ cut_symbol l.octets l.shifts (4 * l.k) v;
  second : (v : ℕ) → v < l.u → get_or l.second v zero_symbol ≡ cut_symbol l.octets l.shifts (4 * l.k + 1) v;
  third : (v : ℕ) → v < l.u → get_or l.third v zero_symbol ≡ cut_symbol l.octets l.shifts (4 * l.k + 2) v;
  fourth : (v : ℕ) → v < l.u → get_or l.fourth v zero_symbol ≡ cut_symbol l.octets l.shifts (4 * l.k + 3) v;
}
