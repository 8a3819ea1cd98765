use Rattle.std.proofs.Common.{◌≡◌, ◌<◌, ℕ, length, get_or}
use Rattle.gf1024.specs.Symbol.{zero_symbol}
use Rattle.pcs_c.specs.Pairs.{symbol_in}
use Rattle.pcs_c.proofs.rows.row_in.Given as goal

abbrev pub invariant-loop-lane : goal.invariant-loop-lane
invariant-loop-lane l = record {
  size : length l.row ≡ 16;
  each : (i : ℕ) → i < l.lane → get_or l.row i zero_symbol ≡ symbol_in l.beats l.k i;
}
