use Rattle.std.proofs.Common.{◌≡◌, ℕ, ◌<◌, ◌≤◌, get_or, length, take}
use Rattle.gf1024.specs.Symbol.{gf, zero_symbol, alpha}
use Rattle.field_base.specs.Field.{power}
use Rattle.field_base.specs.Poly.{value}
use Rattle.rs_code.proofs.rows.powers.short_values.Given as goal

abbrev pub invariant-loop-j : goal.invariant-loop-j
invariant-loop-j l = record {
  so_far : l.j ≤ length l.coefficients;
  each : (k : ℕ) → k < 32 → get_or l.values k zero_symbol ≡ value gf (take l.j l.coefficients) (power gf alpha k);
}
