use Rattle.std.proofs.Common.{◌≡◌, ℕ, ◌<◌, get_or, length}
use Rattle.gf1024.specs.Symbol.{gf, zero_symbol, alpha}
use Rattle.field_base.specs.Field.{power}
use Rattle.field_base.specs.Poly.{value}
use Rattle.kr_code.proofs.correction.values.Given as goal

abbrev pub invariant-loop-j : goal.invariant-loop-j
invariant-loop-j l = record {
  long : length l.values ≡ 14;
  each : (j : ℕ) → j < l.j → get_or l.values j zero_symbol ≡ value gf l.word (power gf alpha j);
}
