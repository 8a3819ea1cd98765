use Rattle.std.proofs.Common.{◌≡◌, ℕ, ◌<◌, ◌-◌, get_or, drop, length}
use Rattle.gf1024.specs.Symbol.{gf, zero_symbol, alpha}
use Rattle.field_base.specs.Field.{power}
use Rattle.field_base.specs.Poly.{value}
use Rattle.rs_code.proofs.code.values_in_lanes.Given as goal

abbrev pub invariant-loop-i : goal.invariant-loop-i
invariant-loop-i l = (j : ℕ) → j < 32
    → get_or l.sums j zero_symbol ≡ value gf (drop (length l.word - l.i) l.word) (power gf alpha j)
