-- The tables are what they stand for, by computation.
use Rattle.std.proofs.Common.{◌≡◌, ℕ, ◌<◌, true, List, length, map, get_or, refl}
use Rattle.gf1024.specs.Symbol.{Symbol, symbol, gf, zero_symbol, alpha}
use Rattle.gf1024.specs.Word.{product, reduced, times_low}
use Rattle.gf1024.proofs.Linear.{all_below}
use Rattle.field_base.specs.Field.{power}
use Rattle.field_base.specs.Poly.{value}
use Rattle.rs_code.specs.Register.{multiples, first_row, AreMultiples}
use Rattle.rs_code.specs.declared.rows.remainders.TheConstants.{X30, X31, X32, X33}
use Rattle.rs_code.proofs.Generator.{number_value, number_power, steps, low_at, low_values}

pub rows_30 : AreMultiples X30.low X30.high
unfolding multiples first_row product reduced times_low
rows_30 = record { long = refl; low_rows = refl; high_rows = refl }

pub rows_31 : AreMultiples X31.low X31.high
unfolding multiples first_row product reduced times_low
rows_31 = record { long = refl; low_rows = refl; high_rows = refl }

pub rows_32 : AreMultiples X32.low X32.high
unfolding multiples first_row product reduced times_low
rows_32 = record { long = refl; low_rows = refl; high_rows = refl }

pub rows_33 : AreMultiples X33.low X33.high
unfolding multiples first_row product reduced times_low
rows_33 = record { long = refl; low_rows = refl; high_rows = refl }

-- two zeros, and then x^(n - 2) less a multiple of the generator
pub record IsBase (n : ℕ) (list : List Symbol) : Type 0 where
  pub long : length list ≡ 32
  pub lane_0 : get_or list 0 zero_symbol ≡ zero_symbol
  pub lane_1 : get_or list 1 zero_symbol ≡ zero_symbol
  pub values : (j : ℕ) → j < 30 → value gf list (power gf alpha j) ≡ power gf (power gf alpha j) n

table_30 : all_below 30 (low_at (first_row X30.low) 32) ≡ true
unfolding first_row number_value number_power steps product reduced times_low
table_30 = refl

table_31 : all_below 30 (low_at (first_row X31.low) 33) ≡ true
unfolding first_row number_value number_power steps product reduced times_low
table_31 = refl

table_32 : all_below 30 (low_at (first_row X32.low) 34) ≡ true
unfolding first_row number_value number_power steps product reduced times_low
table_32 = refl

table_33 : all_below 30 (low_at (first_row X33.low) 35) ≡ true
unfolding first_row number_value number_power steps product reduced times_low
table_33 = refl

pub base_30 : IsBase 32 (map symbol (first_row X30.low))
unfolding first_row
base_30 = record { long = refl; lane_0 = refl; lane_1 = refl; values = low_values (first_row X30.low) 32 30 table_30 }

pub base_31 : IsBase 33 (map symbol (first_row X31.low))
unfolding first_row
base_31 = record { long = refl; lane_0 = refl; lane_1 = refl; values = low_values (first_row X31.low) 33 30 table_31 }

pub base_32 : IsBase 34 (map symbol (first_row X32.low))
unfolding first_row
base_32 = record { long = refl; lane_0 = refl; lane_1 = refl; values = low_values (first_row X32.low) 34 30 table_32 }

pub base_33 : IsBase 35 (map symbol (first_row X33.low))
unfolding first_row
base_33 = record { long = refl; lane_0 = refl; lane_1 = refl; values = low_values (first_row X33.low) 35 30 table_33 }
