-- The table of the generator is what it stands for.
use Rattle.std.proofs.Common.{◌≡◌, ℕ, ◌<◌, Bool, true, List, map, drop, get_or, ◌==◌, ltb, refl}
use Rattle.std.proofs.lemmas.Bool.{eqb-true, ltb-true}
use Rattle.gf1024.specs.Symbol.{Symbol, symbol, zero_symbol}
use Rattle.gf1024.specs.Word.{product, reduced, times_low}
use Rattle.gf1024.proofs.FieldLaws.{symbol_path}
use Rattle.gf1024.proofs.Linear.{all_below, all_below_at}
use Rattle.gf_lanes.specs.Lanes.{AreSymbols}
use Rattle.rs_code.proofs.Generator.{number_value, number_power, steps, low_at, low_values}
use Rattle.rs_code.proofs.Encoder.{IsLow}
use Rattle.kr_code.specs.declared.code.TheConstants.{GENERATOR}

-- the coefficients behind the zeros
unfoldable pub parity_of_one : List Symbol
parity_of_one = map symbol (drop 18 GENERATOR)

low_table : all_below 14 (low_at (drop 18 GENERATOR) 14) ≡ true
unfolding number_value number_power steps product reduced times_low
low_table = refl

pub generator_is : IsLow 14 14 parity_of_one
unfolding parity_of_one
generator_is = record { long = refl; values = low_values (drop 18 GENERATOR) 14 14 low_table }

lane_table : all_below 14 (low_at GENERATOR 32) ≡ true
unfolding number_value number_power steps product reduced times_low
lane_table = refl

-- the generator in lanes
pub lanes_are : IsLow 14 32 (map symbol GENERATOR)
lanes_are = record { long = refl; values = low_values GENERATOR 32 14 lane_table }

abbrev zero_at : ℕ → Bool
zero_at k = (get_or (map symbol GENERATOR) k zero_symbol).value == 0

zero_table : all_below 18 zero_at ≡ true
zero_table = refl

pub lanes_zero : (k : ℕ) → k < 18 → get_or (map symbol GENERATOR) k zero_symbol ≡ zero_symbol
lanes_zero k less =
    symbol_path (get_or (map symbol GENERATOR) k zero_symbol) zero_symbol
    (eqb-true (get_or (map symbol GENERATOR) k zero_symbol).value 0 (all_below_at 18 zero_at zero_table k less))

abbrev small_at : ℕ → Bool
small_at i = ltb (get_or GENERATOR i 0) 1024

small_table : all_below 32 small_at ≡ true
small_table = refl

pub generator_symbols : AreSymbols GENERATOR
generator_symbols = record {
  long = refl;
  small = λ i less. ltb-true (get_or GENERATOR i 0) 1024 (all_below_at 32 small_at small_table i less);
}
