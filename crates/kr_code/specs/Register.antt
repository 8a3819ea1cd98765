-- The register of the encoder.
use Rattle.std.specs.Prelude.{◌≡◌, ℕ, ◌<◌, List, length, slice_index_or}
use Rattle.gf1024.specs.Symbol.{Symbol, gf, zero_symbol, alpha, product_of}
use Rattle.field_base.specs.Field.{power}
use Rattle.field_base.specs.Poly.{value}

-- Eighteen zeros, and then the remainder of x^14 times the part of a message by the generator: at each root the whole is x^32 times
-- the part.
pub record IsShortRemainder (register part : List Symbol) : Type 0 where
  pub long : length register ≡ 32
  pub zeros : (k : ℕ) → k < 18 → slice_index_or register k zero_symbol ≡ zero_symbol
  pub values : (j : ℕ) → j < 14
      → value gf register (power gf alpha j)
      ≡ product_of (power gf (power gf alpha j) 32) (value gf part (power gf alpha j))
