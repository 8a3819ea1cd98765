-- What C means by the beats of a pair, and what it gets of them.
use Rattle.std.specs.Prelude.{◌≡◌, ℕ, ◌+◌, ◌*◌, List, [], ◌∷◌, if◌then◌else◌, slice_range, unwrap_or}
use Rattle.bit_lists.specs.Bits.{all_bits, number}
use Rattle.bit_lists.specs.Places.{for_each}
use Rattle.gf1024.specs.Symbol.{Symbol, symbol}
use Rattle.pcs_send.specs.Lanes.{lane_octets}
use Rattle.pcs_receive.specs.Reports.{Rows, is_good, report_of}
use Rattle.pcs_receive.specs.Received.{bits_of_pair}
use Rattle.pcs_c.specs.Blocks.{AreWides}

-- symbol k of lane l: ten bits of the octets of the lane, of each octet the lowest bit first
unfoldable pub symbol_in : List (List ℕ) → ℕ → ℕ → Symbol
symbol_in beats k l = symbol (number (slice_range (all_bits 8 (lane_octets beats l)) (10 * k) (10 * k + 10)))

unfoldable pub row_in : List (List ℕ) → ℕ → List Symbol
row_in beats k = for_each 16 (symbol_in beats k)

-- the 68 rows of 85 beats
unfoldable pub rows_in : List (List ℕ) → Rows
rows_in beats = for_each 68 (row_in beats)

-- its forty wides, zeros where it is bad; how many symbols of each word and of each lane were replaced, 255 for a word without a
-- codeword near it; and 0 where it is good
pub record IsDecoded (pair : Rows) (wides : List (List ℕ)) (counts wrong : List ℕ) (status : ℕ) : Type 0 where
  pub wides_are : AreWides (bits_of_pair pair) wides
  pub counts_are : counts ≡ unwrap_or (report_of 0 pair).a 255 ∷ unwrap_or (report_of 0 pair).b 255 ∷ []
  pub wrong_is : wrong ≡ (report_of 0 pair).wrong
  pub status_is : status ≡ (if is_good pair then 0 else 1)
