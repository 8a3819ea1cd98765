-- Rows cut out of the octets of lanes.
use Rattle.std.proofs.Common.{◌≡◌, ◌≢◌, ℕ, ◌+◌, ◌*◌, ◌/◌, ◌%◌, ◌^◌, ◌<◌, ◌≤◌, List, [], length, get_or, ap, ◌∙◌, arith, below_more, get_or-set_same, get_or-set_other}
use Rattle.std.proofs.Math.ListN.{set}
use Rattle.std.specs.Prelude.{slice_index, slice_index_or, slice_range}
use Rattle.std.proofs.lemmas.List.{length-map}
use Rattle.bit_lists.specs.Bits.{all_bits, number}
use Rattle.bit_lists.proofs.ByPlaces.{by_places}
use Rattle.gf1024.specs.Symbol.{Symbol, symbol, zero_symbol}
use Rattle.lane_deskew.specs.Lanes.{column}
use Rattle.lane_deskew.specs.State.{kept_row}
use Rattle.lane_deskew.proofs.SymbolBits.{ten_bits, word_of}
use Rattle.lane_deskew.proofs.Vectors.{column_at}

-- the symbol of row n in lane v
abbrev pub cut_symbol : List (List ℕ) → List ℕ → ℕ → ℕ → Symbol
cut_symbol octets shifts n v = symbol (number (slice_range (all_bits 8 (column v octets)) (slice_index shifts v + 10 * n) (slice_index shifts v + 10 * n + 10)))

-- the symbol of row n, by three octets from octet m on
pub cut-symbol : (octets : List (List ℕ)) (shifts : List ℕ) (n v m shift more a b c : ℕ) → length octets ≡ 88 → m + 3 ≤ 88 → shift + more ≤ 14
    → shift ≡ slice_index shifts v → shift + 10 * n ≡ 8 * m + (shift + more) → slice_index (slice_index_or octets m []) v ≡ a
    → slice_index (slice_index_or octets (m + 1) []) v ≡ b → slice_index (slice_index_or octets (m + 2) []) v ≡ c → a < 256 → b < 256 → c < 256
    → symbol ((a + 256 * b + 65536 * c) / 2 ^ (shift + more) % 1024) ≡ cut_symbol octets shifts n v
cut-symbol octets shifts n v m shift more a b c size inside small shift_is at e f g la lb lc =
    let xs : List ℕ = column v octets in
    let long : length xs ≡ 88 = length-map octets (λ (beat : List ℕ). slice_index beat v) ∙ size in
    let word = word_of xs m a b c (omega (arith, inside, long)) (column_at v m octets [] (omega (arith, inside, size)) ∙ e)
    (column_at v (m + 1) octets [] (omega (arith, inside, size)) ∙ f) (column_at v (m + 2) octets [] (omega (arith, inside, size)) ∙ g) la lb lc in
    ap symbol (ten_bits xs m (shift + more) (slice_index shifts v + 10 * n) (a + 256 * b + 65536 * c) (omega (arith, inside, long)) (omega (arith, small))
    (omega (arith, shift_is, at)) word)

-- a row by its symbols
pub row-is : (octets : List (List ℕ)) (shifts : List ℕ) (n : ℕ) (row : List Symbol) → length row ≡ 16
    → ((v : ℕ) → v < 16 → slice_index_or row v zero_symbol ≡ cut_symbol octets shifts n v) → row ≡ kept_row octets shifts n
unfolding kept_row
row-is octets shifts n row size each = by_places 16 (cut_symbol octets shifts n) row zero_symbol size each

-- a place more of a list
pub set_more : {X : Type 0} {f : ℕ → X} (d : X) (xs : List X) (u : ℕ) (x : X) → u < length xs → ((v : ℕ) → v < u → get_or xs v d ≡ f v) → x ≡ f u
    → (v : ℕ) → v < u + 1 → get_or (set xs u x) v d ≡ f v
set_more d xs u x low before here = below_more _ _ (λ v h. let ne : v ≢ u = omega arith in rw get_or-set_other (before v h)) (rw get_or-set_same here)
