-- Octets of lists of bits.
use Rattle.std.proofs.Common.{◌≡◌, ℕ, zero, suc, ◌+◌, ◌-◌, ◌*◌, ◌/◌, ◌%◌, ◌^◌, ◌<◌, ◌≤◌, List, [], ◌∷◌, ◌++◌, length, get_or, take, drop, replicate, refl, sym, ◌∙◌, ap, inl, inr, arith, length-take, get_or-take, get_or-drop}
use Rattle.std.specs.Int.{bit_at}
use Rattle.std.specs.Prelude.{bit_or, nat_eq, if◌then◌else◌, max, slice_range, ◌≢◌}
use Rattle.std.proofs.lemmas.Bool.{cases_lt, cases_eq, eq-eqb, ne_eqb}
use Rattle.std.proofs.lemmas.Nat.{or_lt, mul-le, shr_below}
use Rattle.std.proofs.Math.Pow.{pow_mono}
use Rattle.std.proofs.lemmas.Nat.Bits.{bit_at_or, bit_at_above, bit_at-suc, bit_at-zero, bit_at_lowest, same_from_bits_below}
use Rattle.std.proofs.lemmas.List.{get_or_append_left, get_or-append_right, get_or_past}
use Rattle.bit_lists.specs.Bits.{bits, number, IsBits}
use Rattle.bit_lists.proofs.BitsOnly.{are_bits-append}
use Rattle.bit_lists.proofs.Facts.{bits_below_2, length-bits, get_or-bits, number-lt, bit_at-shr, bit_at-shl_high, bit_at-shl_word, bit_at-shl_word_low, below_2-take, below_2-drop}
use Rattle.lane_impair.specs.Holding.{octet_at}

-- a number has the bits that it is made of
pub bit_at-number : (bs : List ℕ) (i : ℕ) → IsBits bs → bit_at (number bs) i ≡ get_or bs i 0
unfolding number
bit_at-number [] i are = bit_at-zero i
bit_at-number (b ∷ bs) zero are = bit_at_lowest (b + 2 * number bs) ∙ omega (arith, are 0)
bit_at-number (b ∷ bs) (suc i) are =
    let half : (b + 2 * number bs) / 2 ≡ number bs = omega (arith, are 0) in
    bit_at-suc (b + 2 * number bs) i ∙ ap (λ n. bit_at n i) half ∙ bit_at-number bs i (λ k. are (suc k))

-- bit i of octet k is bit 8k + i of the list
pub bit_at-octet_at : (xs : List ℕ) (k i : ℕ) → IsBits xs → i < 8 → bit_at (octet_at xs k) i ≡ get_or xs (8 * k + i) 0
unfolding octet_at
bit_at-octet_at xs k i are low =
    let size : 8 * k + 8 - 8 * k ≡ 8 = omega arith in
    let part : slice_range xs (8 * k) (8 * k + 8) ≡ take 8 (drop (8 * k) xs) = ap (λ n. take n (drop (8 * k) xs)) size in
    let still : IsBits (take 8 (drop (8 * k) xs)) = below_2-take 8 (drop (8 * k) xs) (below_2-drop (8 * k) xs are) in
    ap (λ bs. bit_at (number bs) i) part ∙ bit_at-number (take 8 (drop (8 * k) xs)) i still
    ∙ get_or-take 8 (drop (8 * k) xs) i 0 low ∙ get_or-drop (8 * k) xs i 0

below_8 : (bs : List ℕ) → IsBits bs → length bs ≤ 8 → number bs < 2 ^ 8
below_8 bs are short = omega (arith, number-lt bs are, pow_mono short)

pub octet_at-lt : (xs : List ℕ) (k : ℕ) → IsBits xs → octet_at xs k < 2 ^ 8
unfolding octet_at
octet_at-lt xs k are =
    let size : 8 * k + 8 - 8 * k ≡ 8 = omega arith in
    let part : slice_range xs (8 * k) (8 * k + 8) ≡ take 8 (drop (8 * k) xs) = ap (λ n. take n (drop (8 * k) xs)) size in
    let still : IsBits (take 8 (drop (8 * k) xs)) = below_2-take 8 (drop (8 * k) xs) (below_2-drop (8 * k) xs are) in
    let short : length (take 8 (drop (8 * k) xs)) ≤ 8 = omega (arith, length-take 8 (drop (8 * k) xs)) in
    rw part (below_8 (take 8 (drop (8 * k) xs)) still short)

-- octets are told by their bits
pub same_octets : (a b : ℕ) → a < 2 ^ 8 → b < 2 ^ 8 → ((i : ℕ) → i < 8 → bit_at a i ≡ bit_at b i) → a ≡ b
same_octets a b ha hb each = same_from_bits_below 8 a b ha hb each

-- past the end an octet is zero
pub octet_at-past : (xs : List ℕ) (k : ℕ) → IsBits xs → length xs ≤ 8 * k → octet_at xs k ≡ 0
octet_at-past xs k are past =
    same_octets (octet_at xs k) 0 (octet_at-lt xs k are) (omega arith)
    (λ i low. bit_at-octet_at xs k i are low ∙ get_or_past xs (8 * k + i) 0 (omega arith) ∙ sym (bit_at-zero i))

-- zeros behind a list change none of its places
pub zero_at : (n i : ℕ) → get_or {A = ℕ} (replicate n 0) i 0 ≡ 0
zero_at zero i = refl
zero_at (suc n) zero = refl
zero_at (suc n) (suc i) = zero_at n i

pub zeros_behind : (xs : List ℕ) (n i : ℕ) → get_or (xs ++ replicate n 0) i 0 ≡ get_or xs i 0
zeros_behind xs n i =
    elim (cases_lt i (length xs)) [
      | inl low ↦ get_or_append_left xs (replicate n 0) 0 i low
      | inr high ↦ get_or-append_right xs (replicate n 0) (length xs) i 0 refl high ∙ zero_at n (i - length xs) ∙ sym (get_or_past xs i 0 high)
    ]

-- nor of its octets
pub octet_at-filled : (xs : List ℕ) (n k : ℕ) → IsBits xs → IsBits (xs ++ replicate n 0) → octet_at (xs ++ replicate n 0) k ≡ octet_at xs k
octet_at-filled xs n k are filled =
    same_octets (octet_at (xs ++ replicate n 0) k) (octet_at xs k)
    (octet_at-lt (xs ++ replicate n 0) k filled) (octet_at-lt xs k are)
    (λ i low. bit_at-octet_at (xs ++ replicate n 0) k i filled low ∙ zeros_behind xs n (8 * k + i) ∙ sym (bit_at-octet_at xs k i are low))

-- zeros have octets of zero
pub octet_at-zeros : (n k : ℕ) → octet_at (replicate n 0) k ≡ 0
octet_at-zeros n k =
    let are : IsBits (replicate n 0) = λ i. rw (zero_at n i) (omega arith) in
    same_octets (octet_at (replicate n 0) k) 0 (octet_at-lt (replicate n 0) k are) (omega arith)
    (λ i low. bit_at-octet_at (replicate n 0) k i are low ∙ zero_at n (8 * k + i) ∙ sym (bit_at-zero i))

-- the octet k of a word that stands from octet q on
abbrev pub word_octet : ℕ → ℕ → ℕ → ℕ
word_octet word q k = if nat_eq k q then word % 2 ^ 8 else if nat_eq k (q + 1) then word / 2 ^ 8 else 0

-- a bit of a number, where its list of bits has it
get_or-bits_any : (w v j : ℕ) → v < 2 ^ w → get_or (bits w v) j 0 ≡ bit_at v j
get_or-bits_any w v j fits =
    elim (cases_lt j w) [
      | inl low ↦ get_or-bits w v j 0 low
      | inr high ↦ get_or_past (bits w v) j 0 (omega (arith, length-bits w v)) ∙ sym (bit_at_above v w j fits high)
    ]

-- the bits of a part of a word that stands from bit r of octet q on
part_below : (v q r k i : ℕ) → r < 8 → i < 8 → 8 * k + i < 8 * q + r → bit_at (word_octet (v * 2 ^ r) q k) i ≡ 0
part_below v q r k i low small before =
    elim (cases_eq k q) [
      | inl same ↦ rw (eq-eqb k q same) (bit_at-shl_word_low 8 v r i small (omega arith))
      | inr other ↦ let next : k ≢ q + 1 = omega arith in rw (ne_eqb k q other, ne_eqb k (q + 1) next) (bit_at-zero i)
    ]

part_above : (v q r k i : ℕ) → v < 2 ^ 8 → r < 8 → i < 8 → 8 * q + r ≤ 8 * k + i → bit_at (word_octet (v * 2 ^ r) q k) i ≡ bit_at v (8 * k + i - (8 * q + r))
part_above v q r k i fits low small after =
    elim (cases_eq k q) [
      | inl same ↦ rw (eq-eqb k q same) (bit_at-shl_word 8 v r i (8 * k + i - (8 * q + r)) small (omega arith))
      | inr other ↦ elim (cases_eq k (q + 1)) [
        | inl next ↦
            rw (ne_eqb k q other, eq-eqb k (q + 1) next)
            (bit_at-shr (v * 2 ^ r) 8 i ∙ bit_at-shl_high v r (8 + i) (omega arith) ∙ ap (bit_at v) (omega arith))
        | inr far ↦
            rw (ne_eqb k q other, ne_eqb k (q + 1) far)
            (bit_at-zero i ∙ sym (bit_at_above v 8 (8 * k + i - (8 * q + r)) fits (omega arith)))
      ]
    ]

part-lt : (v q r k : ℕ) → v < 2 ^ 8 → r < 8 → word_octet (v * 2 ^ r) q k < 2 ^ 8
part-lt v q r k fits low =
    elim (cases_eq k q) [
      | inl same ↦ rw (eq-eqb k q same) (omega arith)
      | inr other ↦ elim (cases_eq k (q + 1)) [
        | inl next ↦
            let power : 2 ^ r ≤ 2 ^ 8 = pow_mono {i = r} {j = 8} (omega arith) in
            let word : v * 2 ^ r < 2 ^ (8 + 8) = omega (arith, mul-le v (2 ^ r) 255 (2 ^ 8) (omega arith) power) in
            rw (ne_eqb k q other, eq-eqb k (q + 1) next) (shr_below (v * 2 ^ r) 8 8 word)
        | inr far ↦ rw (ne_eqb k q other, ne_eqb k (q + 1) far) (omega arith)
      ]
    ]

-- `w` bits behind `8 q + r` others
pub octet_at-append : (xs : List ℕ) (w v q r k : ℕ) → IsBits xs → length xs ≡ 8 * q + r → r < 8 → w ≤ 8 → v < 2 ^ w
    → octet_at (xs ++ bits w v) k ≡ bit_or (octet_at xs k) (word_octet (v * 2 ^ r) q k)
octet_at-append xs w v q r k are size low small fits =
    let all : IsBits (xs ++ bits w v) = are_bits-append xs (bits w v) are (bits_below_2 w v) in
    let octet : v < 2 ^ 8 = omega (arith, pow_mono small) in
    same_octets (octet_at (xs ++ bits w v) k) (bit_or (octet_at xs k) (word_octet (v * 2 ^ r) q k))
    (octet_at-lt (xs ++ bits w v) k all) (or_lt 8 _ _ (octet_at-lt xs k are) (part-lt v q r k octet low))
    (λ i within.
    let old = bit_at-octet_at xs k i are within in
    bit_at-octet_at (xs ++ bits w v) k i all within
    ∙ sym (bit_at_or (octet_at xs k) (word_octet (v * 2 ^ r) q k) i ∙ elim (cases_lt (8 * k + i) (8 * q + r)) as (λ _. max (bit_at (octet_at xs k) i) (bit_at (word_octet (v * 2 ^ r) q k) i) ≡ get_or (xs ++ bits w v) (8 * k + i) 0) [
      | inl before ↦
          rw (old, part_below v q r k i low within before, get_or_append_left xs (bits w v) 0 (8 * k + i) (omega (arith, size))) (omega arith)
      | inr after ↦
          rw (
            old,
            part_above v q r k i octet low within after,
            get_or_past xs (8 * k + i) 0 (omega (arith, size)),
            get_or-append_right xs (bits w v) (8 * q + r) (8 * k + i) 0 size after,
            get_or-bits_any w v (8 * k + i - (8 * q + r)) fits,
          ) (omega arith)
    ]))
