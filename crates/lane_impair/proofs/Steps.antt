-- What one more beat adds to the lanes.
use Rattle.std.proofs.Common.{◌≡◌, ℕ, suc, ◌+◌, ◌-◌, ◌*◌, ◌/◌, ◌%◌, ◌^◌, ◌<◌, ◌≤◌, List, [], ◌∷◌, ◌++◌, map, length, get_or, replicate, refl, sym, ◌∙◌, ap, ap₂, inl, inr, arith, append_assoc, append-nil, length-append}
use Rattle.std.specs.Prelude.{◌≢◌, count_by, bit_or}
use Rattle.std.specs.Int.{bit_at}
use Rattle.std.proofs.lemmas.Bool.{cases_Bool, cases_lt, eq-eqb, ne_eqb}
use Rattle.std.proofs.lemmas.Nat.{shl_whole, or_comm, or_shifted, mul-le, pow-add}
use Rattle.std.proofs.lemmas.Nat.Bits.{bit_at-lt}
use Rattle.std.proofs.lemmas.List.{map-append, length-map, get_or_past, get_or_append_left, get_or-append_right}
use Rattle.bit_lists.specs.Bits.{bits, all_bits, bit, IsBits}
use Rattle.bit_lists.specs.Places.{for_each}
use Rattle.bit_lists.proofs.ByPlaces.{length-for_each, at-for_each, by_places}
use Rattle.bit_lists.proofs.BitsOnly.{are_bits-nil, are_bits-cons}
use Rattle.bit_lists.proofs.Facts.{bits-mod, bits-suc, bits-or_shl, length-bits, get_or-bits, bits-append, bits-zero, all_bits-push, length-all_bits}
use Rattle.lane_impair.specs.declared.item.Item.{Item}
use Rattle.lane_impair.specs.Impairments.{inverts, inverted, takes_out, is_kept, kept_from, without_drops, skew_of, changed}
use Rattle.lane_impair.specs.Histories.{lanes_of}

-- the bits of octet l of each beat
pub lane_bits : List (List ℕ) → ℕ → List ℕ
lane_bits beats l = all_bits 8 (map (λ beat. get_or beat l 0) beats)

pub lane_is : (beats : List (List ℕ)) (l : ℕ) → l < 16 → get_or (lanes_of beats) l [] ≡ lane_bits beats l
unfolding lanes_of lane_bits
lane_is beats l low = at-for_each 16 (λ l. all_bits 8 (map (λ beat. get_or beat l 0) beats)) l [] low

pub lane_more : (beats : List (List ℕ)) (beat : List ℕ) (l : ℕ) → lane_bits (beats ++ beat ∷ []) l ≡ lane_bits beats l ++ bits 8 (get_or beat l 0)
unfolding lane_bits
lane_more beats beat l = ap (all_bits 8) (map-append (λ b. get_or b l 0) beats (beat ∷ [])) ∙ all_bits-push 8 (map (λ b. get_or b l 0) beats) (get_or beat l 0)

pub length-lane_bits : (beats : List (List ℕ)) (l : ℕ) → length (lane_bits beats l) ≡ 8 * length beats
unfolding lane_bits
length-lane_bits beats l = length-all_bits 8 (map (λ b. get_or b l 0) beats) ∙ omega (arith, length-map beats (λ (b : List ℕ). get_or b l 0))

-- an octet behind a lane is inverted by itself
pub inverted_more : (items : List Item) (l b o p : ℕ) (xs : List ℕ) → length xs ≡ 8 * b
    → ((i : ℕ) → i < 8 → bit_at p i ≡ (bit_at o i + count_by (inverts l (8 * b + i)) items) % 2)
    → inverted items l (xs ++ bits 8 o) ≡ inverted items l xs ++ bits 8 p
unfolding inverted
inverted_more items l b o p xs size each =
    let all : length (xs ++ bits 8 o) ≡ 8 * b + 8 = length-append xs (bits 8 o) ∙ omega (arith, size, length-bits 8 o) in
    let front : ℕ → ℕ = λ n. (bit xs n + count_by (inverts l n) items) % 2 in
    let short : length (for_each (length xs) front) ≡ 8 * b = length-for_each (length xs) front ∙ size in
    sym (by_places (length (xs ++ bits 8 o)) (λ n. (bit (xs ++ bits 8 o) n + count_by (inverts l n) items) % 2)
    (for_each (length xs) front ++ bits 8 p) 0
    (length-append (for_each (length xs) front) (bits 8 p) ∙ omega (arith, short, all, length-bits 8 p))
    (λ k low. elim (cases_lt k (8 * b)) [
      | inl before ↦
          get_or_append_left (for_each (length xs) front) (bits 8 p) 0 k (omega (arith, short)) ∙ at-for_each (length xs) front k 0 (omega arith)
          ∙ ap (λ x. (x + count_by (inverts l k) items) % 2) (sym (get_or_append_left xs (bits 8 o) 0 k (omega arith)))
      | inr after ↦
          let i : ℕ = k - 8 * b in
          let place : 8 * b + i ≡ k = omega arith in
          get_or-append_right (for_each (length xs) front) (bits 8 p) (8 * b) k 0 short after ∙ get_or-bits 8 p i 0 (omega arith)
          ∙ each i (omega arith)
          ∙ ap₂ (λ x n. (x + count_by (inverts l n) items) % 2)
          (sym (get_or-append_right xs (bits 8 o) (8 * b) k 0 size after ∙ get_or-bits 8 o i 0 (omega arith))) place
    ]))

pub length-inverted : (items : List Item) (l : ℕ) (xs : List ℕ) → length (inverted items l xs) ≡ length xs
unfolding inverted
length-inverted items l xs = length-for_each (length xs) (λ n. (bit xs n + count_by (inverts l n) items) % 2)

pub inverted_are_bits : (items : List Item) (l : ℕ) (xs : List ℕ) → IsBits (inverted items l xs)
unfolding inverted
inverted_are_bits items l xs k =
    elim (cases_lt k (length xs)) [
      | inl low ↦ rw (at-for_each (length xs) (λ n. (bit xs n + count_by (inverts l n) items) % 2) k 0 low) (omega arith)
      | inr high ↦
          rw (get_or_past (for_each (length xs) (λ n. (bit xs n + count_by (inverts l n) items) % 2)) k 0
          (omega (arith, length-for_each (length xs) (λ n. (bit xs n + count_by (inverts l n) items) % 2)))) (omega arith)
    ]

-- what is kept of one list behind another
pub kept-append : (items : List Item) (l n : ℕ) (xs ys : List ℕ)
    → kept_from items l n (xs ++ ys) ≡ kept_from items l n xs ++ kept_from items l (n + length xs) ys
kept-append items l n [] ys = let same : n + 0 ≡ n = omega arith in ap (λ m. kept_from items l m ys) (sym same)
kept-append items l n (x ∷ xs) ys =
    let on : n + 1 + length xs ≡ n + suc (length xs) = omega arith in
    let rest = kept-append items l (n + 1) xs ys ∙ ap (λ m. kept_from items l (n + 1) xs ++ kept_from items l m ys) on in
    elim (cases_Bool (is_kept items l n)) [
      | inl kept ↦ rw kept (ap (λ zs. x ∷ zs) rest)
      | inr gone ↦ rw gone rest
    ]

-- where nothing is taken out, all is kept
pub kept-all : (items : List Item) (l n : ℕ) (xs : List ℕ) → ((i : ℕ) → i < length xs → count_by (takes_out l (n + i)) items ≡ 0) → kept_from items l n xs ≡ xs
kept-all items l n [] none = refl
kept-all items l n (x ∷ xs) none =
    let here : n + 0 ≡ n = omega arith in
    let count : count_by (takes_out l n) items ≡ 0 = ap (λ m. count_by (takes_out l m) items) (sym here) ∙ none 0 (omega arith) in
    rw (eq-eqb (count_by (takes_out l n) items) 0 count)
    (ap (λ zs. x ∷ zs) (kept-all items l (n + 1) xs (λ i low.
    let on : n + 1 + i ≡ n + suc i = omega arith in
    ap (λ m. count_by (takes_out l m) items) on ∙ none (suc i) (omega arith))))

pub kept_are_bits : (items : List Item) (l n : ℕ) (xs : List ℕ) → IsBits xs → IsBits (kept_from items l n xs)
kept_are_bits items l n [] are = are_bits-nil
kept_are_bits items l n (x ∷ xs) are =
    let rest = kept_are_bits items l (n + 1) xs (λ k. are (suc k)) in
    elim (cases_Bool (is_kept items l n)) [
      | inl kept ↦ rw kept (are_bits-cons x (kept_from items l (n + 1) xs) (are 0) rest)
      | inr gone ↦ rw gone rest
    ]

pub length-kept : (items : List Item) (l n : ℕ) (xs : List ℕ) → length (kept_from items l n xs) ≤ length xs
length-kept items l n [] = omega arith
length-kept items l n (x ∷ xs) =
    elim (cases_Bool (is_kept items l n)) [
      | inl kept ↦ rw kept (omega (arith, length-kept items l (n + 1) xs))
      | inr gone ↦ rw gone (omega (arith, length-kept items l (n + 1) xs))
    ]

-- a bit more of a number
pub bits-more : (n o : ℕ) → bits (n + 1) o ≡ bits n o ++ bits 1 (bit_at o n)
bits-more n o = sym (ap (λ t. bits n o ++ t) (bits-mod 1 1 (o / 2 ^ n) (omega arith)) ∙ bits-append n 1 o)

pub one_bit : (b : ℕ) → b < 2 → bits 1 b ≡ b ∷ []
one_bit b low = bits-suc 0 b ∙ rw bits-zero (ap (λ x. x ∷ []) (omega arith))

-- a bit that is kept, and one that isn't
pub one_kept : (items : List Item) (l n b : ℕ) → b < 2 → count_by (takes_out l n) items ≡ 0 → kept_from items l n (bits 1 b) ≡ bits 1 b
one_kept items l n b low none = rw (one_bit b low, eq-eqb (count_by (takes_out l n) items) 0 none) refl

pub one_gone : (items : List Item) (l n b : ℕ) → b < 2 → count_by (takes_out l n) items ≢ 0 → kept_from items l n (bits 1 b) ≡ []
one_gone items l n b low some = rw (one_bit b low, ne_eqb (count_by (takes_out l n) items) 0 some) refl

-- the bits kept of an octet, with one bit more
pub kept_more : (items : List Item) (l n i octet value width : ℕ) → count_by (takes_out l (n + i)) items ≡ 0
    → value < 2 ^ width → width < 8 → bits width value ≡ kept_from items l n (bits i octet)
    → bits (width + 1) (bit_or value (bit_at octet i * 2 ^ width % 2 ^ 8)) ≡ kept_from items l n (bits (i + 1) octet)
kept_more items l n i octet value width none fits narrow is =
    let b = bit_at octet i in
    let low = bit_at-lt octet i in
    let at : n + length (bits i octet) ≡ n + i = omega (arith, length-bits i octet) in
    rw (shl_whole b 1 width 8 (omega arith) (omega arith), or_comm value (b * 2 ^ width))
    (bits-or_shl width 1 value b fits ∙ rw (is, bits-more i octet, kept-append items l n (bits i octet) (bits 1 b), at)
    (ap (λ t. kept_from items l n (bits i octet) ++ t) (sym (one_kept items l (n + i) b low none))))

pub kept_less : (items : List Item) (l n i octet width value : ℕ) → count_by (takes_out l (n + i)) items ≢ 0
    → bits width value ≡ kept_from items l n (bits i octet) → bits width value ≡ kept_from items l n (bits (i + 1) octet)
kept_less items l n i octet width value some is =
    let at : n + length (bits i octet) ≡ n + i = omega (arith, length-bits i octet) in
    is ∙ rw (bits-more i octet, kept-append items l n (bits i octet) (bits 1 (bit_at octet i)), at, one_gone items l (n + i) (bit_at octet i) (bit_at-lt octet i) some)
    (sym (append-nil (kept_from items l n (bits i octet))))

-- one bit more has room
pub fits_more : (value b width : ℕ) → value < 2 ^ width → b < 2 → width < 8 → bit_or value (b * 2 ^ width % 2 ^ 8) < 2 ^ (width + 1)
fits_more value b width fits low narrow =
    let power : 2 ^ (width + 1) ≡ 2 ^ width + 2 ^ width = pow-add 2 width 1 ∙ omega arith in
    let most : b * 2 ^ width ≤ 1 * 2 ^ width = mul-le b (2 ^ width) 1 (2 ^ width) (omega arith) (omega arith) in
    rw (shl_whole b 1 width 8 (omega arith) (omega arith), or_comm value (b * 2 ^ width), or_shifted b width value fits, power) (omega (arith, most))

-- what a beat adds to a lane
pub changed_more : (items : List Item) (beats : List (List ℕ)) (beat : List ℕ) (l p : ℕ) → l < 16
    → ((i : ℕ) → i < 8 → bit_at p i ≡ (bit_at (get_or beat l 0) i + count_by (inverts l (8 * length beats + i)) items) % 2)
    → changed items (lanes_of (beats ++ beat ∷ [])) l
    ≡ changed items (lanes_of beats) l ++ kept_from items l (8 * length beats) (bits 8 p)
unfolding changed without_drops
changed_more items beats beat l p low each =
    let lane = lane_bits beats l in
    let size = length-lane_bits beats l in
    let start : 0 + length (inverted items l lane) ≡ 8 * length beats = omega (arith, length-inverted items l lane, size) in
    let longer = inverted_more items l (length beats) (get_or beat l 0) p lane size each in
    rw (lane_is (beats ++ beat ∷ []) l low, lane_is beats l low, lane_more beats beat l, longer, kept-append items l 0 (inverted items l lane) (bits 8 p), start)
    (sym (append_assoc (replicate (skew_of items l) 0) (kept_from items l 0 (inverted items l lane)) (kept_from items l (8 * length beats) (bits 8 p))))
