-- The rows of the octets taken, and the rows that a ring of octets gives.
use Rattle.std.proofs.Common.{◌≡◌, ◌≢◌, ℕ, zero, suc, ◌+◌, ◌-◌, ◌*◌, ◌/◌, ◌^◌, ◌<◌, ◌≤◌, List, [], ◌∷◌, ◌++◌, length, take, drop, replicate, Option, Some, None, refl, sym, ap, ap₂, ◌∙◌, inl, inr, arith, length-drop, length-take, append_assoc, append-nil, length-append, eq-eqb, ne_eqb, lt-ltb}
use Rattle.std.specs.Prelude.{slice_index, bit_or, bit_and, nat_lt, ◌==◌, if◌then◌else◌, option_map, min}
use Rattle.std.proofs.lemmas.Bool.{cases_lt, le-ltb}
use Rattle.std.proofs.lemmas.List.{drop-append-le, drop-drop, length-replicate, take-append-drop}
use Rattle.std.proofs.lemmas.List.FromFn.{get_or-map-range_with_len}
use Rattle.std.proofs.lemmas.Nat.{or_comm}
use Rattle.circular_buffer.specs.Buffer.{Buffer, buffer, keep_last}
use Rattle.bit_lists.specs.Bits.{bits, all_bits}
use Rattle.bit_lists.proofs.Facts.{all_bits-push, all_bits-append, all_bits-cons, all_bits-nil, bits_of_zero, length-all_bits, length-bits, drop-bits, bits-or_shl, bits_masked, bits_field, drop_after}
use Rattle.bit_lists.specs.Places.{for_each}
use Rattle.bit_lists.proofs.Lists.{map-range-same}
use Rattle.marker_table.specs.Matches.{window}
use Rattle.lane_lock.specs.Seen.{mark, row_at, row_of, padded, silence, last_octets}
use Rattle.lane_lock.proofs.Stable.{window-append}

pub column-row_at : (line : List ℕ) (n j : ℕ) → j < 8 → slice_index (row_at line n) j ≡ mark (window line (n + j + 1))
unfolding row_at for_each
column-row_at line n j low = get_or-map-range_with_len (λ j. mark (window line (n + j + 1))) 0 8 j j 0 low (omega arith)

pub length-padded : (os : List ℕ) → length (padded os) ≡ 120 + 8 * length os
unfolding padded
length-padded os = length-append (replicate 120 0) (all_bits 8 os) ∙ (let a : length (replicate 120 zero) ≡ 120 = length-replicate {A = ℕ} 120 0 in let b = length-all_bits 8 os in omega arith)

pub padded-push : (os : List ℕ) (o : ℕ) → padded (os ++ o ∷ []) ≡ padded os ++ bits 8 o
unfolding padded
padded-push os o = rw (all_bits-push 8 os o) (sym (append_assoc (replicate 120 0) (all_bits 8 os) (bits 8 o)))

-- a window behind the zeros
pub window-padded : (os : List ℕ) (n : ℕ) → window (padded os) (n + 120) ≡ window (all_bits 8 os) n
unfolding padded
window-padded os n =
    let wide : n + 120 + 120 - (n + 120) ≡ n + 120 - n = omega arith in
    let past : drop (n + 120) (replicate 120 0 ++ all_bits 8 os) ≡ drop n (all_bits 8 os) = drop_after (replicate 120 0) (all_bits 8 os) (n + 120) n (let a : length (replicate 120 zero) ≡ 120 = length-replicate {A = ℕ} 120 0 in omega arith) in
    ap₂ take wide past

row_at-append : (xs ys : List ℕ) (n : ℕ) → n + 128 ≤ length xs → row_at (xs ++ ys) n ≡ row_at xs n
unfolding row_at for_each
row_at-append xs ys n h = map-range-same (λ j. mark (window (xs ++ ys) (n + j + 1))) (λ j. mark (window xs (n + j + 1))) 0 8 (λ j a b. ap mark (window-append xs ys (n + j + 1) (omega arith)))

pub row_at-drop : (xs : List ℕ) (n : ℕ) → row_at (drop n xs) 0 ≡ row_at xs n
unfolding row_at for_each
row_at-drop xs n = map-range-same (λ j. mark (window (drop n xs) (0 + j + 1))) (λ j. mark (window xs (n + j + 1))) 0 8
    (λ j a b.
    let wide : 0 + j + 1 + 120 - (0 + j + 1) ≡ n + j + 1 + 120 - (n + j + 1) = omega arith in
    let at : n + (0 + j + 1) ≡ n + j + 1 = omega arith in
    ap mark (ap₂ take wide (drop-drop (0 + j + 1) n xs ∙ ap (λ k. drop k xs) at)))

pub row_at-push : (os : List ℕ) (o k : ℕ) → k < length os → row_at (padded (os ++ o ∷ [])) (8 * k) ≡ row_at (padded os) (8 * k)
row_at-push os o k low = let size = length-padded os in rw (padded-push os o) (row_at-append (padded os) (bits 8 o) (8 * k) (omega arith))

-- the ring
pub keep_last-push : {X : Type 0} (c : ℕ) (xs : List X) (y : X) → keep_last c (keep_last c xs ++ y ∷ []) ≡ keep_last c (xs ++ y ∷ [])
keep_last-push c xs y =
    let a : ℕ = length xs - c in
    let front : drop (length xs - c) (xs ++ y ∷ []) ≡ drop (length xs - c) xs ++ y ∷ [] = drop-append-le (length xs - c) xs (y ∷ []) (omega arith) in
    let size : length (drop (length xs - c) xs ++ y ∷ []) ≡ length xs - (length xs - c) + 1 = length-append (drop (length xs - c) xs) (y ∷ []) ∙ ap (λ n. n + 1) (length-drop (length xs - c) xs) in
    let size' : length (xs ++ y ∷ []) ≡ length xs + 1 = length-append xs (y ∷ []) in
    let sum : length xs - c + (length xs - (length xs - c) + 1 - c) ≡ length xs + 1 - c = omega arith in
    rw (size, size', ← front) (drop-drop (length xs - (length xs - c) + 1 - c) (length xs - c) (xs ++ y ∷ []) ∙ ap (λ n. drop n (xs ++ y ∷ [])) sum)

-- the padding is fifteen octets of zeros
pub padded_is : (os : List ℕ) → padded os ≡ all_bits 8 (silence ++ os)
unfolding padded all_bits bits
padded_is os = sym (all_bits-append 8 (replicate 15 0) os)

pub drop-all_bits : (n : ℕ) (xs : List ℕ) → n ≤ length xs → drop (8 * n) (all_bits 8 xs) ≡ all_bits 8 (drop n xs)
drop-all_bits zero xs le = refl
drop-all_bits (suc n) [] le = absurd (omega arith)
drop-all_bits (suc n) (x ∷ xs) le =
    let size = length-bits 8 x in
    ap (drop (8 * suc n)) (all_bits-cons 8 x xs) ∙ drop_after (bits 8 x) (all_bits 8 xs) (8 * suc n) (8 * n) (omega arith) ∙ drop-all_bits n xs (omega arith)

pub length-behind_silence : (os : List ℕ) → length (silence ++ os) ≡ length os + 15
length-behind_silence os = let size : length (silence ++ os) ≡ 15 + length os = length-append silence os in omega arith

-- the line of an octet
pub last_line : (os : List ℕ) (o : ℕ) → drop (8 * length os) (padded (os ++ o ∷ [])) ≡ all_bits 8 (last_octets os ++ o ∷ [])
last_line os o =
    let size = length-behind_silence os in
    let size' = length-behind_silence (os ++ o ∷ []) in
    let more : length (os ++ o ∷ []) ≡ length os + 1 = length-append os (o ∷ []) in
    let at : length os ≡ length (silence ++ os) - 15 = omega (arith, size) in
    ap (drop (8 * length os)) (padded_is (os ++ o ∷ []))
    ∙ drop-all_bits (length os) (silence ++ os ++ o ∷ []) (omega (arith, size', more))
    ∙ ap (all_bits 8) (ap (drop (length os)) (sym (append_assoc silence os (o ∷ []))) ∙ drop-append-le (length os) (silence ++ os) (o ∷ []) (omega (arith, size))
    ∙ ap (λ n. drop n (silence ++ os) ++ o ∷ []) at)

-- the row of an octet, by its line
pub row_of_line : (os : List ℕ) (o : ℕ) → row_at (all_bits 8 (last_octets os ++ o ∷ [])) 0 ≡ row_at (padded (os ++ o ∷ [])) (8 * length os)
row_of_line os o = ap (λ xs. row_at xs 0) (sym (last_line os o)) ∙ row_at-drop (padded (os ++ o ∷ [])) (8 * length os)

-- the last fifteen octets of a ring
pub kept_octets : (c : ℕ) (os : List ℕ) → 15 ≤ c → drop (length (keep_last c (silence ++ os)) - 15) (keep_last c (silence ++ os)) ≡ last_octets os
kept_octets c os most =
    let size = length-behind_silence os in
    let kept = length-drop (length (silence ++ os) - c) (silence ++ os) in
    let sum : length (silence ++ os) - c + (length (keep_last c (silence ++ os)) - 15) ≡ length (silence ++ os) - 15 = omega (arith, size, kept) in
    drop-drop (length (keep_last c (silence ++ os)) - 15) (length (silence ++ os) - c) (silence ++ os) ∙ ap (λ n. drop n (silence ++ os)) sum

-- the row of the octet so many before the next one, or none
unfoldable pub row_before : List ℕ → ℕ → Option (List ℕ)
row_before os count = if nat_lt (length os) count then None else Some (row_at (padded os) (8 * (length os - count)))

-- the row of the first line of sixteen octets from one on
first_row : (os : List ℕ) (m : ℕ) → m + 1 ≤ length os → row_at (all_bits 8 (take 16 (drop m (silence ++ os)))) 0 ≡ row_at (padded os) (8 * m)
first_row os m inside =
    let zs : List ℕ = silence ++ os in
    let size = length-behind_silence os in
    let left = length-drop m zs in
    let front = length-take 16 (drop m zs) in
    let whole = length-all_bits 8 (take 16 (drop m zs)) in
    let split : all_bits 8 (drop m zs) ≡ all_bits 8 (take 16 (drop m zs)) ++ all_bits 8 (drop 16 (drop m zs)) =
    ap (all_bits 8) (sym (take-append-drop 16 (drop m zs))) ∙ all_bits-append 8 (take 16 (drop m zs)) (drop 16 (drop m zs)) in
    sym (row_at-append (all_bits 8 (take 16 (drop m zs))) (all_bits 8 (drop 16 (drop m zs))) 0 (omega (arith, size, left, front, whole)))
    ∙ ap (λ xs. row_at xs 0) (sym split ∙ sym (drop-all_bits m zs (omega (arith, size))) ∙ ap (drop (8 * m)) (sym (padded_is os)))
    ∙ row_at-drop (padded os) (8 * m)

-- The first line of a full ring is that of the octet so many before the next one.
pub kept_row : (count : ℕ) (os : List ℕ) → 1 ≤ count
    → option_map row_of (if length (keep_last (count + 15) (silence ++ os)) == count + 15 then Some (take 16 (keep_last (count + 15) (silence ++ os))) else None)
    ≡ row_before os count
unfolding row_before
kept_row count os some = elim (cases_lt (length os) count) [
  | inl few ↦
      let not_full : length (keep_last (count + 15) (silence ++ os)) ≢ count + 15 = omega (arith, size, kept, few) in
      ap (λ b. option_map row_of (if b then Some (take 16 (keep_last (count + 15) (silence ++ os))) else None)) (ne_eqb _ _ not_full)
      ∙ sym (ap (λ b. if b then None else Some (row_at (padded os) (8 * (length os - count)))) (lt-ltb (length os) count few))
  | inr many ↦
      let full : length (keep_last (count + 15) (silence ++ os)) ≡ count + 15 = omega (arith, size, kept, many) in
      let at : length (silence ++ os) - (count + 15) ≡ length os - count = omega (arith, size) in
      ap (λ b. option_map row_of (if b then Some (take 16 (keep_last (count + 15) (silence ++ os))) else None)) (eq-eqb _ _ full)
      ∙ ap (λ n. Some (row_at (all_bits 8 (take 16 (drop n (silence ++ os)))) 0)) at
      ∙ ap Some (first_row os (length os - count) (omega (arith, some, many)))
      ∙ sym (ap (λ b. if b then None else Some (row_at (padded os) (8 * (length os - count)))) (le-ltb (length os) count many))
]
  where
    size : length (silence ++ os) ≡ length os + 15
    size = length-behind_silence os

    kept : length (keep_last (count + 15) (silence ++ os)) ≡ length (silence ++ os) - (length (silence ++ os) - (count + 15))
    kept = length-drop (length (silence ++ os) - (count + 15)) (silence ++ os)

-- the line of the last 120 bits and an octet
pub line_bits : (last o : ℕ) → last < 2 ^ 120 → bits 128 (bit_or last (o * 2 ^ 120)) ≡ bits 120 last ++ bits 8 o
line_bits last o low = ap (bits 128) (or_comm last (o * 2 ^ 120)) ∙ bits-or_shl 120 8 last o low

pub line_is : (os : List ℕ) (o last : ℕ) → last < 2 ^ 120 → bits 120 last ≡ drop (8 * length os) (padded os) → bits 128 (bit_or last (o * 2 ^ 120)) ≡ drop (8 * length os) (padded (os ++ o ∷ []))
line_is os o last low e =
    let size = length-padded os in
    line_bits last o low ∙ ap (λ xs. xs ++ bits 8 o) e ∙ sym (drop-append-le (8 * length os) (padded os) (bits 8 o) (omega arith)) ∙ ap (drop (8 * length os)) (sym (padded-push os o))

pub row_is : (os : List ℕ) (o line : ℕ) → bits 128 line ≡ drop (8 * length os) (padded (os ++ o ∷ [])) → row_at (bits 128 line) 0 ≡ row_at (padded (os ++ o ∷ [])) (8 * length os)
row_is os o line e = ap (λ xs. row_at xs 0) e ∙ row_at-drop (padded (os ++ o ∷ [])) (8 * length os)

pub last_is : (os : List ℕ) (o line : ℕ) → bits 128 line ≡ drop (8 * length os) (padded (os ++ o ∷ [])) → bits 120 (line / 2 ^ 8) ≡ drop (8 * length (os ++ o ∷ [])) (padded (os ++ o ∷ []))
last_is os o line e =
    let size : length (os ++ o ∷ []) ≡ length os + 1 = length-append os (o ∷ []) in
    let sum : 8 * length os + 8 ≡ 8 * length (os ++ o ∷ []) = omega (arith, size) in
    sym (drop-bits 8 128 line) ∙ ap (drop 8) e ∙ drop-drop 8 (8 * length os) (padded (os ++ o ∷ [])) ∙ ap (λ n. drop n (padded (os ++ o ∷ []))) sum

-- a ring in which fifteen zeros were put
pub filled : (b : Buffer ℕ) (n c : ℕ) → b ≡ buffer [] c → n ≡ min 15 (b.capacity - length b.items) → 15 ≤ c → buffer (b.items ++ take n silence) b.capacity ≡ buffer silence c
filled b n c e is most =
    let all : n ≡ 15 = is ∙ ap (λ (b : Buffer ℕ). min 15 (b.capacity - length b.items)) e ∙ omega (arith, most) in
    ap₂ (λ (b : Buffer ℕ) (n : ℕ). buffer (b.items ++ take n silence) b.capacity) e all

pub zeros : bits 120 0 ≡ drop 0 (padded [])
unfolding padded
zeros = bits_of_zero 120 ∙ sym (append-nil (replicate 120 0)) ∙ ap (λ xs. replicate 120 0 ++ xs) (sym (all_bits-nil 8))

-- fifteen octets behind the zeros
pub behind_zeros : (os : List ℕ) → length os ≡ 15 → drop (8 * length os) (padded os) ≡ all_bits 8 os
unfolding padded
behind_zeros os size =
    let past : 8 * length os ≡ length (replicate 120 zero) + 0 = let a : length (replicate 120 zero) ≡ 120 = length-replicate {A = ℕ} 120 0 in omega (arith, size, a) in
    drop_after (replicate 120 0) (all_bits 8 os) (8 * length os) 0 past

-- the window of a line, as the code cuts it
pub window_cut : (line j : ℕ) → j < 8 → bits 120 (bit_and (line / 2 ^ (j + 1)) (2 ^ 120 - 1)) ≡ window (bits 128 line) (j + 1)
window_cut line j low =
    let wide : 120 ≡ j + 1 + 120 - (j + 1) = omega arith in
    bits_masked 120 (line / 2 ^ (j + 1)) ∙ bits_field 128 line (j + 1) 120 (omega arith) ∙ ap (λ k. take k (drop (j + 1) (bits 128 line))) wide
