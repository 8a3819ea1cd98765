-- A quiet test bars a match: where in no window three of the six octets stand that all markers share, the row is quiet.
use Rattle.std.proofs.Common.{◌≡◌, ℕ, ◌+◌, ◌-◌, ◌*◌, ◌/◌, ◌%◌, ◌^◌, ◌<◌, ◌≤◌, Bool, true, false, cond, List, [], ◌∷◌, ◌++◌, length, take, drop, get_or, replicate, sym, ap, ap₂, ◌∙◌, inl, inr, arith, length-append, length-drop, length-take}
use Rattle.std.specs.Prelude.{slice_index, ◌==◌}
use Rattle.std.specs.Int.{bit_at}
use Rattle.std.proofs.lemmas.Bool.{cases_lt}
use Rattle.std.proofs.lemmas.List.{get_or_append_left, get_or-take, get_or-drop}
use Rattle.bit_lists.specs.Bits.{bits, all_bits, cut}
use Rattle.bit_lists.proofs.Facts.{length-all_bits, at-all_bits, bits_cat, bits_by_places, bit_at-shr, bit_at-mod, get_or-bits, get_or-seam_left, get_or-seam_right, get_or-cut, number_of_bits}
use Rattle.marker_table.specs.Matches.{window}
use Rattle.lane_lock.specs.Seen.{mark, row_at, padded, last_octets}
use Rattle.lane_lock.proofs.Quick.{too_few, none_marked}
use Rattle.lane_lock.proofs.Rows.{row_at-drop, last_line}
use Rattle.lane_deskew.specs.Near.{shifted_octet, miss, misses}
use Rattle.lane_deskew.proofs.Vectors.{each_of_eight, is_octet, one_or_none}

-- the bits of an octet that begins in x
abbrev LowFits : ℕ → ℕ → Type 0
LowFits x k = x % 2 ^ 8 / 2 ^ k < 2 ^ (8 - k)

low_fits : (x k : ℕ) → 1 ≤ k → k ≤ 8 → x % 2 ^ 8 / 2 ^ k < 2 ^ (8 - k)
low_fits x k some most =
    each_of_eight (LowFits x) (omega arith) (omega arith) (omega arith) (omega arith) (omega arith) (omega arith) (omega arith) (omega arith) k some most

octet_bits : (x y k : ℕ) → 1 ≤ k → k ≤ 8 → bits 8 (shifted_octet k x y) ≡ bits (8 - k) (x % 2 ^ 8 / 2 ^ k) ++ bits k (y % 2 ^ k)
octet_bits x y k some most =
    let whole : 8 ≡ 8 - k + k = omega arith in
    ap (λ n. bits n (shifted_octet k x y)) whole ∙ bits_cat (8 - k) k (x % 2 ^ 8 / 2 ^ k) (y % 2 ^ k) (low_fits x k some most)

low_bit : (x y k j : ℕ) → 1 ≤ k → k ≤ 8 → k + j < 8 → bit_at (shifted_octet k x y) j ≡ bit_at x (k + j)
low_bit x y k j some most low =
    sym (get_or-bits 8 (shifted_octet k x y) j 0 (omega arith)) ∙ ap (λ bs. get_or bs j 0) (octet_bits x y k some most)
    ∙ get_or-seam_left (8 - k) (x % 2 ^ 8 / 2 ^ k) (bits k (y % 2 ^ k)) j (omega arith)
    ∙ bit_at-shr (x % 2 ^ 8) k j ∙ bit_at-mod x 8 (k + j) low

high_bit : (x y k j i : ℕ) → 1 ≤ k → k ≤ 8 → j < 8 → k + j ≡ 8 + i → bit_at (shifted_octet k x y) j ≡ bit_at y i
high_bit x y k j i some most low e =
    sym (get_or-bits 8 (shifted_octet k x y) j 0 low) ∙ ap (λ bs. get_or bs j 0) (octet_bits x y k some most)
    ∙ get_or-seam_right (8 - k) (x % 2 ^ 8 / 2 ^ k) (bits k (y % 2 ^ k)) j i (omega arith)
    ∙ get_or-bits k (y % 2 ^ k) i 0 (omega arith) ∙ bit_at-mod y k i (omega arith)

-- a bit of a window
window_bit : (line : List ℕ) (k n : ℕ) → n < 120 → get_or (window line k) n 0 ≡ get_or line (k + n) 0
window_bit line k n low = get_or-take (k + 120 - k) (drop k line) n 0 (omega arith) ∙ get_or-drop k line n 0

-- octet i of a window
octet_is : (xs : List ℕ) (k i : ℕ) → 1 ≤ k → k ≤ 8 → i < 15 → length xs ≡ 16
    → shifted_octet k (slice_index xs i) (slice_index xs (i + 1)) ≡ slice_index (cut 8 15 (window (all_bits 8 xs) k)) i
octet_is xs k i some most low size =
    number_of_bits 8 v part (is_octet (slice_index xs i) (slice_index xs (i + 1)) k some most) (sym (bits_by_places 8 v part long at))
    ∙ sym (get_or-cut 8 15 (window (all_bits 8 xs) k) i low)
  where
    v : ℕ
    v = shifted_octet k (slice_index xs i) (slice_index xs (i + 1))

    part : List ℕ
    part = take 8 (drop (i * 8) (window (all_bits 8 xs) k))

    long : length part ≡ 8
    long =
        let whole = length-all_bits 8 xs in
        let a = length-take 8 (drop (i * 8) (window (all_bits 8 xs) k)) in
        let b = length-drop (i * 8) (window (all_bits 8 xs) k) in
        let c = length-take (k + 120 - k) (drop k (all_bits 8 xs)) in
        let d = length-drop k (all_bits 8 xs) in omega (arith, whole, a, b, c, d)

    at : (j : ℕ) → j < 8 → get_or part j 0 ≡ bit_at v j
    at j small =
        get_or-take 8 (drop (i * 8) (window (all_bits 8 xs) k)) j 0 small ∙ get_or-drop (i * 8) (window (all_bits 8 xs) k) j 0
        ∙ window_bit (all_bits 8 xs) k (i * 8 + j) (omega arith)
        ∙ elim (cases_lt (k + j) 8) [
          | inl early ↦ at-all_bits 8 xs (k + (i * 8 + j)) i (k + j) (omega arith) early (omega arith)
              ∙ sym (low_bit (slice_index xs i) (slice_index xs (i + 1)) k j some most early)
          | inr late ↦
              let rest : k + j ≡ 8 + (k + j - 8) = omega arith in
              at-all_bits 8 xs (k + (i * 8 + j)) (i + 1) (k + j - 8) (omega arith) (omega arith) (omega arith)
              ∙ sym (high_bit (slice_index xs i) (slice_index xs (i + 1)) k j (k + j - 8) some most small rest)
        ]

complement : (b : Bool) → 1 - cond b 0 1 + cond b 0 1 ≡ 1
complement true = omega arith
complement false = omega arith

-- a window with four octets that aren't those of the markers
pub far_window : (xs : List ℕ) (k : ℕ) → 1 ≤ k → k ≤ 8 → length xs ≡ 16 → 4 ≤ misses k xs → mark (window (all_bits 8 xs) k) ≡ 16
far_window xs k some most size many =
    too_few w (1 - miss k xs 0 154) (1 - miss k xs 1 74) (1 - miss k xs 2 38) (1 - miss k xs 4 101) (1 - miss k xs 5 181) (1 - miss k xs 6 217)
    (other 0 154 (omega arith)) (other 1 74 (omega arith)) (other 2 38 (omega arith)) (other 4 101 (omega arith)) (other 5 181 (omega arith)) (other 6 217 (omega arith))
    (let m0 = few 0 154 in let m1 = few 1 74 in let m2 = few 2 38 in let m4 = few 4 101 in let m5 = few 5 181 in let m6 = few 6 217 in omega (arith, many, m0, m1, m2, m4, m5, m6))
  where
    w : List ℕ
    w = window (all_bits 8 xs) k

    few : (i o : ℕ) → miss k xs i o ≤ 1
    few i o = one_or_none (shifted_octet k (slice_index xs i) (slice_index xs (i + 1)) == o)

    other : (i o : ℕ) → i < 15 → 1 - miss k xs i o + cond (slice_index (cut 8 15 w) i == o) 0 1 ≡ 1
    other i o low =
        ap (λ n. 1 - miss k xs i o + cond (n == o) 0 1) (sym (octet_is xs k i some most low size))
        ∙ complement (shifted_octet k (slice_index xs i) (slice_index xs (i + 1)) == o)

miss_before : (xs : List ℕ) (x k i o : ℕ) → i + 1 < length xs → miss k (xs ++ x ∷ []) i o ≡ miss k xs i o
miss_before xs x k i o low =
    ap₂ (λ m n. cond (shifted_octet k m n == o) 0 1) (get_or_append_left xs (x ∷ []) 0 i (omega arith)) (get_or_append_left xs (x ∷ []) 0 (i + 1) low)

misses_before : (xs : List ℕ) (x k : ℕ) → length xs ≡ 15 → 4 ≤ misses k xs → 4 ≤ misses k (xs ++ x ∷ [])
misses_before xs x k size many =
    let a = miss_before xs x k 0 154 (omega arith) in
    let b = miss_before xs x k 1 74 (omega arith) in
    let c = miss_before xs x k 2 38 (omega arith) in
    let d = miss_before xs x k 4 101 (omega arith) in
    let e = miss_before xs x k 5 181 (omega arith) in
    let f = miss_before xs x k 6 217 (omega arith) in
    omega (arith, many, a, b, c, d, e, f)

-- the windows that end in an octet, after fifteen octets that bar a match
pub quiet_after : (os xs : List ℕ) (o : ℕ) → xs ≡ last_octets os → ((k : ℕ) → 1 ≤ k → k ≤ 8 → 4 ≤ misses k xs)
    → row_at (padded (os ++ o ∷ [])) (8 * length os) ≡ replicate 8 16
quiet_after os xs o is far =
    let zeros : List ℕ = replicate 15 0 in
    let size : length (zeros ++ os) ≡ 15 + length os = length-append zeros os in
    let kept = length-drop (length (zeros ++ os) - 15) (zeros ++ os) in
    let long : length xs ≡ 15 = ap length is ∙ omega (arith, size, kept) in
    let whole : length (xs ++ o ∷ []) ≡ 16 = length-append xs (o ∷ []) ∙ omega (arith, long) in
    sym (row_at-drop (padded (os ++ o ∷ [])) (8 * length os))
    ∙ ap (λ line. row_at line 0) (last_line os o ∙ ap (λ ys. all_bits 8 (ys ++ o ∷ [])) (sym is))
    ∙ sym (none_marked (all_bits 8 (xs ++ o ∷ [])) (λ j low. far_window (xs ++ o ∷ []) (0 + j + 1) (omega arith) (omega arith) whole (misses_before xs o (0 + j + 1) long (far (0 + j + 1) (omega arith) (omega arith)))))
