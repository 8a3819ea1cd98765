-- One more beat, or one more level beat, behind those that were taken.
use Rattle.std.proofs.Common.{◌≡◌, ℕ, zero, suc, ◌+◌, ◌-◌, ◌*◌, ◌/◌, ◌%◌, ◌<◌, ◌≤◌, Bool, List, [], ◌∷◌, ◌++◌, Option, Some, None, length, map, get_or, take, drop, replicate, refl, sym, ap, ap₂, ◌∙◌, inl, inr, arith, append-nil, length-append, length-take, length-drop, get_or-take, get_or-drop}
use Rattle.std.specs.Prelude.{flat_map}
use Rattle.std.specs.Int.{bit_at}
use Rattle.std.proofs.lemmas.Bool.{cases_lt}
use Rattle.std.proofs.lemmas.List.{append_assoc, map-append, get_or_append_left, get_or-append_right, get_or-replicate, get_or_past, length-replicate}
use Rattle.std.proofs.lemmas.List.Concat.{flat_map-append}
use Rattle.bit_lists.specs.Bits.{bits, all_bits, bit}
use Rattle.bit_lists.specs.Places.{for_each}
use Rattle.bit_lists.proofs.ByPlaces.{length-for_each, at-for_each, by_places}
use Rattle.bit_lists.proofs.Facts.{all_bits-nil, all_bits-cons, all_bits-append, length-bits, get_or-bits}
use Rattle.std.proofs.lemmas.Nat.Bits.{bit_at_lowest}
use Rattle.pma_link.specs.Levels.{lane_of, by_turns, stream, gray_numbers, bits_of_grays, last_of, coded, uncoded, levels, eight, levels_in, stream_in, phased_lane}
use Rattle.pma_link.specs.Histories.{last_level, AreBeats, IsLast, given, turned}
use Rattle.pma_link.proofs.Streams.{by_turns-append, gray_numbers-append, bits_of_grays-append, coded-append, uncoded-append, last_of-append}
use Rattle.pma_link.proofs.Pairs.{last-eight}
use Rattle.pma_link.proofs.Phases.{length-lane_of, same_lengths, turn, phased-turns}

-- ---- lists
pub zeros : (n k : ℕ) → get_or (replicate {A = ℕ} n 0) k 0 ≡ 0
zeros n k =
    elim (cases_lt k n) [
      | inl low ↦ get_or-replicate {A = ℕ} n k 0 0 low
      | inr high ↦ get_or_past {X = ℕ} (replicate {A = ℕ} n 0) k 0 (omega (arith, length-replicate {A = ℕ} n 0))
    ]

take-for_each : (m n : ℕ) (f : ℕ → ℕ) → m ≤ n → take m (for_each n f) ≡ for_each m f
take-for_each m n f h =
    by_places m f (take m (for_each n f)) 0 (length-take m (for_each n f) ∙ omega (arith, length-for_each n f))
    (λ k low. get_or-take m (for_each n f) k 0 low ∙ at-for_each n f k 0 (omega arith))

pub join-for_each : {X : Type 0} (d : X) (n m : ℕ) (f g h : ℕ → X) → ((k : ℕ) → k < n → f k ≡ h k) → ((k : ℕ) → k < m → g k ≡ h (n + k))
    → for_each (n + m) h ≡ for_each n f ++ for_each m g
join-for_each d n m f g h low high =
    let size : length (for_each n f) ≡ n = length-for_each n f in
    sym (by_places (n + m) h (for_each n f ++ for_each m g) d
    (length-append (for_each n f) (for_each m g) ∙ ap₂ (λ a b. a + b) size (length-for_each m g))
    (λ k small. elim (cases_lt k n) [
      | inl here ↦ get_or_append_left (for_each n f) (for_each m g) d k (omega (arith, size)) ∙ at-for_each n f k d here ∙ low k here
      | inr past ↦ get_or-append_right (for_each n f) (for_each m g) n k d size past ∙ at-for_each m g (k - n) d (omega arith)
          ∙ high (k - n) (omega arith) ∙ ap h (omega arith)
    ]))

-- ---- lanes and levels
pub lane_of-append : (xs ys : List (List ℕ)) (l : ℕ) → lane_of (xs ++ ys) l ≡ lane_of xs l ++ lane_of ys l
lane_of-append xs ys l =
    ap (all_bits 8) (map-append (λ beat. get_or beat l 0) xs ys)
    ∙ all_bits-append 8 (map (λ beat. get_or beat l 0) xs) (map (λ beat. get_or beat l 0) ys)

lane_of-one : (beat : List ℕ) (l : ℕ) → lane_of (beat ∷ []) l ≡ bits 8 (get_or beat l 0)
lane_of-one beat l = all_bits-cons 8 (get_or beat l 0) [] ∙ ap (λ xs. bits 8 (get_or beat l 0) ++ xs) (all_bits-nil 8) ∙ append-nil _

pub lane_of-push : (xs : List (List ℕ)) (beat : List ℕ) (l : ℕ) → lane_of (xs ++ beat ∷ []) l ≡ lane_of xs l ++ bits 8 (get_or beat l 0)
lane_of-push xs beat l = lane_of-append xs (beat ∷ []) l ∙ ap (λ ys. lane_of xs l ++ ys) (lane_of-one beat l)

pub stream-push : (xs : List (List ℕ)) (beat : List ℕ) (j : ℕ)
    → stream (xs ++ beat ∷ []) j ≡ stream xs j ++ by_turns (bits 8 (get_or beat (2 * j) 0)) (bits 8 (get_or beat (2 * j + 1) 0))
stream-push xs beat j =
    ap₂ by_turns (lane_of-push xs beat (2 * j)) (lane_of-push xs beat (2 * j + 1))
    ∙ by_turns-append (lane_of xs (2 * j)) (lane_of xs (2 * j + 1)) _ _ (same_lengths xs (2 * j) (2 * j + 1))

pub levels-push : (p : Bool) (xs : List (List ℕ)) (beat : List ℕ) (j : ℕ)
    → levels p (xs ++ beat ∷ []) j
    ≡ levels p xs j ++ coded p (last_of 0 (levels p xs j)) (gray_numbers (by_turns (bits 8 (get_or beat (2 * j) 0)) (bits 8 (get_or beat (2 * j + 1) 0))))
levels-push p xs beat j =
    ap (λ s. coded p 0 (gray_numbers s)) (stream-push xs beat j)
    ∙ ap (coded p 0) (gray_numbers-append (lane_of xs (2 * j)) (lane_of xs (2 * j + 1)) _ (same_lengths xs (2 * j) (2 * j + 1)))
    ∙ coded-append p 0 (gray_numbers (stream xs j)) _

pub levels_in-push : (xs : List (List ℕ)) (beat : List ℕ) (j : ℕ) → levels_in (xs ++ beat ∷ []) j ≡ levels_in xs j ++ eight beat j
unfolding levels_in
levels_in-push xs beat j =
    flat_map-append (λ beat. eight beat j) xs (beat ∷ [])
    ∙ ap (λ ls. flat_map (λ beat. eight beat j) xs ++ ls) (append-nil (eight beat j))

pub stream_in-push : (p : Bool) (xs : List (List ℕ)) (beat : List ℕ) (j : ℕ)
    → stream_in p (xs ++ beat ∷ []) j ≡ stream_in p xs j ++ bits_of_grays (uncoded p (last_of 0 (levels_in xs j)) (eight beat j))
stream_in-push p xs beat j =
    ap (λ ls. bits_of_grays (uncoded p 0 ls)) (levels_in-push xs beat j)
    ∙ ap bits_of_grays (uncoded-append p 0 (levels_in xs j) (eight beat j))
    ∙ bits_of_grays-append (uncoded p 0 (levels_in xs j)) _

-- the last level after one more level beat
pub last_in-push : (xs : List (List ℕ)) (beat : List ℕ) (j : ℕ) → last_level beat j ≡ last_of 0 (levels_in (xs ++ beat ∷ []) j)
last_in-push xs beat j =
    sym (ap (last_of 0) (levels_in-push xs beat j) ∙ last_of-append 0 (levels_in xs j) (eight beat j)
    ∙ last-eight (last_of 0 (levels_in xs j)) beat j)

-- the beats go on as the level beats do
pub beats-push : (p : Bool) (taken beats : List (List ℕ)) (last level_beat beat : List ℕ) → AreBeats p taken beats
    → ((j : ℕ) → j < 8 → last_level last j ≡ last_of 0 (levels_in taken j))
    → ((j : ℕ) → j < 8 → by_turns (bits 8 (get_or beat (2 * j) 0)) (bits 8 (get_or beat (2 * j + 1) 0)) ≡ bits_of_grays (uncoded p (last_level last j) (eight level_beat j)))
    → AreBeats p (taken ++ level_beat ∷ []) (beats ++ beat ∷ [])
beats-push p taken beats last level_beat beat are lasts each = record {
  same_length = length-append beats (beat ∷ []) ∙ ap (λ n. n + 1) are.same_length ∙ sym (length-append taken (level_beat ∷ []));
  streams = λ j low. stream_in-push p taken level_beat j
      ∙ ap₂ (λ x y. x ++ y) (are.streams j low)
      (ap (λ b. bits_of_grays (uncoded p b (eight level_beat j))) (sym (lasts j low)) ∙ sym (each j low))
      ∙ sym (stream-push beats beat j);
}

-- ---- turns
turn-behind : (xs xs' ys ys' : List ℕ) (r a n : ℕ) → length xs ≡ a → length ys ≡ a → turn (xs ++ xs') (ys ++ ys') r (a + n) ≡ turn xs' ys' r n
turn-behind xs xs' ys ys' zero a n ex ey = get_or-append_right xs xs' a (a + n) 0 ex (omega arith) ∙ ap (λ k. get_or xs' k 0) (omega arith)
turn-behind xs xs' ys ys' (suc zero) a n ex ey = get_or-append_right ys ys' a (a + n) 0 ey (omega arith) ∙ ap (λ k. get_or ys' k 0) (omega arith)
turn-behind xs xs' ys ys' (suc (suc r)) a n ex ey = get_or-append_right xs xs' a (a + n + 1) 0 ex (omega arith) ∙ ap (λ k. get_or xs' k 0) (omega arith)

turn-before : (xs xs' ys ys' : List ℕ) (r n : ℕ) → n + 1 < length xs → length xs ≡ length ys → turn (xs ++ xs') (ys ++ ys') r n ≡ turn xs ys r n
turn-before xs xs' ys ys' zero n low e = get_or_append_left xs xs' 0 n (omega arith)
turn-before xs xs' ys ys' (suc zero) n low e = get_or_append_left ys ys' 0 n (omega (arith, e))
turn-before xs xs' ys ys' (suc (suc r)) n low e = get_or_append_left xs xs' 0 (n + 1) low

-- zeros behind a list change nothing
get_or-zeros : (xs zs : List ℕ) (n : ℕ) → ((k : ℕ) → get_or zs k 0 ≡ 0) → get_or (xs ++ zs) n 0 ≡ get_or xs n 0
get_or-zeros xs zs n none =
    elim (cases_lt n (length xs)) [
      | inl low ↦ get_or_append_left xs zs 0 n low
      | inr high ↦ get_or-append_right xs zs (length xs) n 0 refl high ∙ none (n - length xs) ∙ sym (get_or_past xs n 0 high)
    ]

turn-zeros : (xs zs ys ws : List ℕ) (r n : ℕ) → ((k : ℕ) → get_or zs k 0 ≡ 0) → ((k : ℕ) → get_or ws k 0 ≡ 0) → turn (xs ++ zs) (ys ++ ws) r n ≡ turn xs ys r n
turn-zeros xs zs ys ws zero n hz hw = get_or-zeros xs zs n hz
turn-zeros xs zs ys ws (suc zero) n hz hw = get_or-zeros ys ws n hw
turn-zeros xs zs ys ws (suc (suc r)) n hz hw = get_or-zeros xs zs (n + 1) hz

-- ---- phased lanes
pub same_phased : (mask : ℕ) (s t : ℕ → List ℕ) (l : ℕ) → s (l / 2) ≡ t (l / 2) → phased_lane mask s l ≡ phased_lane mask t l
unfolding phased_lane
same_phased mask s t l e = ap (λ x. for_each (length x / 2) (λ n. bit x (2 * n + l % 2 + bit_at mask (l / 2)))) e

-- the two lanes of a level lane, read from a turn on
abbrev pub read : List (List ℕ) → ℕ → ℕ → ℕ → ℕ
read beats l r n = turn (lane_of beats (2 * (l / 2))) (lane_of beats (2 * (l / 2) + 1)) r n

pub phased-read : (mask : ℕ) (beats : List (List ℕ)) (l : ℕ)
    → phased_lane mask (stream beats) l ≡ for_each (8 * length beats) (read beats l (l % 2 + bit_at mask (l / 2)))
phased-read mask beats l =
    let xs = lane_of beats (2 * (l / 2)) in
    let ys = lane_of beats (2 * (l / 2) + 1) in
    phased-turns mask (stream beats) xs ys l (same_lengths beats (2 * (l / 2)) (2 * (l / 2) + 1)) refl
    ∙ ap (λ n. for_each n (turn xs ys (l % 2 + bit_at mask (l / 2)))) (length-lane_of beats (2 * (l / 2)))

read-behind : (before after : List (List ℕ)) (l r n : ℕ) → read (before ++ after) l r (8 * length before + n) ≡ read after l r n
read-behind before after l r n =
    ap₂ (λ xs ys. turn xs ys r (8 * length before + n)) (lane_of-append before after (2 * (l / 2))) (lane_of-append before after (2 * (l / 2) + 1))
    ∙ turn-behind (lane_of before (2 * (l / 2))) _ (lane_of before (2 * (l / 2) + 1)) _ r (8 * length before) n
    (length-lane_of before (2 * (l / 2))) (length-lane_of before (2 * (l / 2) + 1))

read-before : (before after : List (List ℕ)) (l r n : ℕ) → n + 1 < 8 * length before → read (before ++ after) l r n ≡ read before l r n
read-before before after l r n low =
    ap₂ (λ xs ys. turn xs ys r n) (lane_of-append before after (2 * (l / 2))) (lane_of-append before after (2 * (l / 2) + 1))
    ∙ turn-before (lane_of before (2 * (l / 2))) _ (lane_of before (2 * (l / 2) + 1)) _ r n
    (omega (arith, low, length-lane_of before (2 * (l / 2)))) (same_lengths before (2 * (l / 2)) (2 * (l / 2) + 1))

zero_lane : (k n : ℕ) → get_or (lane_of (replicate 16 0 ∷ []) k) n 0 ≡ 0
unfolding bits
zero_lane k n =
    ap (λ xs. get_or xs n 0) (lane_of-one (replicate 16 0) k)
    ∙ ap (λ x. get_or (bits 8 x) n 0) (zeros 16 k) ∙ zeros 8 n

read-zeros : (beat : List ℕ) (l r n : ℕ) → read (beat ∷ replicate 16 0 ∷ []) l r n ≡ read (beat ∷ []) l r n
read-zeros beat l r n =
    ap₂ (λ xs ys. turn xs ys r n) (lane_of-append (beat ∷ []) (replicate 16 0 ∷ []) (2 * (l / 2))) (lane_of-append (beat ∷ []) (replicate 16 0 ∷ []) (2 * (l / 2) + 1))
    ∙ turn-zeros (lane_of (beat ∷ []) (2 * (l / 2))) _ (lane_of (beat ∷ []) (2 * (l / 2) + 1)) _ r n (zero_lane (2 * (l / 2))) (zero_lane (2 * (l / 2) + 1))

-- the bits of all beats but the last
abbrev pub all_but_last : ℕ → List (List ℕ) → ℕ → List ℕ
all_but_last mask beats l = take (8 * (length beats - 1)) (phased_lane mask (stream beats) l)

but_last-read : (mask : ℕ) (before : List (List ℕ)) (beat : List ℕ) (l : ℕ)
    → all_but_last mask (before ++ beat ∷ []) l ≡ for_each (8 * length before) (read (before ++ beat ∷ []) l (l % 2 + bit_at mask (l / 2)))
but_last-read mask before beat l =
    let beats = before ++ beat ∷ [] in
    let size : length beats ≡ length before + 1 = length-append before (beat ∷ []) in
    let less : 8 * (length beats - 1) ≡ 8 * length before = omega (arith, size) in
    ap₂ take less (phased-read mask beats l)
    ∙ take-for_each (8 * length before) (8 * length beats) (read beats l (l % 2 + bit_at mask (l / 2))) (omega (arith, size))

two-read : (mask : ℕ) (beat next : List ℕ) (l : ℕ)
    → take 8 (phased_lane mask (stream (beat ∷ next ∷ [])) l) ≡ for_each 8 (read (beat ∷ next ∷ []) l (l % 2 + bit_at mask (l / 2)))
two-read mask beat next l =
    ap (take 8) (phased-read mask (beat ∷ next ∷ []) l)
    ∙ take-for_each 8 16 (read (beat ∷ next ∷ []) l (l % 2 + bit_at mask (l / 2))) (omega arith)

pub one_more_given : (mask : ℕ) (before : List (List ℕ)) (beat next : List ℕ) (l : ℕ)
    → all_but_last mask ((before ++ beat ∷ []) ++ next ∷ []) l
    ≡ all_but_last mask (before ++ beat ∷ []) l ++ take 8 (phased_lane mask (stream (beat ∷ next ∷ [])) l)
one_more_given mask before beat next l =
    let r = l % 2 + bit_at mask (l / 2) in
    let beats = before ++ beat ∷ [] in
    let size : length beats ≡ length before + 1 = length-append before (beat ∷ []) in
    let more : 8 * length beats ≡ 8 * length before + 8 = omega (arith, size) in
    but_last-read mask beats next l
    ∙ ap (λ n. for_each n (read (beats ++ next ∷ []) l r)) more
    ∙ join-for_each 0 (8 * length before) 8 (read beats l r) (read (beat ∷ next ∷ []) l r) (read (beats ++ next ∷ []) l r)
    (λ k low. sym (read-before beats (next ∷ []) l r k (omega (arith, size))))
    (λ k low. sym (ap (λ bs. read bs l r (8 * length before + k)) (append_assoc before (beat ∷ []) (next ∷ [])) ∙ read-behind before (beat ∷ next ∷ []) l r k))
    ∙ sym (ap₂ (λ x y. x ++ y) (but_last-read mask before beat l) (two-read mask beat next l))

pub last_given : (mask : ℕ) (before : List (List ℕ)) (beat : List ℕ) (l : ℕ)
    → phased_lane mask (stream (before ++ beat ∷ [])) l
    ≡ all_but_last mask (before ++ beat ∷ []) l ++ take 8 (phased_lane mask (stream (beat ∷ replicate 16 0 ∷ [])) l)
last_given mask before beat l =
    let r = l % 2 + bit_at mask (l / 2) in
    let beats = before ++ beat ∷ [] in
    let size : length beats ≡ length before + 1 = length-append before (beat ∷ []) in
    let more : 8 * length beats ≡ 8 * length before + 8 = omega (arith, size) in
    phased-read mask beats l
    ∙ ap (λ n. for_each n (read beats l r)) more
    ∙ join-for_each 0 (8 * length before) 8 (read beats l r) (read (beat ∷ replicate 16 0 ∷ []) l r) (read beats l r)
    (λ k low. refl)
    (λ k low. read-zeros beat l r k ∙ sym (read-behind before (beat ∷ []) l r k))
    ∙ sym (ap₂ (λ x y. x ++ y) (but_last-read mask before beat l) (two-read mask beat (replicate 16 0) l))

-- ---- octets of a phased beat
bits-at : (xs : List ℕ) (x n : ℕ) → n < 8 → get_or (bits 8 x ++ xs) n 0 ≡ get_or (bits 8 x) n 0
bits-at xs x n low = get_or_append_left (bits 8 x) xs 0 n (omega (arith, length-bits 8 x))

turned-is : (first second next other r n : ℕ) → n < 8
    → get_or (turned first second next r) n 0 ≡ turn (bits 8 first ++ bits 8 next) (bits 8 second ++ bits 8 other) r n
turned-is first second next other zero n low = sym (bits-at (bits 8 next) first n low)
turned-is first second next other (suc zero) n low = sym (bits-at (bits 8 other) second n low)
turned-is first second next other (suc (suc r)) n low =
    elim (cases_lt n 7) [
      | inl here ↦
          let size : length (drop 1 (bits 8 first)) ≡ 7 = length-drop 1 (bits 8 first) ∙ omega (arith, length-bits 8 first) in
          get_or_append_left (drop 1 (bits 8 first)) (next % 2 ∷ []) 0 n (omega (arith, size))
          ∙ get_or-drop 1 (bits 8 first) n 0 ∙ ap (λ k. get_or (bits 8 first) k 0) (omega arith)
          ∙ sym (bits-at (bits 8 next) first (n + 1) (omega arith))
      | inr last ↦
          let size : length (drop 1 (bits 8 first)) ≡ 7 = length-drop 1 (bits 8 first) ∙ omega (arith, length-bits 8 first) in
          let seven : n ≡ 7 = omega arith in
          ap (λ k. get_or (drop 1 (bits 8 first) ++ next % 2 ∷ []) k 0) seven
          ∙ get_or-append_right (drop 1 (bits 8 first)) (next % 2 ∷ []) 7 7 0 size (omega arith)
          ∙ sym (ap (λ k. get_or (bits 8 first ++ bits 8 next) (k + 1) 0) seven
          ∙ get_or-append_right (bits 8 first) (bits 8 next) 8 8 0 (length-bits 8 first) (omega arith)
          ∙ get_or-bits 8 next 0 0 (omega arith) ∙ bit_at_lowest next)
    ]

-- the octet of lane l of a beat that is read with its phases
pub octet-phased : (mask : ℕ) (beat next : List ℕ) (l octet : ℕ)
    → bits 8 octet ≡ turned (get_or beat (2 * (l / 2)) 0) (get_or beat (2 * (l / 2) + 1) 0) (get_or next (2 * (l / 2)) 0) (l % 2 + bit_at mask (l / 2))
    → bits 8 octet ≡ take 8 (phased_lane mask (stream (beat ∷ next ∷ [])) l)
octet-phased mask beat next l octet e =
    let r = l % 2 + bit_at mask (l / 2) in
    by_places 8 (read (beat ∷ next ∷ []) l r) (bits 8 octet) 0 (length-bits 8 octet)
    (λ n low. ap (λ xs. get_or xs n 0) e
    ∙ turned-is _ _ _ (get_or next (2 * (l / 2) + 1) 0) r n low
    ∙ sym (ap₂ (λ xs ys. turn xs ys r n) (two_lanes beat next (2 * (l / 2))) (two_lanes beat next (2 * (l / 2) + 1))))
    ∙ sym (two-read mask beat next l)
  where
    two_lanes : (beat next : List ℕ) (k : ℕ) → lane_of (beat ∷ next ∷ []) k ≡ bits 8 (get_or beat k 0) ++ bits 8 (get_or next k 0)
    two_lanes beat next k = lane_of-push (beat ∷ []) next k ∙ ap (λ xs. xs ++ bits 8 (get_or next k 0)) (lane_of-one beat k)

-- ---- a demultiplexer's history
pub none_taken : (p : Bool) (taken beats : List (List ℕ)) → AreBeats p taken beats → beats ≡ [] → taken ≡ []
none_taken p [] beats are none = refl
none_taken p (x ∷ taken) beats are none = absurd (omega (arith, are.same_length, ap length none))

pub last_none : (held : Option (List ℕ)) (beats : List (List ℕ)) → held ≡ None → IsLast held beats → beats ≡ []
last_none None beats e is = is
last_none (Some x) beats e is = absurd cc

pub last_some : (held : Option (List ℕ)) (beat : List ℕ) (beats : List (List ℕ)) → held ≡ Some beat → IsLast held beats
    → (before : List (List ℕ)) × (beats ≡ before ++ beat ∷ [])
last_some held beat beats e is = rw e at is

pub some_taken : (p : Bool) (taken beats before : List (List ℕ)) (beat : List ℕ) → AreBeats p taken beats → beats ≡ before ++ beat ∷ [] → taken ≡ [] → ⊥
some_taken p taken beats before beat are e none = omega (arith, are.same_length, ap length e, length-append before (beat ∷ []), ap length none)

given-beats : (mask : ℕ) (p : Bool) (taken beats : List (List ℕ)) (l : ℕ) → AreBeats p taken beats → l < 16 → given mask p taken l ≡ all_but_last mask beats l
given-beats mask p taken beats l are low =
    ap₂ (λ n xs. take (8 * (n - 1)) xs) (sym are.same_length)
    (same_phased mask (stream_in p taken) (stream beats) l (are.streams (l / 2) (omega arith)))

-- the beat before a new one is given
pub given-more : (mask : ℕ) (p : Bool) (taken more beats before : List (List ℕ)) (beat next : List ℕ) (l octet : ℕ) → l < 16
    → AreBeats p taken beats → AreBeats p more (beats ++ next ∷ []) → beats ≡ before ++ beat ∷ []
    → bits 8 octet ≡ take 8 (phased_lane mask (stream (beat ∷ next ∷ [])) l)
    → given mask p more l ≡ given mask p taken l ++ bits 8 octet
given-more mask p taken more beats before beat next l octet low are are' e o =
    given-beats mask p more (beats ++ next ∷ []) l are' low
    ∙ ap (λ bs. all_but_last mask (bs ++ next ∷ []) l) e
    ∙ one_more_given mask before beat next l
    ∙ ap₂ (λ x y. x ++ y) (sym (given-beats mask p taken beats l are low ∙ ap (λ bs. all_but_last mask bs l) e)) (sym o)

-- the last beat is given, as if zeros came behind it
pub given-last : (mask : ℕ) (p : Bool) (taken beats before : List (List ℕ)) (beat : List ℕ) (l octet : ℕ) → l < 16
    → AreBeats p taken beats → beats ≡ before ++ beat ∷ []
    → bits 8 octet ≡ take 8 (phased_lane mask (stream (beat ∷ replicate 16 0 ∷ [])) l)
    → phased_lane mask (stream_in p taken) l ≡ given mask p taken l ++ bits 8 octet
given-last mask p taken beats before beat l octet low are e o =
    same_phased mask (stream_in p taken) (stream beats) l (are.streams (l / 2) (omega arith))
    ∙ ap (λ bs. phased_lane mask (stream bs) l) e
    ∙ last_given mask before beat l
    ∙ ap₂ (λ x y. x ++ y) (sym (given-beats mask p taken beats l are low ∙ ap (λ bs. all_but_last mask bs l) e)) (sym o)
