-- The rows that are read in the kept beats are those of the pair.
use Rattle.std.proofs.Common.{◌≡◌, ℕ, ◌+◌, ◌-◌, ◌*◌, ◌/◌, ◌%◌, ◌<◌, ◌≤◌, List, [], length, take, drop, get_or, map, sym, ap, ap₂, ◌∙◌, arith, length-take, length-drop, get_or-take, get_or-drop}
use Rattle.std.specs.Prelude.{slice_index, slice_index_or, slice_range}
use Rattle.std.specs.Int.{bit_at}
use Rattle.std.proofs.lemmas.List.{ext_get_or, get_or-map, length-map}
use Rattle.circular_buffer.specs.Buffer.{keep_last}
use Rattle.bit_lists.specs.Bits.{all_bits, number}
use Rattle.bit_lists.specs.Places.{for_each}
use Rattle.bit_lists.proofs.ByPlaces.{at-for_each, same_for_each, length-for_each}
use Rattle.bit_lists.proofs.Facts.{at-all_bits, length-all_bits}
use Rattle.pcs_bits.specs.Captures.{Capture, lane}
use Rattle.gf1024.specs.Symbol.{symbol, zero_symbol}
use Rattle.lane_deskew.specs.declared.Order.{Order}
use Rattle.lane_deskew.specs.Pairs.{pieces, pair_rows, lane_with}
use Rattle.lane_deskew.specs.State.{kept_octets, kept_rows}
use Rattle.lane_deskew.proofs.Aligned.{length-lane}

-- equal items give equal parts
part-same : (xs ys : List ℕ) (a b w : ℕ) → a + w ≤ length xs → b + w ≤ length ys → ((r : ℕ) → r < w → get_or xs (a + r) 0 ≡ get_or ys (b + r) 0)
    → take w (drop a xs) ≡ take w (drop b ys)
part-same xs ys a b w left right each =
    let size : (zs : List ℕ) (n : ℕ) → n + w ≤ length zs → length (take w (drop n zs)) ≡ w =
    λ zs n h. length-take w (drop n zs) ∙ omega (arith, length-drop n zs, h) in
    ext_get_or 0 (take w (drop a xs)) (take w (drop b ys)) (size xs a left ∙ sym (size ys b right))
    (λ r low.
    let small : r < w = omega (arith, low, size xs a left) in
    get_or-take w (drop a xs) r 0 small ∙ get_or-drop a xs r 0 ∙ each r small ∙ sym (get_or-take w (drop b ys) r 0 small ∙ get_or-drop b ys r 0))

-- a part of a part
range-range : (xs : List ℕ) (n a : ℕ) → a + 10 ≤ 680 → n + 680 ≤ length xs
    → slice_range (slice_range xs n (n + 680)) a (a + 10) ≡ slice_range xs (n + a) (n + a + 10)
range-range xs n a small within =
    let wide : n + 680 - n ≡ 680 = omega arith in
    let ten : a + 10 - a ≡ 10 = omega arith in
    let ten' : n + a + 10 - (n + a) ≡ 10 = omega arith in
    rw (wide, ten, ten') (part-same (take 680 (drop n xs)) xs a (n + a) 10
    (omega (arith, length-take 680 (drop n xs), length-drop n xs)) (omega arith)
    (λ r low. get_or-take 680 (drop n xs) (a + r) 0 (omega arith) ∙ get_or-drop n xs (a + r) 0 ∙ ap (λ k. get_or xs k 0) (omega arith)))

-- a kept beat
kept_beat : (n : ℕ) (beats kept : List (List ℕ)) (m j : ℕ) → kept ≡ keep_last n beats → length beats - n ≤ m
    → slice_index_or kept (m - (length beats - length kept) + j) [] ≡ slice_index_or beats (m + j) []
kept_beat n beats kept m j is le =
    let size : length kept ≡ length beats - (length beats - n) = ap length is ∙ length-drop (length beats - n) beats in
    let at : length beats - n + (m - (length beats - length kept) + j) ≡ m + j = omega (arith, size) in
    ap (λ xs. slice_index_or xs (m - (length beats - length kept) + j) []) is
    ∙ get_or-drop (length beats - n) beats (m - (length beats - length kept) + j) []
    ∙ ap (λ k. slice_index_or beats k []) at

-- bit k of a lane
bit-lane : (c : Capture) (l k : ℕ) → k < 8 * length c.beats → get_or (lane c l) k 0 ≡ bit_at (slice_index (slice_index_or c.beats (k / 8) []) l) (k % 8)
bit-lane c l k low =
    let octets : List ℕ = map (λ beat. slice_index beat l) c.beats in
    let count : length octets ≡ length c.beats = length-map c.beats (λ beat. slice_index beat l) in
    at-all_bits 8 octets k (k / 8) (k % 8) (omega arith) (omega arith) (omega (arith, count))
    ∙ ap (λ x. bit_at x (k % 8)) (get_or-map (λ beat. slice_index beat l) c.beats (k / 8) [] 0 (omega (arith, low)))

-- bit k of the octets that are read from octet m on
bit-kept : (n : ℕ) (c : Capture) (kept : List (List ℕ)) (m l k : ℕ) → kept ≡ keep_last n c.beats → length c.beats - n ≤ m → k < 696
    → get_or (all_bits 8 (kept_octets kept (length c.beats) m l)) k 0 ≡ bit_at (slice_index (slice_index_or c.beats (m + k / 8) []) l) (k % 8)
unfolding kept_octets
bit-kept n c kept m l k is le low =
    let octets : List ℕ = for_each 88 (λ j. slice_index (slice_index_or kept (m - (length c.beats - length kept) + j) []) l) in
    let count : length octets ≡ 88 = length-for_each 88 (λ j. slice_index (slice_index_or kept (m - (length c.beats - length kept) + j) []) l) in
    at-all_bits 8 octets k (k / 8) (k % 8) (omega arith) (omega arith) (omega (arith, count, low))
    ∙ ap (λ x. bit_at x (k % 8)) (at-for_each 88 (λ j. slice_index (slice_index_or kept (m - (length c.beats - length kept) + j) []) l) (k / 8) 0 (omega (arith, low)))
    ∙ ap (λ beat. bit_at (slice_index beat l) (k % 8)) (kept_beat n c.beats kept m (k / 8) is le)

length-kept : (kept : List (List ℕ)) (beats m l : ℕ) → length (all_bits 8 (kept_octets kept beats m l)) ≡ 704
unfolding kept_octets
length-kept kept beats m l =
    length-all_bits 8 (for_each 88 (λ j. slice_index (slice_index_or kept (m - (beats - length kept) + j) []) l))
    ∙ omega (arith, length-for_each 88 (λ j. slice_index (slice_index_or kept (m - (beats - length kept) + j) []) l))

-- ten bits of a lane
ten-bits : (n : ℕ) (c : Capture) (kept : List (List ℕ)) (l at k : ℕ) → kept ≡ keep_last n c.beats → length c.beats - n ≤ at / 8 → k < 68
    → at + 680 ≤ 8 * length c.beats
    → slice_range (all_bits 8 (kept_octets kept (length c.beats) (at / 8) l)) (at % 8 + 10 * k) (at % 8 + 10 * k + 10)
    ≡ slice_range (slice_range (lane c l) at (at + 680)) (10 * k) (10 * k + 10)
ten-bits n c kept l at k is le low within =
    let bits = length-lane c l in
    let size = length-kept kept (length c.beats) (at / 8) l in
    let ten : at % 8 + 10 * k + 10 - (at % 8 + 10 * k) ≡ 10 = omega arith in
    let ten' : at + 10 * k + 10 - (at + 10 * k) ≡ 10 = omega arith in
    rw (range-range (lane c l) at (10 * k) (omega arith) (omega (arith, bits)), ten, ten')
    (part-same (all_bits 8 (kept_octets kept (length c.beats) (at / 8) l)) (lane c l) (at % 8 + 10 * k) (at + 10 * k) 10
    (omega (arith, size)) (omega (arith, bits))
    (λ r small.
    let octet : at / 8 + (at % 8 + 10 * k + r) / 8 ≡ (at + 10 * k + r) / 8 = omega arith in
    let place : (at % 8 + 10 * k + r) % 8 ≡ (at + 10 * k + r) % 8 = omega arith in
    bit-kept n c kept (at / 8) l (at % 8 + 10 * k + r) is le (omega arith)
    ∙ ap₂ (λ i j. bit_at (slice_index (slice_index_or c.beats i []) l) j) octet place
    ∙ sym (bit-lane c l (at + 10 * k + r) (omega arith))))

pub kept_rows-is : (n : ℕ) (c : Capture) (kept : List (List ℕ)) (o : Order) (i : ℕ) → kept ≡ keep_last n c.beats
    → ((u : ℕ) → 8 * (length c.beats - n) ≤ slice_index o.places (lane_with o u) + 680 * i)
    → ((u : ℕ) → slice_index o.places (lane_with o u) + 680 * i + 680 ≤ 8 * length c.beats)
    → kept_rows kept (length c.beats) o i ≡ pair_rows (pieces c o i)
unfolding kept_rows pair_rows pieces
kept_rows-is n c kept o i is low high =
    same_for_each 68 _ _ [] (λ k small. same_for_each 16 _ _ zero_symbol (λ u few.
    let l : ℕ = lane_with o u in
    let at : ℕ = slice_index o.places l + 680 * i in
    let early : length c.beats - n ≤ at / 8 = omega (arith, low u) in
    ap (λ xs. symbol (number xs)) (ten-bits n c kept l at k is early small (omega (arith, high u))
    ∙ ap (λ xs. slice_range xs (10 * k) (10 * k + 10))
    (sym (at-for_each 16 (λ v. slice_range (lane c (lane_with o v)) (slice_index o.places (lane_with o v) + 680 * i) (slice_index o.places (lane_with o v) + 680 * i + 680)) u [] few)))))
