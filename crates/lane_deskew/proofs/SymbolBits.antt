-- Symbols out of a word of three octets.
use Rattle.std.proofs.Common.{◌≡◌, ℕ, ◌+◌, ◌-◌, ◌*◌, ◌/◌, ◌%◌, ◌^◌, ◌<◌, ◌≤◌, List, [], ◌∷◌, ◌++◌, length, take, drop, get_or, refl, sym, ap, ap₂, ◌∙◌, arith, length-take, length-drop}
use Rattle.std.specs.Prelude.{slice_range}
use Rattle.std.proofs.lemmas.List.{take-append-drop, take-append-le, drop-append-le, drop-drop, drop_more}
use Rattle.bit_lists.specs.Bits.{bits, all_bits, number}
use Rattle.bit_lists.proofs.Facts.{all_bits-cons, all_bits-nil, all_bits-append, bits-append, bits_field, bits-mod, bits-zero, length-all_bits, number-bits}
use Rattle.lane_lock.proofs.Rows.{drop-all_bits}

-- one octet more
more : (w n above : ℕ) (rest : List ℕ) → n / 256 ≡ above → bits w above ≡ all_bits 8 rest → bits (8 + w) n ≡ all_bits 8 (n % 256 ∷ rest)
more w n above rest e tail =
    sym (bits-append 8 w n)
    ∙ ap₂ (λ low high. low ++ high) (sym (bits-mod 8 8 n (omega arith))) (ap (bits w) e ∙ tail)
    ∙ sym (all_bits-cons 8 (n % 256) rest)

octets_of : (n : ℕ) → bits 24 n ≡ all_bits 8 (n % 256 ∷ n / 256 % 256 ∷ n / 65536 % 256 ∷ [])
octets_of n =
    more 16 n (n / 256) _ refl
    (more 8 (n / 256) (n / 65536) _ (omega arith)
    (more 0 (n / 65536) (n / 16777216) [] (omega arith) (bits-zero (n / 16777216) ∙ sym (all_bits-nil 8))))

-- the word of three octets
pub word_of : (xs : List ℕ) (m a b c : ℕ) → m + 3 ≤ length xs → get_or xs m 0 ≡ a → get_or xs (m + 1) 0 ≡ b → get_or xs (m + 2) 0 ≡ c
    → a < 256 → b < 256 → c < 256 → bits 24 (a + 256 * b + 65536 * c) ≡ all_bits 8 (take 3 (drop m xs))
word_of xs m a b c inside e f g la lb lc =
    let at : m + 1 + 1 ≡ m + 2 = omega arith in
    let word : ℕ = a + 256 * b + 65536 * c in
    octets_of word
    ∙ ap (all_bits 8) (ap₂ (λ x ys. x ∷ ys) (omega (arith, e)) (ap₂ (λ x y. x ∷ y ∷ []) (omega (arith, f)) (omega (arith, g)))
    ∙ sym (ap (take 3) (drop_more xs m 0 (omega (arith, inside)))
    ∙ ap (λ ys. get_or xs m 0 ∷ take 2 ys) (drop_more xs (m + 1) 0 (omega (arith, inside)))
    ∙ ap (λ k. get_or xs m 0 ∷ get_or xs (m + 1) 0 ∷ take 1 (drop k xs)) at
    ∙ ap (λ ys. get_or xs m 0 ∷ get_or xs (m + 1) 0 ∷ take 1 ys) (drop_more xs (m + 2) 0 (omega (arith, inside)))))

-- ten bits of a word are those of its octets
pub ten_bits : (xs : List ℕ) (m at n word : ℕ) → m + 3 ≤ length xs → at + 10 ≤ 24 → n ≡ 8 * m + at → bits 24 word ≡ all_bits 8 (take 3 (drop m xs))
    → word / 2 ^ at % 1024 ≡ number (slice_range (all_bits 8 xs) n (n + 10))
ten_bits xs m at n word inside small place is =
    let front : List ℕ = all_bits 8 (take 3 (drop m xs)) in
    let back : List ℕ = all_bits 8 (drop 3 (drop m xs)) in
    let size = length-all_bits 8 (take 3 (drop m xs)) in
    let taken = length-take 3 (drop m xs) in
    let left = length-drop m xs in
    let split : drop (8 * m) (all_bits 8 xs) ≡ front ++ back =
    drop-all_bits m xs (omega (arith, inside)) ∙ ap (all_bits 8) (sym (take-append-drop 3 (drop m xs)))
    ∙ all_bits-append 8 (take 3 (drop m xs)) (drop 3 (drop m xs)) in
    let ten : n + 10 - n ≡ 10 = omega arith in
    let whole : length front ≡ 24 = omega (arith, size, taken, left, inside) in
    let part : slice_range (all_bits 8 xs) n (n + 10) ≡ take 10 (drop at front) =
    ap₂ (λ w k. take w (drop k (all_bits 8 xs))) ten place
    ∙ ap (take 10) (sym (drop-drop at (8 * m) (all_bits 8 xs)) ∙ ap (drop at) split ∙ drop-append-le at front back (omega (arith, whole, small)))
    ∙ take-append-le 10 (drop at front) back (omega (arith, whole, small, length-drop at front)) in
    sym (number-bits 10 (word / 2 ^ at % 2 ^ 10) (omega arith))
    ∙ ap number (bits-mod 10 10 (word / 2 ^ at) (omega arith) ∙ bits_field 24 word at 10 small ∙ ap (λ bs. take 10 (drop at bs)) is ∙ sym part)
