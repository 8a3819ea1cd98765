-- The bits of wides, packed into words.
use Rattle.std.proofs.Common.{◌≡◌, ℕ, ◌+◌, ◌<◌, ◌≤◌, List, [], ◌∷◌, ◌++◌, length, get_or, take, set, sym, ◌∙◌, ap, arith, append-nil, get_or-set_same}
use Rattle.std.proofs.lemmas.List.{append_assoc, take_more, take_more_set, take-set}
use Rattle.bit_lists.specs.Bits.{bits, all_bits}
use Rattle.bit_lists.specs.Places.{flat}
use Rattle.bit_lists.proofs.Facts.{all_bits-append, all_bits-push, all_bits_more}
use Rattle.bit_lists.proofs.ByPlaces.{flat_more}
use Rattle.pcs_bits.specs.Wides.{wide_bits}
use Rattle.pcs_bits.specs.WideWords.{wide_bits_split}

-- a word of a wide put behind the rest, and the word that this fills
pub word_packed : (words five : List ℕ) (p j w : ℕ) (A R Q longer left : List ℕ) → p < length words → j < length five
    → all_bits 64 (take p words) ++ Q ≡ A ++ (R ++ all_bits 64 (take j five))
    → longer ≡ Q ++ bits 64 (get_or five j 0) → longer ≡ bits 64 w ++ left
    → all_bits 64 (take (p + 1) (set words p w)) ++ left ≡ A ++ (R ++ all_bits 64 (take (j + 1) five))
word_packed words five p j w A R Q longer left low lowj same pushed popped =
    let X = all_bits 64 (take p words) in
    let Y = all_bits 64 (take j five) in
    let b = bits 64 (get_or five j 0) in
    rw (take_more_set words p w low, all_bits-push, all_bits_more 64 five j lowj)
    (append_assoc X (bits 64 w) left ∙ ap (λ q. X ++ q) (sym popped ∙ pushed) ∙ sym (append_assoc X Q b) ∙ ap (λ t. t ++ b) same
    ∙ append_assoc A (R ++ Y) b ∙ ap (λ t. A ++ t) (append_assoc R Y b))

-- the last bit of a wide put behind the rest
pub wide_packed : (X A R Q longer five : List ℕ) → length five ≡ 5 → X ++ Q ≡ A ++ (R ++ all_bits 64 (take 4 five))
    → longer ≡ Q ++ bits 1 (get_or five 4 0) → X ++ longer ≡ A ++ (R ++ wide_bits five)
wide_packed X A R Q longer five count same pushed =
    let Y = all_bits 64 (take 4 five) in
    let b = bits 1 (get_or five 4 0) in
    ap (λ q. X ++ q) pushed ∙ sym (append_assoc X Q b) ∙ ap (λ t. t ++ b) same ∙ append_assoc A (R ++ Y) b
    ∙ ap (λ t. A ++ t) (append_assoc R Y b ∙ ap (λ t. R ++ t) (sym (wide_bits_split five count)))

-- one wide more
pub wide_more : (wides : List (List ℕ)) (i : ℕ) (d old rest new : List ℕ) → i < length wides → old ++ rest ≡ flat (take i wides)
    → new ≡ old ++ (rest ++ get_or wides i d) → new ≡ flat (take (i + 1) wides)
wide_more wides i d old rest new low before put =
    let wide = get_or wides i d in
    put ∙ sym (append_assoc old rest wide) ∙ ap (λ t. t ++ wide) before ∙ sym (flat_more wides i d low)

-- the last forty bits
pub all_packed : (words : List ℕ) (last : ℕ) (rest left pair : List ℕ) → length words ≡ 161 → all_bits 64 (take 160 words) ++ rest ≡ pair
    → rest ≡ bits 40 last ++ left → length left ≡ 0
    → all_bits 64 (take 160 (set words 160 last)) ++ bits 40 (get_or (set words 160 last) 160 0) ≡ pair
all_packed words last rest [] pair size same popped none =
    rw (take-set words 160 last, get_or-set_same words 160 last 0 (omega arith))
    (ap (λ q. all_bits 64 (take 160 words) ++ q) (sym (append-nil (bits 40 last)) ∙ sym popped) ∙ same)
all_packed words last rest (x ∷ left) pair size same popped none = absurd (omega arith)

-- five words more
pub five_more : (words : List ℕ) (n : ℕ) → n + 5 ≤ length words
    → all_bits 64 (take (n + 5) words)
    ≡ all_bits 64 (take n words)
    ++ all_bits 64 (get_or words n 0 ∷ get_or words (n + 1) 0 ∷ get_or words (n + 2) 0 ∷ get_or words (n + 3) 0 ∷ get_or words (n + 4) 0 ∷ [])
five_more words n room =
    let w : ℕ → ℕ = λ k. get_or words k 0 in
    let X = take n words in
    let t1 : take (n + 1) words ≡ X ++ (w n ∷ []) = take_more words n 0 (omega arith) in
    let t2 : take (n + 2) words ≡ X ++ (w n ∷ w (n + 1) ∷ []) =
    ap (λ m. take m words) (omega arith) ∙ take_more words (n + 1) 0 (omega arith) ∙ ap (λ t. t ++ w (n + 1) ∷ []) t1
    ∙ append_assoc X (w n ∷ []) (w (n + 1) ∷ []) in
    let t3 : take (n + 3) words ≡ X ++ (w n ∷ w (n + 1) ∷ w (n + 2) ∷ []) =
    ap (λ m. take m words) (omega arith) ∙ take_more words (n + 2) 0 (omega arith) ∙ ap (λ t. t ++ w (n + 2) ∷ []) t2
    ∙ append_assoc X (w n ∷ w (n + 1) ∷ []) (w (n + 2) ∷ []) in
    let t4 : take (n + 4) words ≡ X ++ (w n ∷ w (n + 1) ∷ w (n + 2) ∷ w (n + 3) ∷ []) =
    ap (λ m. take m words) (omega arith) ∙ take_more words (n + 3) 0 (omega arith) ∙ ap (λ t. t ++ w (n + 3) ∷ []) t3
    ∙ append_assoc X (w n ∷ w (n + 1) ∷ w (n + 2) ∷ []) (w (n + 3) ∷ []) in
    let t5 : take (n + 5) words ≡ X ++ (w n ∷ w (n + 1) ∷ w (n + 2) ∷ w (n + 3) ∷ w (n + 4) ∷ []) =
    ap (λ m. take m words) (omega arith) ∙ take_more words (n + 4) 0 (omega arith) ∙ ap (λ t. t ++ w (n + 4) ∷ []) t4
    ∙ append_assoc X (w n ∷ w (n + 1) ∷ w (n + 2) ∷ w (n + 3) ∷ []) (w (n + 4) ∷ []) in
    ap (all_bits 64) t5 ∙ all_bits-append 64 X _
