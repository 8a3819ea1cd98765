-- The words and the texts of `kr`.
use Rattle.std.proofs.Common.{◌≡◌, ℕ, ◌+◌, ◌-◌, ◌<◌, List, [], ◌∷◌, ◌++◌, length, take, get_or, reverse, refl, sym, ◌∙◌, ap, ap₂, append_assoc, append-nil, arith}
use Rattle.std.specs.List.{flat_map}
use Rattle.std.proofs.lemmas.List.{take_more, take_all, ext_get_or, get_or-map, get_or-reverse, length-map, length-reverse, reverse-append}
use Rattle.std.proofs.lemmas.List.Concat.{flat_map-append}
use Rattle.gf1024.specs.Symbol.{Symbol, symbol, zero_symbol}
use Rattle.pcs_late.specs.Kr.{answer_text, kr_text, symbol_digits, word_of, word_text}

pub no-lines : kr_text [] ≡ []
unfolding kr_text
no-lines = refl

pub one-line : (lines : List (List ℕ)) (line : List ℕ) → kr_text (lines ++ line ∷ []) ≡ kr_text lines ++ (answer_text line ++ 10 ∷ [])
unfolding kr_text
one-line lines line =
    flat_map-append (λ (l : List ℕ). answer_text l ++ 10 ∷ []) lines (line ∷ [])
    ∙ ap (λ t. kr_text lines ++ t) (append-nil (answer_text line ++ 10 ∷ []))

-- the symbols of a word from the numbers of a line
pub word-whole : (word : List Symbol) (numbers : List ℕ) → length word ≡ length numbers
    → ((k : ℕ) → k < length numbers → get_or word k zero_symbol ≡ symbol (get_or numbers (length numbers - 1 - k) 0)) → word ≡ word_of numbers
word-whole word numbers long each =
    let whole : length (word_of numbers) ≡ length numbers = length-map (reverse numbers) symbol ∙ length-reverse numbers in
    ext_get_or zero_symbol word (word_of numbers) (long ∙ sym whole)
    (λ k low. each k (omega (arith, low, long))
    ∙ sym (get_or-map symbol (reverse numbers) k 0 zero_symbol (omega (arith, low, long, length-reverse numbers))
    ∙ ap symbol (get_or-reverse numbers k 0 (omega (arith, low, long)))))

-- the digits of the highest places of a word
unfoldable pub digits_before : List Symbol → ℕ → List ℕ
digits_before word i = flat_map symbol_digits (take i (reverse word))

pub no-digits : (old : List ℕ) (word : List Symbol) → old ≡ old ++ digits_before word 0
unfolding digits_before
no-digits old word = sym (append-nil old)

pub one-symbol-more : (line old : List ℕ) (word : List Symbol) (i : ℕ) → i < length word → line ≡ old ++ digits_before word i
    → line ++ symbol_digits (get_or word (length word - 1 - i) zero_symbol) ≡ old ++ digits_before word (i + 1)
unfolding digits_before
one-symbol-more line old word i low is =
    let next = get_or (reverse word) i zero_symbol in
    let more : flat_map symbol_digits (take (i + 1) (reverse word)) ≡ digits_before word i ++ symbol_digits next =
    ap (flat_map symbol_digits) (take_more (reverse word) i zero_symbol (omega (arith, low, length-reverse word)))
    ∙ flat_map-append symbol_digits (take i (reverse word)) (next ∷ [])
    ∙ ap (λ t. digits_before word i ++ t) (append-nil (symbol_digits next)) in
    ap₂ (λ t s. t ++ symbol_digits s) is (sym (get_or-reverse word i zero_symbol low))
    ∙ append_assoc old (digits_before word i) (symbol_digits next) ∙ ap (λ t. old ++ t) (sym more)

pub all-digits : (word : List Symbol) (i : ℕ) → i ≡ length word → digits_before word i ≡ word_text word
unfolding digits_before word_text
all-digits word i all = ap (flat_map symbol_digits) (take_all i (reverse word) (omega (arith, all, length-reverse word)))

-- the places of a word in two parts
pub word_text-append : (low high : List Symbol) → word_text (low ++ high) ≡ word_text high ++ word_text low
unfolding word_text
word_text-append low high = ap (flat_map symbol_digits) (reverse-append low high) ∙ flat_map-append symbol_digits (reverse high) (reverse low)
