-- Bits of two messages gathered into words.
use Rattle.std.proofs.Common.{◌≡◌, ℕ, ◌+◌, ◌<◌, List, ◌++◌, length, take, set, sym, ◌∙◌, ap, arith}
use Rattle.std.proofs.lemmas.List.{append_assoc}
use Rattle.bit_lists.specs.Bits.{bits, all_bits}
use Rattle.bit_lists.specs.Places.{joined}
use Rattle.symbol_deal.proofs.Dealing.{joined-suc, pushed}
use Rattle.symbol_deal.proofs.Taking.{word_taken}

pub joined-two : (f : ℕ → List ℕ) (n : ℕ) → joined (n + 2) f ≡ joined n f ++ (f n ++ f (n + 1))
joined-two f n =
    ap (λ k. joined k f) (omega arith) ∙ joined-suc f (n + 1) ∙ ap (λ t. t ++ f (n + 1)) (joined-suc f n) ∙ append_assoc (joined n f) (f n) (f (n + 1))

-- the bits of two places put behind the rest
pub gathered : (f : ℕ → List ℕ) (n m : ℕ) (X rest longer forty : List ℕ) → n + 2 ≡ m → X ++ rest ≡ joined n f → longer ≡ rest ++ forty
    → forty ≡ f n ++ f (n + 1) → X ++ longer ≡ joined m f
gathered f n m X rest longer forty up same e two =
    pushed X rest longer forty (joined n f) same e ∙ ap (λ t. joined n f ++ t) two ∙ sym (joined-two f n) ∙ ap (λ k. joined k f) up

-- a word filled with the front of the rest
pub filled : (words : List ℕ) (p q word : ℕ) (rest left T : List ℕ) → p + 1 ≡ q → p < length words
    → all_bits 64 (take p words) ++ rest ≡ T → rest ≡ bits 64 word ++ left → all_bits 64 (take q (set words p word)) ++ left ≡ T
filled words p q word rest left T up low same e =
    ap (λ k. all_bits 64 (take k (set words p word)) ++ left) (sym up) ∙ sym (word_taken words p word rest left low e) ∙ same
