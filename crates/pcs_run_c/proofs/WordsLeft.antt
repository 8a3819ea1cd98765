-- The words that an iterator over a text still has.
use Rattle.std.proofs.Common.{◌≡◌, ℕ, ◌<◌, ◌==◌, Bool, true, false, List, [], ◌∷◌, ◌++◌, length, take, drop, Option, Some, None, MatchOption}
use Rattle.std.proofs.Common.{Bor, if◌then◌else◌, refl, sym, ap, subst, ◌∙◌, arith, lit<, take-append-drop}
use Rattle.std.proofs.lemmas.Bool.{false≢true}
use Rattle.std.proofs.lemmas.List.{nil_from_length}
use Rattle.std.specs.declared.str.SplitTerminator.{SplitTerminator}
use Rattle.std.specs.List.{All, slice_split}
use Rattle.std.specs.Str.{NoCharPasses}
use Rattle.std.specs.Str.Pattern.{FindsChar}
use Rattle.std.specs.Str.Iter.{split_text, split_has_more, split_terminator_parts, split_terminator_pattern, split_terminator_steps}
use Rattle.std.proofs.lemmas.List.Splits.{slice_split_none, slice_split_at, length-slice_split}
use Rattle.std.proofs.lemmas.Str.Pattern.{NoCharPasses-char, drop_at_char}
use Rattle.std.proofs.lemmas.Grind.{common_steps}
use Rattle.pcs_run_c.specs.Words.{ended}

abbrev is_zero : ℕ → Bool
is_zero octet = octet == 0

no_zero : (text : List ℕ) → NoCharPasses (λ d. d == 0) text → All (λ octet. is_zero octet ≡ false) text
no_zero text none = λ k d below. let other = NoCharPasses-char 0 text k none (lit< tt) below in grind (arith, common_steps)

-- a step takes off the first part
first_part : (text x rest : List ℕ) (more : Bool) (o : Option (ℕ × ℕ)) → FindsChar 0 text o
    → MatchOption o ((x ≡ text) × (more ≡ false)) (λ q. 0 < q.1 → (x ≡ take q.0 text) × (more ≡ true) × (rest ≡ drop q.1 text))
    → slice_split is_zero text ≡ x ∷ (if more then slice_split is_zero rest else [])
first_part text x rest more None found cut =
    slice_split_none is_zero text (no_zero text found) ∙ (λ i. sym cut.0 i ∷ (if sym cut.1 i then slice_split is_zero rest else []))
first_part text x rest more (Some q) found cut =
    let h = cut (omega (arith, found.1.ends)) in
    ap (slice_split is_zero) (sym (take-append-drop q.0 text) ∙ ap (λ v. take q.0 text ++ v) (drop_at_char 0 text q.0 q.1 found.1 (lit< tt)))
    ∙ slice_split_at is_zero (take q.0 text) 0 (drop q.1 text) (no_zero (take q.0 text) found.0) refl
    ∙ (λ i. sym h.0 i ∷ (if sym h.1 i then slice_split is_zero (sym h.2 i) else []))

ended-cons : (part : List ℕ) (parts : List (List ℕ)) → 0 < length parts → ended (part ∷ parts) ≡ part ∷ ended parts
ended-cons part [] some = absurd (omega arith)
ended-cons part (next ∷ parts) some = refl

ended-last : (part : List ℕ) → (length part ≡ 0 → false ≡ true) → ended (part ∷ []) ≡ part ∷ []
ended-last [] some = absurd (false≢true (some refl))
ended-last (octet ∷ part) some = grind (arith, common_steps)

abbrev pub words_of_text : List ℕ → List (List ℕ)
words_of_text text = ended (slice_split is_zero text)

-- what is left, of a text and whether there is more
abbrev pub words_left : SplitTerminator ℕ → List (List ℕ)
words_left s = if split_has_more (split_terminator_parts s) then words_of_text (split_text (split_terminator_parts s)) else []

of_parts : (x rest : List ℕ) (more : Bool) → (length x ≡ 0 → more ≡ true)
    → ended (x ∷ (if more then slice_split is_zero rest else [])) ≡ x ∷ (if more then words_of_text rest else [])
of_parts x rest true some = ended-cons x (slice_split is_zero rest) (omega (arith, length-slice_split is_zero rest))
of_parts x rest false some = ended-last x some

abbrev pub Steps : SplitTerminator ℕ → Option (Bor (List ℕ)) → SplitTerminator ℕ → Type 0
Steps = split_terminator_steps FindsChar (λ a b. b ≡ a)

pub word_comes : (s t : SplitTerminator ℕ) (x : Bor (List ℕ)) → split_terminator_pattern s ≡ 0 → Steps s (Some x) t
    → (split_terminator_pattern t ≡ 0) × (words_left s ≡ x.now ∷ words_left t)
word_comes s t x zero step =
    let text = split_text (split_terminator_parts s) in
    let rest = split_text (split_terminator_parts t) in
    let more = split_has_more (split_terminator_parts t) in
    let cut = step.2.1 in
    let first = first_part text x.now rest more cut.0 (subst (λ d. FindsChar d text cut.0) zero cut.1) cut.2 in (
      step.1 ∙ zero,
      ap (λ b. if b then words_of_text text else []) step.0 ∙ ap ended first ∙ of_parts x.now rest more step.3,
    )

-- only an empty text has no word, but for what is at its end
no_text : (text : List ℕ) (o : Option (ℕ × ℕ)) → FindsChar 0 text o → MatchOption o (length text ≡ 0) (λ q. q.1 ≡ 0) → words_of_text text ≡ []
no_text text None found empty = ap words_of_text (nil_from_length text empty)
no_text text (Some q) found empty = absurd (omega (arith, found.1.ends, empty))

none_left : (more : Bool) (text : List ℕ) → (more ≡ true → (o : Option (ℕ × ℕ)) × FindsChar 0 text o × MatchOption o (length text ≡ 0) (λ q. q.1 ≡ 0))
    → (if more then words_of_text text else []) ≡ []
none_left true text ends = let end = ends refl in no_text text end.0 end.1 end.2
none_left false text ends = refl

pub words_end : (s t : SplitTerminator ℕ) → split_terminator_pattern s ≡ 0 → Steps s None t → words_left s ≡ []
words_end s t zero step =
    let text = split_text (split_terminator_parts s) in
    none_left (split_has_more (split_terminator_parts s)) text
    (λ more. let end = step.0 more in (end.0, subst (λ d. FindsChar d text end.0) zero end.1, end.2))
