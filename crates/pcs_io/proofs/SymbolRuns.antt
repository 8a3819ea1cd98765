-- A symbol line that is whole among some octets.
use Rattle.std.proofs.Common.{◌≡◌, ℕ, suc, ◌+◌, ◌<◌, ◌≤◌, ◌==◌, ◌%◌, Bool, true, false, List, [], ◌∷◌, ◌++◌, length, take, drop, get_or, subst, sym, ◌∙◌, ap, inl, inr, append_assoc, append-nil, length-append, length-take, arith, cond}
use Rattle.std.specs.Char.{digit_value, is_digit}
use Rattle.std.proofs.lemmas.Bool.{cond-true, cond-false, cases_eq, lt-ltb}
use Rattle.std.proofs.lemmas.Bool.Decides.{nat_tests}
use Rattle.std.proofs.lemmas.List.{take-append-drop, drop_more}
use Rattle.pcs_io.specs.Grammars.{LineAt, Line}
use Rattle.pcs_io.specs.SymbolLines.{symbol_line_at, symbols_at, numbers_of, is_width, is_too_great, MayStand, AreSymbolDigits}

not-newline : (x : ℕ) → digit_value x < 16 → (x == 10) ≡ false
not-newline x low = elim (cases_eq x 10) [
  | inl same ↦ absurd (let value : digit_value x ≡ 36 = ap digit_value same in omega (arith, value, low))
  | inr other ↦ grind (arith, nat_tests)
]

not-full : (n m : ℕ) → n + (m + 1) ≤ 1584 → (n == 1584) ≡ false
not-full n m h = grind (arith, nat_tests)

fits : (n x : ℕ) → MayStand n x → is_too_great n x ≡ false
fits n x may = elim (cases_eq (n % 3) 0) [
  | inl first ↦ (let low : digit_value x ≤ 3 = may.first first in grind (arith, nat_tests))
  | inr other ↦ grind (arith, nat_tests)
]

taken : (a b c d : Bool) (p q r s t : LineAt (List ℕ)) → a ≡ false → b ≡ false → c ≡ true → d ≡ false → cond a p (cond b q (cond c (cond d r s) t)) ≡ s
taken a b c d p q r s t x y z w =
    cond-false a p (cond b q (cond c (cond d r s) t)) x ∙ cond-false b q (cond c (cond d r s) t) y ∙ cond-true c (cond d r s) t z ∙ cond-false d r s w

-- digits for which there is room come to those that came before
pub symbols-run : (run ds rest : List ℕ) → ((j : ℕ) → j < length run → MayStand (length ds + j) (get_or run j 0)) → length ds + length run ≤ 1584
    → symbols_at ds (run ++ rest) ≡ symbols_at (ds ++ run) rest
symbols-run [] ds rest each short = ap (λ d. symbols_at d rest) (sym (append-nil ds))
symbols-run (x ∷ run) ds rest each short =
    let first : MayStand (length ds) x = subst (λ n. MayStand n x) (omega arith) (each 0 (omega arith)) in
    let behind : (j : ℕ) → j < length run → MayStand (length (ds ++ x ∷ []) + j) (get_or run j 0) =
    λ j low. subst (λ n. MayStand n (get_or run j 0)) (omega (arith, length-append ds (x ∷ []))) (each (suc j) (omega (arith, low))) in
    taken (x == 10) (length ds == 1584) (is_digit x 16) (is_too_great (length ds) x) _ _ _ _ _
    (not-newline x first.value) (not-full (length ds) (length run) (omega arith)) (lt-ltb (digit_value x) 16 first.value) (fits (length ds) x first)
    ∙ symbols-run run (ds ++ x ∷ []) rest behind (omega (arith, length-append ds (x ∷ [])))
    ∙ ap (λ d. symbols_at d rest) (append_assoc ds (x ∷ []) run)

pub wide : (n : ℕ) → is_width n ≡ true → n ≤ 1584
wide n h = grind (arith, nat_tests)

-- digits that are a line, with a newline behind them
pub symbols-whole : (octets : List ℕ) (n : ℕ) → n < length octets → get_or octets n 0 ≡ 10 → is_width n ≡ true → AreSymbolDigits (take n octets)
    → symbol_line_at octets ≡ Line (numbers_of (take n octets)) (drop (n + 1) octets)
symbols-whole octets n low newline width right =
    let parts : octets ≡ take n octets ++ (10 ∷ drop (n + 1) octets) =
    sym (take-append-drop n octets) ∙ ap (λ t. take n octets ++ t) (drop_more octets n 0 low ∙ ap (λ x. x ∷ drop (n + 1) octets) newline) in
    let long : length (take n octets) ≡ n = omega (arith, length-take n octets, low) in
    ap (symbols_at []) parts
    ∙ symbols-run (take n octets) [] (10 ∷ drop (n + 1) octets) (λ j within. subst (λ k. MayStand k (get_or (take n octets) j 0)) (omega arith) (right j within)) (omega (arith, long, wide n width))
    ∙ cond-true (is_width (length (take n octets))) _ _ (ap is_width long ∙ width)
