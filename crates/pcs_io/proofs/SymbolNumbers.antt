-- The numbers of digits, one after the other.
use Rattle.std.proofs.Common.{◌≡◌, ℕ, zero, suc, ◌+◌, ◌*◌, ◌/◌, ◌<◌, ◌≤◌, true, List, [], ◌∷◌, ◌++◌, length, take, drop, set, get_or, subst, sym, ◌∙◌, ap, inl, inr, refl, length-take, arith}
use Rattle.std.proofs.lemmas.Bool.{cases_eq}
use Rattle.std.proofs.lemmas.Bool.Decides.{nat_tests}
use Rattle.std.proofs.lemmas.List.{take-append-drop, get_or-take, get_or-drop, get_or-set_same, get_or-set_other, length-set}
use Rattle.std.proofs.Math.Seq.{take-append-add}
use Rattle.pcs_io.specs.SymbolLines.{number_of, numbers_of, is_width, MayStand, AreSymbolDigits, AreSmall}

pub numbers-none : numbers_of [] ≡ []
unfolding numbers_of
numbers-none = refl

-- three digits
pub numbers-three : (ds : List ℕ) → length ds ≡ 3 → numbers_of ds ≡ number_of (get_or ds 0 0) (get_or ds 1 0) (get_or ds 2 0) ∷ []
unfolding numbers_of
numbers-three [] three = absurd (omega (arith, three))
numbers-three (a ∷ []) three = absurd (omega (arith, three))
numbers-three (a ∷ b ∷ []) three = absurd (omega (arith, three))
numbers-three (a ∷ b ∷ c ∷ []) three = refl
numbers-three (a ∷ b ∷ c ∷ d ∷ ds) three = absurd (omega (arith, three))

-- digits behind whole symbols
pub numbers-append : (n : ℕ) (ds more : List ℕ) → length ds ≡ 3 * n → numbers_of (ds ++ more) ≡ numbers_of ds ++ numbers_of more
unfolding numbers_of
numbers-append zero [] more long = refl
numbers-append zero (a ∷ ds) more long = absurd (omega (arith, long))
numbers-append (suc n) [] more long = absurd (omega (arith, long))
numbers-append (suc n) (a ∷ []) more long = absurd (omega (arith, long))
numbers-append (suc n) (a ∷ b ∷ []) more long = absurd (omega (arith, long))
numbers-append (suc n) (a ∷ b ∷ c ∷ ds) more long = ap (λ ns. number_of a b c ∷ ns) (numbers-append n ds more (omega (arith, long)))

-- three digits more
pub numbers-more : (ds : List ℕ) (i : ℕ) → 3 * i + 3 ≤ length ds
    → numbers_of (take (3 * (i + 1)) ds) ≡ numbers_of (take (3 * i) ds) ++ numbers_of (take 3 (drop (3 * i) ds))
numbers-more ds i low =
    let long : length (take (3 * i) ds) ≡ 3 * i = omega (arith, length-take (3 * i) ds, low) in
    let parts : take (3 * (i + 1)) ds ≡ take (3 * i) ds ++ take 3 (drop (3 * i) ds) =
    ap (take (3 * (i + 1))) (sym (take-append-drop (3 * i) ds))
    ∙ ap (λ n. take n (take (3 * i) ds ++ drop (3 * i) ds)) (omega (arith, long))
    ∙ take-append-add (take (3 * i) ds) (drop (3 * i) ds) 3 in
    ap numbers_of parts ∙ numbers-append i (take (3 * i) ds) (take 3 (drop (3 * i) ds)) long

-- the digits of a symbol may stand on their own as well
pub three-digits : (ds : List ℕ) (i : ℕ) → 3 * i + 3 ≤ length ds → AreSymbolDigits ds → AreSymbolDigits (take 3 (drop (3 * i) ds))
three-digits ds i low right k within =
    let less : k < 3 = omega (arith, length-take 3 (drop (3 * i) ds), within) in
    let may : MayStand (3 * i + k) (get_or ds (3 * i + k) 0) = right (3 * i + k) (omega (arith, low, less)) in
    let same : get_or ds (3 * i + k) 0 ≡ get_or (take 3 (drop (3 * i) ds)) k 0 =
    sym (get_or-take 3 (drop (3 * i) ds) k 0 less ∙ get_or-drop (3 * i) ds k 0) in
    subst (MayStand k) same (record { value = may.value; first = λ first. may.first (omega (arith, first)) })

-- all of the digits of a line
pub width-thirds : (n : ℕ) → is_width n ≡ true → 3 * (n / 3) ≡ n
width-thirds n h = grind (arith, nat_tests)

-- a small number takes a place
pub small-set : (xs : List ℕ) (i y : ℕ) → i < length xs → y < 1024 → AreSmall xs → AreSmall (set xs i y)
small-set xs i y low less small k within = elim (cases_eq k i) [
  | inl same ↦ rw (ap (get_or (set xs i y)) same, get_or-set_same xs i y 0 low) less
  | inr other ↦ (
      let before : get_or xs k 0 < 1024 = small k (omega (arith, within, length-set xs i y)) in
      rw (get_or-set_other xs i k y 0 other) before)
]
