-- The table of the inverse powers of alpha, and the roots found from place to place.
use Rattle.std.proofs.Common.{◌≡◌, ℕ, zero, suc, ◌+◌, ◌-◌, ◌%◌, ◌<◌, ◌≤◌, Bool, true, false, List, [], ◌∷◌, ◌++◌, length, get_or, take, cond, ◌==◌, refl, sym, ap, ◌∙◌, append_assoc, arith, inl, inr}
use Rattle.std.specs.List.{filter, range_with_len}
use Rattle.std.proofs.lemmas.Bool.{eqb-true, cases_lt}
use Rattle.std.proofs.lemmas.List.{take_all, append-nil}
use Rattle.gf1024.specs.Symbol.{Symbol, gf, one_symbol, symbol, product_of, alpha}
use Rattle.gf1024.specs.Word.{product, reduced, times_low}
use Rattle.gf1024.proofs.FieldLaws.{laws, symbol_path, value_product}
use Rattle.gf1024.proofs.InverseTable.{only_inverse}
use Rattle.gf1024.proofs.Linear.{all_below, all_below_at}
use Rattle.gf1024.proofs.Powers.{alpha_nonzero}
use Rattle.field_base.specs.Field.{Field, Laws, power}
use Rattle.field_base.proofs.Ring.{mul_left}
use Rattle.field_base.proofs.Shorter.{power_apart}
use Rattle.field_base.proofs.Words.{power_of_product, power_of_one}
use Rattle.rs_decode.specs.Repair.{place, back_power, is_root, roots_below}
use Rattle.rs_decode.specs.declared.roots.TheConstants.{INVERSE_POWERS}

module _ (F : Field) (L : Laws F) where
  open F use {carrier, add, mul, zero_element, one}

  pub power_swap : (b : carrier) (k i : ℕ) → power F (power F b k) i ≡ power F (power F b i) k
  power_swap b zero i = power_of_one F L i
  power_swap b (suc k) i = power_of_product F L b (power F b k) i ∙ ap (mul (power F b i)) (power_swap b k i)

-- the table, computed on numbers: each entry is twice the next one
abbrev entry : ℕ → ℕ
entry i = get_or INVERSE_POWERS i 0 % 1024

abbrev step_at : ℕ → Bool
step_at i = product 2 (entry (i + 1)) == entry i

step_table : all_below 543 step_at ≡ true
unfolding product reduced times_low
step_table = refl

first_entry : symbol (get_or INVERSE_POWERS 0 0) ≡ one_symbol
first_entry = refl

entry_next : (i : ℕ) → i < 543 → product_of alpha (symbol (get_or INVERSE_POWERS (suc i) 0)) ≡ symbol (get_or INVERSE_POWERS i 0)
entry_next i less =
    let one : suc i ≡ i + 1 = omega arith in
    symbol_path (product_of alpha (symbol (get_or INVERSE_POWERS (suc i) 0))) (symbol (get_or INVERSE_POWERS i 0))
    (value_product alpha (symbol (get_or INVERSE_POWERS (suc i) 0)) ∙ ap (λ z. product 2 (entry z)) one
    ∙ eqb-true (product 2 (entry (i + 1))) (entry i) (all_below_at 543 step_at step_table i less))

entry_inverts : (i : ℕ) → i < 544 → product_of (place i) (symbol (get_or INVERSE_POWERS i 0)) ≡ one_symbol
entry_inverts zero less = ap (product_of one_symbol) first_entry ∙ laws.mul_one one_symbol
entry_inverts (suc i) less =
    laws.mul_assoc alpha (place i) (symbol (get_or INVERSE_POWERS (suc i) 0))
    ∙ mul_left gf laws alpha (place i) (symbol (get_or INVERSE_POWERS (suc i) 0))
    ∙ ap (product_of (place i)) (entry_next i (omega arith)) ∙ entry_inverts i (omega arith)

pub inverse_powers_are : (i : ℕ) → i < 544 → symbol (get_or INVERSE_POWERS i 0) ≡ back_power i
inverse_powers_are i less =
    only_inverse (place i) (symbol (get_or INVERSE_POWERS i 0)) (power_apart gf laws alpha alpha_nonzero i)
    (entry_inverts i less)

-- the places from i on, m of them, where the locator has a root
unfoldable pub roots_from : List Symbol → ℕ → ℕ → List ℕ
roots_from c i m = filter (is_root c) (range_with_len i m)

pub found_first : (c : List Symbol) (found : List ℕ) (n : ℕ) → found ≡ [] → take 16 (found ++ roots_from c 0 (n - 0)) ≡ take 16 (roots_below n c)
unfolding roots_from roots_below
found_first c found n e = let all : n - 0 ≡ n = omega arith in
    ap (λ l. take 16 (l ++ filter (is_root c) (range_with_len 0 (n - 0)))) e
    ∙ ap (λ m. take 16 (filter (is_root c) (range_with_len 0 m))) all

-- a root is found, or there are sixteen, or place i is none
pub found_root : (c : List Symbol) (found all : List ℕ) (n i : ℕ) → i < n → is_root c i ≡ true
    → take 16 (found ++ roots_from c i (n - i)) ≡ all
    → take 16 ((found ++ i ∷ []) ++ roots_from c (i + 1) (n - (i + 1))) ≡ all
unfolding roots_from
found_root c found all n i less e h =
    let m = n - (i + 1) in
    let more : suc m ≡ n - i = omega arith in
    ap (take 16) (append_assoc found (i ∷ []) (filter (is_root c) (range_with_len (i + 1) m)))
    ∙ ap (λ b. take 16 (found ++ cond b (i ∷ filter (is_root c) (range_with_len (i + 1) m))
    (filter (is_root c) (range_with_len (i + 1) m)))) (sym e)
    ∙ ap (λ z. take 16 (found ++ filter (is_root c) (range_with_len i z))) more ∙ h

found_none : (c : List Symbol) (found all : List ℕ) (n i : ℕ) → i < n → is_root c i ≡ false
    → take 16 (found ++ roots_from c i (n - i)) ≡ all → take 16 (found ++ roots_from c (i + 1) (n - (i + 1))) ≡ all
unfolding roots_from
found_none c found all n i less e h =
    let m = n - (i + 1) in
    let more : suc m ≡ n - i = omega arith in
    ap (λ b. take 16 (found ++ cond b (i ∷ filter (is_root c) (range_with_len (i + 1) m))
    (filter (is_root c) (range_with_len (i + 1) m)))) (sym e)
    ∙ ap (λ z. take 16 (found ++ filter (is_root c) (range_with_len i z))) more ∙ h

take_enough : (found more : List ℕ) (n : ℕ) → n ≤ length found → take n (found ++ more) ≡ take n found
take_enough found more zero le = refl
take_enough [] more (suc n) le = absurd (omega arith)
take_enough (x ∷ xs) more (suc n) le = ap (λ l. x ∷ l) (take_enough xs more n (omega arith))

pub found_enough : (c : List Symbol) (found all : List ℕ) (n i : ℕ) → 16 ≤ length found
    → take 16 (found ++ roots_from c i (n - i)) ≡ all → take 16 (found ++ roots_from c (i + 1) (n - (i + 1))) ≡ all
found_enough c found all n i le h = take_enough found (roots_from c (i + 1) (n - (i + 1))) 16 le ∙ sym (take_enough found (roots_from c i (n - i)) 16 le) ∙ h

-- past the end there is none
pub found_past : (c : List Symbol) (found all : List ℕ) (n i : ℕ) → n ≤ i
    → take 16 (found ++ roots_from c i (n - i)) ≡ all → take 16 (found ++ roots_from c (i + 1) (n - (i + 1))) ≡ all
unfolding roots_from
found_past c found all n i le h =
    let none : n - (i + 1) ≡ 0 = omega arith in
    let before : 0 ≡ n - i = omega arith in
    ap (λ z. take 16 (found ++ filter (is_root c) (range_with_len (i + 1) z))) none
    ∙ ap (λ z. take 16 (found ++ filter (is_root c) (range_with_len i z))) before ∙ h

-- place i is none, or past the end
pub found_other : (c : List Symbol) (found all : List ℕ) (n i : ℕ) → is_root c i ≡ false
    → take 16 (found ++ roots_from c i (n - i)) ≡ all → take 16 (found ++ roots_from c (i + 1) (n - (i + 1))) ≡ all
found_other c found all n i e h = elim (cases_lt i n) [
  | inl less ↦ found_none c found all n i less e h
  | inr past ↦ found_past c found all n i past h
]

pub found_last : (c : List Symbol) (found all : List ℕ) (n i : ℕ) → n ≤ i → length found ≤ 16 → take 16 (found ++ roots_from c i (n - i)) ≡ all → found ≡ all
unfolding roots_from
found_last c found all n i le few h =
    let none : n - i ≡ 0 = omega arith in
    sym (take_all 16 found few) ∙ ap (take 16) (sym (append-nil found))
    ∙ ap (λ z. take 16 (found ++ filter (is_root c) (range_with_len i z))) (sym none) ∙ h
