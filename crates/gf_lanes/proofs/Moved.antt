-- Lanes moved on by four places, and by one.
use Rattle.std.proofs.Common.{◌≡◌, ℕ, zero, suc, ◌<◌, ◌≤◌, List, ◌∷◌, take, map, get_or, sym, ap, ap₂, ◌∙◌, subst, arith}
use Rattle.std.specs.List.{range_with_len}
use Rattle.std.specs.Simd.Lanes.{pick_l}
use Rattle.std.proofs.lemmas.Simd.{pick_l-range_with_len}
use Rattle.std.proofs.lemmas.List.{take-map, length-take, get_or-take}
use Rattle.gf1024.specs.Symbol.{Symbol, symbol, zero_symbol}
use Rattle.gf1024.proofs.Views.{symbol_of_value}
use Rattle.gf_lanes.specs.Lanes.{AreSymbols}

picked : (n : ℕ) (A : List ℕ) → n ≤ 32 → AreSymbols A → pick_l 0 A (range_with_len 0 n) ≡ take n A
picked n A le h = pick_l-range_with_len 0 A 0 n (omega (arith, h.long))

moved_small : (A : List ℕ) → AreSymbols A → AreSymbols (0 ∷ 0 ∷ 0 ∷ 0 ∷ take 28 A)
moved_small A h = record { long = omega (arith, h.long, length-take 28 A); small = small }
  where
    small : (i : ℕ) → i < 32 → get_or (0 ∷ 0 ∷ 0 ∷ 0 ∷ take 28 A) i 0 < 1024
    small zero less = omega arith
    small (suc zero) less = omega arith
    small (suc (suc zero)) less = omega arith
    small (suc (suc (suc zero))) less = omega arith
    small (suc (suc (suc (suc i)))) less = subst (λ n. n < 1024) (sym (get_or-take 28 A i 0 (omega arith))) (h.small i (omega arith))

pub four_small : (A : List ℕ) → AreSymbols A → AreSymbols (0 ∷ 0 ∷ 0 ∷ 0 ∷ pick_l 0 A (range_with_len 0 28))
four_small A h = subst (λ B. AreSymbols (0 ∷ 0 ∷ 0 ∷ 0 ∷ B)) (sym (picked 28 A (omega arith) h)) (moved_small A h)

pub four_are : (A : List ℕ) (a : List Symbol) → AreSymbols A → map symbol A ≡ a
    → map symbol (0 ∷ 0 ∷ 0 ∷ 0 ∷ pick_l 0 A (range_with_len 0 28))
    ≡ zero_symbol ∷ zero_symbol ∷ zero_symbol ∷ zero_symbol ∷ take 28 a
four_are A a h e =
    ap (λ l. zero_symbol ∷ zero_symbol ∷ zero_symbol ∷ zero_symbol ∷ l)
    (ap (map symbol) (picked 28 A (omega arith) h) ∙ sym (take-map symbol 28 A) ∙ ap (take 28) e)

-- behind one symbol
shifted_small : (v : ℕ) (A : List ℕ) → v < 1024 → AreSymbols A → AreSymbols (v ∷ take 31 A)
shifted_small v A hv h = record { long = omega (arith, h.long, length-take 31 A); small = small }
  where
    small : (i : ℕ) → i < 32 → get_or (v ∷ take 31 A) i 0 < 1024
    small zero less = hv
    small (suc i) less = subst (λ n. n < 1024) (sym (get_or-take 31 A i 0 (omega arith))) (h.small i (omega arith))

pub one_small : (v : ℕ) (A : List ℕ) → v < 1024 → AreSymbols A → AreSymbols (v ∷ pick_l 0 A (range_with_len 0 31))
one_small v A hv h = subst (λ B. AreSymbols (v ∷ B)) (sym (picked 31 A (omega arith) h)) (shifted_small v A hv h)

pub one_are : (v : ℕ) (first : Symbol) (A : List ℕ) (a : List Symbol) → v ≡ first.value → AreSymbols A → map symbol A ≡ a
    → map symbol (v ∷ pick_l 0 A (range_with_len 0 31)) ≡ first ∷ take 31 a
one_are v first A a ev h e =
    ap₂ (λ s l. s ∷ l) (ap symbol ev ∙ symbol_of_value first)
    (ap (map symbol) (picked 31 A (omega arith) h) ∙ sym (take-map symbol 31 A) ∙ ap (take 31) e)
