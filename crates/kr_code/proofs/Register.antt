-- The register: nothing taken, one symbol more, and the parity.
use Rattle.std.proofs.Common.{◌≡◌, ℕ, zero, suc, ◌+◌, ◌-◌, ◌<◌, List, ◌∷◌, length, map, take, drop, get_or, replicate, refl, sym, ap, ap₂, ◌∙◌, subst, arith}
use Rattle.std.proofs.Math.Seq.{drop-cons}
use Rattle.std.proofs.lemmas.List.{ext_get_or, get_or-take, length-take}
use Rattle.std.proofs.lemmas.Simd.{get_or-replicate, length-replicate}
use Rattle.gf1024.specs.Symbol.{Symbol, symbol, gf, zero_symbol, sum_of, product_of, alpha}
use Rattle.gf1024.proofs.FieldLaws.{laws}
use Rattle.field_base.specs.Field.{power}
use Rattle.field_base.specs.Poly.{value, plus, scaled}
use Rattle.field_base.proofs.Ring.{mul_zero}
use Rattle.field_base.proofs.Along.{length_scaled}
use Rattle.field_base.proofs.Coefficients.{plus_at, scaled_at}
use Rattle.gf_lanes.specs.Lanes.{EachLane}
use Rattle.rs_code.proofs.Encoder.{shifted, IsRest, zeros, rest_next, rest_behind_zeros}
use Rattle.rs_code.proofs.Four.{sum_is_plus}
use Rattle.rs_code.proofs.Row.{nothing_after}
use Rattle.kr_code.specs.Register.{IsShortRemainder}
use Rattle.kr_code.specs.declared.code.TheConstants.{GENERATOR}
use Rattle.kr_code.proofs.Generator.{lanes_are, lanes_zero}

-- a product with one symbol in all lanes is the multiple by it
product_is_scaled : (g p : List Symbol) (f : Symbol) → length g ≡ 32 → EachLane product_of g (replicate 32 f) p → p ≡ scaled gf f g
product_is_scaled g p f long h =
    ext_get_or zero_symbol p (scaled gf f g) (h.long ∙ sym (length_scaled gf laws f g ∙ long)) (λ i less.
    let low : i < 32 = omega (arith, h.long) in
    h.each i low ∙ ap (product_of (get_or g i zero_symbol)) (get_or-replicate 32 i f zero_symbol low)
    ∙ laws.mul_comm (get_or g i zero_symbol) f ∙ sym (scaled_at gf laws f g i))

-- one lane on, and the multiple added
new_is_shifted : (register generator moved splat multiple new : List Symbol) (z fb : Symbol) → length register ≡ 32
    → generator ≡ map symbol GENERATOR → moved ≡ z ∷ take 31 register → z ≡ zero_symbol → splat ≡ replicate 32 fb
    → EachLane product_of generator splat multiple → EachLane sum_of moved multiple new
    → new ≡ shifted 31 (map symbol GENERATOR) fb register
unfolding shifted
new_is_shifted register generator moved splat multiple new z fb long eg em ez es hm hs =
    sum_is_plus moved multiple new (ap length em ∙ omega (arith, length-take 31 register)) hm.long hs
    ∙ ap₂ (λ a b. plus gf a b) (em ∙ ap (λ s. s ∷ take 31 register) ez)
    (product_is_scaled generator multiple fb (ap length eg ∙ lanes_are.long) (subst (λ s. EachLane product_of generator s multiple) es hm)
    ∙ ap (scaled gf fb) eg)

still_zero : (register : List Symbol) (fb : Symbol) → ((k : ℕ) → k < 18 → get_or register k zero_symbol ≡ zero_symbol)
    → (k : ℕ) → k < 18 → get_or (shifted 31 (map symbol GENERATOR) fb register) k zero_symbol ≡ zero_symbol
unfolding shifted
still_zero register fb h k less =
    let moved = zero_symbol ∷ take 31 register in
    let g = map symbol GENERATOR in
    plus_at gf laws moved (scaled gf fb g) k
    ∙ ap₂ sum_of (behind k less) (scaled_at gf laws fb g k ∙ ap (product_of fb) (lanes_zero k less) ∙ mul_zero gf laws fb)
    ∙ laws.add_zero zero_symbol
  where
    behind : (k : ℕ) → k < 18 → get_or (zero_symbol ∷ take 31 register) k zero_symbol ≡ zero_symbol
    behind zero less = refl
    behind (suc k) less = get_or-take 31 register k zero_symbol (omega arith) ∙ h k (omega arith)

pub register_more : (register generator moved splat multiple new : List Symbol) (z fb m : Symbol)
    → generator ≡ map symbol GENERATOR → moved ≡ z ∷ take 31 register → z ≡ zero_symbol → splat ≡ replicate 32 fb
    → EachLane product_of generator splat multiple → EachLane sum_of moved multiple new
    → fb ≡ sum_of (get_or register 31 zero_symbol) m
    → (part : List Symbol) → IsShortRemainder register part → IsShortRemainder new (m ∷ part)
unfolding IsRest
register_more register generator moved splat multiple new z fb m eg em ez es hm hs ef part h =
    let is = new_is_shifted register generator moved splat multiple new z fb h.long eg em ez es hm hs in
    record {
      long = hs.long;
      zeros = λ k less. ap (λ l. get_or l k zero_symbol) is ∙ still_zero register fb h.zeros k less;
      values = λ j less. ap (λ l. value gf l (power gf alpha j)) is
          ∙ rest_next 14 31 (map symbol GENERATOR) lanes_are fb m register part h.long
          (ef ∙ laws.add_comm (get_or register 31 zero_symbol) m) h.values j less;
    }

pub register_first : (start message : List Symbol) (z : Symbol) → start ≡ replicate 32 z → z ≡ zero_symbol → length message ≡ 514
    → IsShortRemainder start (drop (514 - 0) message)
register_first start message z e ez long_m = subst (IsShortRemainder start) (sym (nothing_after message (514 - 0) (omega arith))) (record {
  long = long;
  zeros = λ k less. at k (omega arith);
  values = λ j less. zeros start (power gf alpha j) (λ k l. at k (omega (arith, long)))
      ∙ sym (mul_zero gf laws (power gf (power gf alpha j) 32));
})
  where
    long : length start ≡ 32
    long = ap length e ∙ length-replicate {A = Symbol} 32 z

    at : (k : ℕ) → k < 32 → get_or start k zero_symbol ≡ zero_symbol
    at k less = ap (λ l. get_or l k zero_symbol) e ∙ get_or-replicate 32 k z zero_symbol less ∙ ez

pub register_next : (register new message : List Symbol) (i : ℕ) (m d : Symbol) → length message ≡ 514 → i < 514
    → m ≡ get_or message (513 - i) d → ((part : List Symbol) → IsShortRemainder register part → IsShortRemainder new (m ∷ part))
    → IsShortRemainder register (drop (514 - i) message) → IsShortRemainder new (drop (514 - (i + 1)) message)
register_next register new message i m d long less em step h =
    let at = 513 - i in
    let up : 514 - i ≡ suc at = omega arith in
    let down : 514 - (i + 1) ≡ at = omega arith in
    subst (IsShortRemainder new)
    (ap (λ s. s ∷ drop (514 - i) message) em ∙ ap (λ n. get_or message at d ∷ drop n message) up
    ∙ sym (ap (λ n. drop n message) down ∙ drop-cons message at d (omega arith)))
    (step (drop (514 - i) message) h)

-- without its zeros it is x^14 times the part
pub rest_of_register : (register part : List Symbol) → IsShortRemainder register part → IsRest 14 14 (drop 18 register) part
unfolding IsRest
rest_of_register register part h = rest_behind_zeros 14 18 14 register part (omega (arith, h.long)) h.zeros h.values

pub register_first_of : (start part : List Symbol) (z : Symbol) (n : ℕ) → start ≡ replicate 32 z → z ≡ zero_symbol → length part ≡ n
    → IsShortRemainder start (drop (n - 0) part)
register_first_of start part z n e ez long = subst (IsShortRemainder start) (sym (nothing_after part (n - 0) (omega (arith, long)))) (record {
  long = full;
  zeros = λ k less. at k (omega arith);
  values = λ j less. zeros start (power gf alpha j) (λ k l. at k (omega (arith, full)))
      ∙ sym (mul_zero gf laws (power gf (power gf alpha j) 32));
})
  where
    full : length start ≡ 32
    full = ap length e ∙ length-replicate {A = Symbol} 32 z

    at : (k : ℕ) → k < 32 → get_or start k zero_symbol ≡ zero_symbol
    at k less = ap (λ l. get_or l k zero_symbol) e ∙ get_or-replicate 32 k z zero_symbol less ∙ ez

pub register_next_of : (register new part : List Symbol) (i n : ℕ) (m : Symbol) → length part ≡ n → i < n
    → m ≡ get_or part (n - 1 - i) zero_symbol → ((part : List Symbol) → IsShortRemainder register part → IsShortRemainder new (m ∷ part))
    → IsShortRemainder register (drop (n - i) part) → IsShortRemainder new (drop (n - (i + 1)) part)
register_next_of register new part i n m long less em step h =
    let at = n - 1 - i in
    let up : n - i ≡ suc at = omega arith in
    let down : n - (i + 1) ≡ at = omega arith in
    subst (IsShortRemainder new)
    (ap (λ s. s ∷ drop (n - i) part) em ∙ ap (λ k. get_or part at zero_symbol ∷ drop k part) up
    ∙ sym (ap (λ k. drop k part) down ∙ drop-cons part at zero_symbol (omega (arith, long))))
    (step (drop (n - i) part) h)
