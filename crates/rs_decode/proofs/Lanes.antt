-- Lists in thirty-two lanes, and sums along a sequence over lanes.
use Rattle.std.proofs.Common.{◌≡◌, ℕ, zero, suc, ◌+◌, ◌<◌, ◌≤◌, List, [], ◌∷◌, length, take, get_or, replicate, refl, sym, ap, ap₂, ◌∙◌, subst, arith}
use Rattle.std.proofs.lemmas.List.{ext_get_or, get_or-take}
use Rattle.std.proofs.lemmas.Simd.{get_or-replicate, length-replicate}
use Rattle.gf1024.specs.Symbol.{Symbol, gf, zero_symbol, one_symbol, sum_of, product_of}
use Rattle.gf1024.proofs.FieldLaws.{laws}
use Rattle.field_base.specs.Field.{Field, Laws, total}
use Rattle.field_base.specs.Poly.{along, delayed, rest, Fits, IsShortest}
use Rattle.field_base.proofs.Ring.{zero_mul, mul_zero, zero_add}
use Rattle.field_base.proofs.Along.{delayed_zero}
use Rattle.gf_lanes.specs.Lanes.{EachLane}
use Rattle.rs_decode.specs.Recurrence.{sequence, sum_along, IsRecurrence, StartsAs}
use Rattle.rs_decode.proofs.Steps.{Holds, mended, multiple, mended_at, multiple_at, holds_first}

module _ (F : Field) (L : Laws F) where
  open F use {carrier, add, mul, zero_element, one}

  -- the k-th of the first n symbols, counted from the last
  abbrev pub latest : (ℕ → carrier) → ℕ → ℕ → carrier
  latest s zero k = zero_element
  latest s (suc n) zero = s n
  latest s (suc n) (suc k) = latest s n k

  -- products with the latest symbols add up to the sum along the sequence
  pub sum_of_latest : (P c : List carrier) (s : ℕ → carrier) (n : ℕ) → length c ≤ length P
      → ((k : ℕ) → k < length P → get_or P k zero_element ≡ mul (get_or c k zero_element) (latest s n k))
      → total F (λ t. t) P ≡ delayed F (along F c s) n
  sum_of_latest [] [] s n le h = sym (delayed_zero F L n)
  sum_of_latest [] (c ∷ cs) s n le h = absurd (omega arith)
  sum_of_latest (p ∷ ps) [] s n le h =
      ap₂ add (h zero (omega arith) ∙ zero_mul F L (latest s n zero))
      (sum_of_latest ps [] s n (omega arith) (λ k less.
      h (suc k) (omega arith) ∙ zero_mul F L (latest s n (suc k)) ∙ sym (zero_mul F L (latest s n k))))
      ∙ zero_add F L (delayed F (along F [] s) n)
  sum_of_latest (p ∷ ps) (c ∷ cs) s zero le h =
      ap₂ add (h zero (omega arith) ∙ mul_zero F L c)
      (sum_of_latest ps cs s zero (omega arith) (λ k less. h (suc k) (omega arith)))
      ∙ zero_add F L zero_element
  sum_of_latest (p ∷ ps) (c ∷ cs) s (suc n) le h =
      ap₂ add (h zero (omega arith))
      (sum_of_latest ps cs s n (omega arith) (λ k less. h (suc k) (omega arith)))

-- a list, with zeros after it
abbrev pub InLanes : List Symbol → List Symbol → Type 0
InLanes c lanes = StartsAs 32 c lanes

-- one place on
pub moved : (x : Symbol) (c : List Symbol) (k : ℕ) → k < 32 → get_or (x ∷ take 31 c) k zero_symbol ≡ get_or (x ∷ c) k zero_symbol
moved x c zero less = refl
moved x c (suc k) less = get_or-take 31 c k zero_symbol (omega arith)

-- the latest of the first n symbols
pub record AreLatest (s : List Symbol) (n : ℕ) (lanes : List Symbol) : Type 0 where
  pub long : length lanes ≡ 32
  pub each : (k : ℕ) → k < 32 → get_or lanes k zero_symbol ≡ latest gf laws (sequence s) n k

pub behind_lanes : (x y : Symbol) (c lanes new : List Symbol) → StartsAs 32 (x ∷ lanes) new → x ≡ y → InLanes c lanes → InLanes (y ∷ c) new
behind_lanes x y c lanes new behind same h = record {
  long = behind.long;
  each = λ k less. behind.each k less ∙ ap (λ z. get_or (z ∷ lanes) k zero_symbol) same ∙ at k less;
}
  where
    at : (k : ℕ) → k < 32 → get_or (y ∷ lanes) k zero_symbol ≡ get_or (y ∷ c) k zero_symbol
    at zero less = refl
    at (suc k) less = h.each k (omega arith)

pub latest_first : (s lanes : List Symbol) (z : Symbol) → lanes ≡ replicate 32 z → z ≡ zero_symbol → AreLatest s 0 lanes
latest_first s lanes z e ez = record {
  long = ap length e ∙ length-replicate {A = Symbol} 32 z;
  each = λ k less. ap (λ l. get_or l k zero_symbol) e ∙ get_or-replicate 32 k z zero_symbol less ∙ ez;
}

pub latest_next : (s lanes new : List Symbol) (n : ℕ) (x : Symbol) → StartsAs 32 (x ∷ lanes) new
    → x ≡ get_or s n zero_symbol → AreLatest s n lanes → AreLatest s (suc n) new
latest_next s lanes new n x behind ex h = record { long = behind.long; each = λ k less. behind.each k less ∙ at k less }
  where
    at : (k : ℕ) → k < 32 → get_or (x ∷ lanes) k zero_symbol ≡ latest gf laws (sequence s) (suc n) k
    at zero less = ex
    at (suc k) less = h.each k (omega arith)

-- the sum of the products of a list and the latest symbols
pub lanes_along : (c s A W P : List Symbol) (n : ℕ) → length c ≤ 32 → InLanes c A → AreLatest s (suc n) W
    → EachLane product_of A W P → total gf (λ t. t) P ≡ sum_along c s n
unfolding sum_along
lanes_along c s A W P n short ha hw lanes =
    sum_of_latest gf laws P c (sequence s) (suc n) (omega (arith, lanes.long)) (λ k less.
    lanes.each k (omega (arith, lanes.long))
    ∙ ap₂ product_of (ha.each k (omega (arith, lanes.long))) (hw.each k (omega (arith, lanes.long))))

-- a list that its lanes begin with
pub front_is : (c lanes front : List Symbol) (n : ℕ) → length c ≡ n → n ≤ 32 → InLanes c lanes → StartsAs n lanes front → c ≡ front
front_is c lanes front n long small h starts =
    ext_get_or zero_symbol c front (long ∙ sym starts.long) (λ k less.
    sym (starts.each k (omega arith) ∙ h.each k (omega arith)))

-- each of 32 lanes of one symbol
splat_at : (F : List Symbol) (d : Symbol) (k : ℕ) → F ≡ replicate 32 d → k < 32 → get_or F k zero_symbol ≡ d
splat_at F d k e less = ap (λ l. get_or l k zero_symbol) e ∙ get_or-replicate 32 k d zero_symbol less

pub zeros_hold : (lanes : List Symbol) (z : Symbol) (c : List Symbol) → lanes ≡ replicate 32 z → z ≡ zero_symbol
    → ((k : ℕ) → get_or c k zero_symbol ≡ zero_symbol) → InLanes c lanes
zeros_hold lanes z c e ez h = record {
  long = ap length e ∙ length-replicate {A = Symbol} 32 z;
  each = λ k less. splat_at lanes z k e less ∙ ez ∙ sym (h k);
}

turned_at : (c : List Symbol) (d : Symbol) (A F : List Symbol) (k : ℕ) → get_or F k zero_symbol ≡ d
    → get_or A k zero_symbol ≡ get_or c k zero_symbol
    → product_of (get_or A k zero_symbol) (get_or F k zero_symbol) ≡ product_of d (get_or c k zero_symbol)
turned_at c d A F k e h = ap₂ product_of h e ∙ laws.mul_comm (get_or c k zero_symbol) d

-- a multiple, and the sum with a multiple
pub multiple_lanes : (c A F Q : List Symbol) (d : Symbol) → InLanes c A → F ≡ replicate 32 d → EachLane product_of A F Q → InLanes (multiple d c) Q
multiple_lanes c A F Q d h e lanes = record {
  long = lanes.long;
  each = λ k less. lanes.each k less ∙ turned_at c d A F k (splat_at F d k e less) (h.each k less) ∙ sym (multiple_at d c k);
}

pub mended_lanes : (c b A B F Q S : List Symbol) (d : Symbol) → InLanes c A → InLanes b B → F ≡ replicate 32 d
    → EachLane product_of B F Q → EachLane sum_of A Q S → InLanes (mended c d b) S
mended_lanes c b A B F Q S d ha hb e products sums = record {
  long = sums.long;
  each = λ k less. sums.each k less
      ∙ ap₂ sum_of (ha.each k less)
      (products.each k less ∙ turned_at b d B F k (splat_at F d k e less) (hb.each k less))
      ∙ sym (mended_at c b d k);
}

-- the lists in lanes, with the latest symbols
pub record Progress (symbols : List Symbol) (n : ℕ) (A B W : List Symbol) (k : ℕ) : Type 0 where
  pub here : List Symbol
  pub other : List Symbol
  pub holds : Holds symbols n here other k
  pub here_lanes : InLanes here A
  pub other_lanes : InLanes other B
  pub latest_lanes : AreLatest symbols n W

pub progress_first : (s A Z : List Symbol) (x z : Symbol) → StartsAs 32 (x ∷ Z) A → x ≡ one_symbol → Z ≡ replicate 32 z → z ≡ zero_symbol → Progress s 0 A Z Z 0
progress_first s A Z x z ea ex ez e = record {
  here = one_symbol ∷ [];
  other = zero_symbol ∷ zero_symbol ∷ [];
  holds = holds_first s;
  here_lanes = behind_lanes x one_symbol [] Z A ea ex (zeros_hold Z z [] ez e (λ k. refl));
  other_lanes = zeros_hold Z z (zero_symbol ∷ zero_symbol ∷ []) ez e zeros;
  latest_lanes = latest_first s Z z ez e;
}
  where
    zeros : (k : ℕ) → get_or (zero_symbol ∷ zero_symbol ∷ []) k zero_symbol ≡ zero_symbol
    zeros zero = refl
    zeros (suc zero) = refl
    zeros (suc (suc k)) = refl

pub length_here : (s here other : List Symbol) (n k : ℕ) → Holds s n here other k → length here ≡ k + 1
length_here s here other n k h = let e : length here ≡ suc (length (rest gf here)) = ap length h.begins in
    omega (arith, h.state.long)

pub progress_last : (s A B W front : List Symbol) (n k : ℕ) → n ≡ length s → n ≤ 30 → Progress s n A B W k → StartsAs (k + 1) A front → IsRecurrence s k front
progress_last s A B W front n k all small h starts =
    let state = h.holds.state in
    let short = state.short in
    let long : length h.here ≡ k + 1 = length_here s h.here h.other n k h.holds in
    subst (IsRecurrence s k) (front_is h.here A front (k + 1) long (omega arith) h.here_lanes starts) (record {
      shortest = subst (λ m. IsShortest gf (sequence s) m k) all
          (record { list = rest gf h.here; long = state.long; fits = state.fits; least = state.least });
      short = omega arith;
      long = long;
      begins = h.holds.begins;
      fits = subst (λ m. Fits gf (rest gf h.here) (sequence s) m) all state.fits;
    })
