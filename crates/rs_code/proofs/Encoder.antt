-- The feedback register against the values at the roots.
use Rattle.std.proofs.Common.{◌≡◌, ℕ, zero, suc, ◌+◌, ◌-◌, ◌<◌, ◌≤◌, List, [], ◌∷◌, ◌++◌, length, take, drop, get_or, refl, sym, ap, ap₂, ◌∙◌, arith}
use Rattle.std.proofs.lemmas.List.{length-take, take-append-drop, length-drop, length-append, get_or-take, nil_from_length}
use Rattle.std.proofs.Math.Seq.{drop-cons}
use Rattle.gf1024.specs.Symbol.{Symbol, gf, zero_symbol, sum_of, product_of, alpha}
use Rattle.gf1024.proofs.FieldLaws.{laws}
use Rattle.field_base.specs.Field.{Field, Laws, power}
use Rattle.field_base.specs.Poly.{value, plus, scaled}
use Rattle.field_base.proofs.Ring.{mul_left, zero_add, mul_zero, one_mul, add_left, add_mul}
use Rattle.field_base.proofs.Value.{value_plus, value_scaled}
use Rattle.field_base.proofs.Along.{length_scaled, length_plus}
use Rattle.field_base.proofs.Shorter.{power_add, power_apart}
use Rattle.gf1024.proofs.Powers.{alpha_nonzero}
use Rattle.rs_code.specs.Code.{IsCodeword}
use Rattle.rs_code.proofs.Generator.{value_append}

-- n symbols with, at each of the first r powers of alpha, the n-th power of it: x^n less a multiple of the generator
pub record IsLow (r n : ℕ) (low : List Symbol) : Type 0 where
  pub long : length low ≡ n
  pub values : (j : ℕ) → j < r → value gf low (power gf alpha j) ≡ power gf (power gf alpha j) n

-- x times a register of n + 1 places, with its highest place taken out by the multiple `feedback` of the generator
unfoldable pub shifted : ℕ → List Symbol → Symbol → List Symbol → List Symbol
shifted n low feedback register = plus gf (zero_symbol ∷ take n register) (scaled gf feedback low)

-- at each root the register is x^n times the part of the message
unfoldable pub IsRest : ℕ → ℕ → List Symbol → List Symbol → Type 0
IsRest r n register part = (j : ℕ) → j < r
    → value gf register (power gf alpha j)
    ≡ product_of (power gf (power gf alpha j) n) (value gf part (power gf alpha j))

module _ (F : Field) (L : Laws F) where
  open F use {carrier, add, mul, zero_element, one}

  ring_of : (r v p m last : carrier) → add (add zero_element (mul r v)) (mul (add m last) (mul r p)) ≡ add (mul (mul r p) m) (mul r (add v (mul p last)))
  ring_of r v p m last =
      simp (
        zero_add F L,
        L.mul_add,
        add_mul F L,
        L.mul_assoc,
        L.mul_comm,
        mul_left F L,
        add_left F L,
      )

length_before : (n : ℕ) (r : List Symbol) → length r ≡ suc n → length (zero_symbol ∷ take n r) ≡ suc n
length_before n r long = omega (arith, length-take n r)

pub length_shifted : (r n : ℕ) (low : List Symbol) → IsLow r (suc n) low → (feedback : Symbol) (register : List Symbol)
    → length register ≡ suc n → length (shifted n low feedback register) ≡ suc n
unfolding shifted
length_shifted r n low h f register long =
    length_plus gf laws (zero_symbol ∷ take n register) (scaled gf f low)
    (length_before n register long ∙ sym (length_scaled gf laws f low ∙ h.long))
    ∙ length_before n register long

-- the register at a root
ring : (r v p m last : Symbol)
    → sum_of (sum_of zero_symbol (product_of r v)) (product_of (sum_of m last) (product_of r p))
    ≡ sum_of (product_of (product_of r p) m) (product_of r (sum_of v (product_of p last)))
ring = ring_of gf laws

value_snoc : (c : List Symbol) (last r : Symbol) → value gf (c ++ last ∷ []) r ≡ sum_of (value gf c r) (product_of (power gf r (length c)) last)
value_snoc c last r =
    value_append c (last ∷ []) r
    ∙ ap (λ z. sum_of (value gf c r) (product_of (power gf r (length c)) (sum_of last z))) (mul_zero gf laws r)
    ∙ ap (λ z. sum_of (value gf c r) (product_of (power gf r (length c)) z)) (laws.add_zero last)

parts : (register : List Symbol) (n : ℕ) → length register ≡ suc n → register ≡ take n register ++ get_or register n zero_symbol ∷ []
parts register n long =
    sym (take-append-drop n register)
    ∙ ap (λ z. take n register ++ z)
    (drop-cons register n zero_symbol (omega arith)
    ∙ ap (λ z. get_or register n zero_symbol ∷ z)
    (nil_from_length (drop (suc n) register) (omega (arith, length-drop (suc n) register))))

value_parts : (register : List Symbol) (n : ℕ) (r : Symbol) → length register ≡ suc n
    → value gf register r
    ≡ sum_of (value gf (take n register) r) (product_of (power gf r n) (get_or register n zero_symbol))
value_parts register n r long =
    let short : length (take n register) ≡ n = omega (arith, length-take n register) in
    ap (λ z. value gf z r) (parts register n long) ∙ value_snoc (take n register) (get_or register n zero_symbol) r
    ∙ ap (λ z. sum_of (value gf (take n register) r) (product_of (power gf r z) (get_or register n zero_symbol))) short

-- a generator of any length whose low part at r is r^(n + 1)
root_step : (fb m r : Symbol) (register low : List Symbol) (n : ℕ) → length register ≡ suc n
    → fb ≡ sum_of m (get_or register n zero_symbol) → value gf low r ≡ power gf r (suc n)
    → value gf (plus gf (zero_symbol ∷ take n register) (scaled gf fb low)) r
    ≡ sum_of (product_of (power gf r (suc n)) m) (product_of r (value gf register r))
root_step fb m r register low n long ef el =
    value_plus gf laws (zero_symbol ∷ take n register) (scaled gf fb low) r
    ∙ ap (sum_of (value gf (zero_symbol ∷ take n register) r))
    (value_scaled gf laws fb low r ∙ ap (product_of fb) el ∙ ap (λ z. product_of z (power gf r (suc n))) ef)
    ∙ ring r (value gf (take n register) r) (power gf r n) m (get_or register n zero_symbol)
    ∙ ap (λ z. sum_of (product_of (power gf r (suc n)) m) (product_of r z)) (sym (value_parts register n r long))

pub rest_next : (r n : ℕ) (low : List Symbol) → IsLow r (suc n) low → (fb m : Symbol) (register part : List Symbol)
    → length register ≡ suc n → fb ≡ sum_of m (get_or register n zero_symbol)
    → IsRest r (suc n) register part → IsRest r (suc n) (shifted n low fb register) (m ∷ part)
unfolding IsRest shifted
rest_next r n low is fb m register part long ef h j less =
    let x = power gf alpha j in
    root_step fb m x register low n long ef (is.values j less)
    ∙ ap (λ z. sum_of (product_of (power gf x (suc n)) m) (product_of x z)) (h j less)
    ∙ collect (power gf x (suc n)) x m (value gf part x)
  where
    collect : (p r m v : Symbol) → sum_of (product_of p m) (product_of r (product_of p v)) ≡ product_of p (sum_of m (product_of r v))
    collect p r m v = ap (sum_of (product_of p m)) (mul_left gf laws r p v) ∙ sym (laws.mul_add p m (product_of r v))

-- nothing taken: a register of zeros
pub zeros : (c : List Symbol) (r : Symbol) → ((k : ℕ) → k < length c → get_or c k zero_symbol ≡ zero_symbol) → value gf c r ≡ zero_symbol
zeros [] r h = refl
zeros (c ∷ cs) r h =
    ap (λ z. sum_of z (product_of r (value gf cs r))) (h zero (omega arith))
    ∙ ap (λ z. sum_of zero_symbol (product_of r z)) (zeros cs r (λ k l. h (suc k) (omega arith)))
    ∙ ap (sum_of zero_symbol) (mul_zero gf laws r) ∙ laws.add_zero zero_symbol

pub rest_first : (r n : ℕ) (register : List Symbol) → length register ≡ n
    → ((k : ℕ) → k < n → get_or register k zero_symbol ≡ zero_symbol) → IsRest r n register []
unfolding IsRest
rest_first r n register long h j less = zeros register (power gf alpha j) (λ k l. h k (omega arith))
    ∙ sym (mul_zero gf laws (power gf (power gf alpha j) n))

pub rest_last : (r : ℕ) (register message : List Symbol) → length register ≡ r
    → IsRest r r register message → IsCodeword r (r + length message) (register ++ message)
unfolding IsRest
rest_last r register message long h = record {
  long = omega (arith, length-append register message);
  roots = λ j less.
      let x = power gf alpha j in
      value_append register message x
      ∙ ap (λ z. sum_of (value gf register x) (product_of (power gf x z) (value gf message x))) long
      ∙ ap (λ z. sum_of z (product_of (power gf x r) (value gf message x))) (h j less)
      ∙ laws.add_self (product_of (power gf x r) (value gf message x));
}

-- x y taken out
undone : (x a b : Symbol) → ¬ (x ≡ zero_symbol) → product_of x a ≡ product_of x b → a ≡ b
undone x a b ne e = sym (back a) ∙ ap (product_of (gf.inverse x)) e ∙ back b
  where
    back : (c : Symbol) → product_of (gf.inverse x) (product_of x c) ≡ c
    back c = sym (laws.mul_assoc (gf.inverse x) x c)
        ∙ ap (λ z. product_of z c) (laws.mul_comm (gf.inverse x) x ∙ laws.mul_inverse x ne) ∙ one_mul gf laws c

behind_zeros : (z : ℕ) (c : List Symbol) (x : Symbol) → z ≤ length c
    → ((k : ℕ) → k < z → get_or c k zero_symbol ≡ zero_symbol)
    → value gf c x ≡ product_of (power gf x z) (value gf (drop z c) x)
behind_zeros z c x le h =
    let short : length (take z c) ≡ z = omega (arith, length-take z c) in
    ap (λ l. value gf l x) (sym (take-append-drop z c)) ∙ value_append (take z c) (drop z c) x
    ∙ ap₂ (λ v n. sum_of v (product_of (power gf x n) (value gf (drop z c) x)))
    (zeros (take z c) x (λ k l. let low : k < z = omega arith in get_or-take z c k zero_symbol low ∙ h k low)) short
    ∙ zero_add gf laws (product_of (power gf x z) (value gf (drop z c) x))

-- a register behind zeros
pub rest_behind_zeros : (r z n : ℕ) (register part : List Symbol) → z ≤ length register
    → ((k : ℕ) → k < z → get_or register k zero_symbol ≡ zero_symbol)
    → IsRest r (z + n) register part → IsRest r n (drop z register) part
unfolding IsRest
rest_behind_zeros r z n register part le none h j less =
    let x = power gf alpha j in
    let p = power gf x z in
    let v = value gf part x in
    undone p _ _ (power_apart gf laws x (power_apart gf laws alpha alpha_nonzero j) z)
    (sym (behind_zeros z register x le none) ∙ h j less ∙ ap (λ q. product_of q v) (power_add gf laws x z n)
    ∙ laws.mul_assoc p (power gf x n) v)

-- Horner from the top: one more symbol
pub value_next : (word : List Symbol) (x c s : Symbol) (i at : ℕ) → at ≡ length word - 1 - i → i < length word
    → c ≡ get_or word at c
    → s ≡ value gf (drop (length word - i) word) x
    → sum_of c (product_of x s) ≡ value gf (drop (length word - (i + 1)) word) x
value_next word x c s i at ea less ec es =
    let up : length word - i ≡ suc at = omega arith in
    let down : length word - (i + 1) ≡ at = omega arith in
    ap (λ z. sum_of c (product_of x z)) (es ∙ ap (λ z. value gf (drop z word) x) up)
    ∙ ap (λ z. sum_of z (product_of x (value gf (drop (suc at) word) x))) ec
    ∙ sym (ap (λ z. value gf z x) (ap (λ z. drop z word) down ∙ drop-cons word at c (omega arith)))
