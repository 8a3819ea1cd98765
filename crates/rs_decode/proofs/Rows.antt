-- Rows of thirty-two places: the values of a polynomial there are those of its scaled coefficients at the places of the first row.
use Rattle.std.proofs.Common.{◌≡◌, ℕ, zero, suc, ◌+◌, ◌*◌, ◌<◌, ◌≤◌, List, [], ◌∷◌, length, get_or, take, refl, sym, ap, ap₂, ◌∙◌, arith}
use Rattle.gf1024.specs.Symbol.{Symbol, gf, zero_symbol, one_symbol, sum_of, product_of, alpha}
use Rattle.gf1024.proofs.FieldLaws.{laws}
use Rattle.gf1024.proofs.InverseTable.{only_inverse}
use Rattle.gf1024.proofs.Powers.{alpha_nonzero}
use Rattle.field_base.specs.Field.{Field, Laws, power}
use Rattle.field_base.specs.Poly.{value}
use Rattle.field_base.proofs.Ring.{one_mul, mul_left, mul_zero}
use Rattle.field_base.proofs.Shorter.{power_add, power_apart}
use Rattle.field_base.proofs.Words.{power_of_product, power_of_one}
use Rattle.gf_lanes.specs.Lanes.{EachLane}
use Rattle.rs_decode.specs.Recurrence.{StartsAs}
use Rattle.rs_decode.specs.Repair.{place, back_power}
use Rattle.rs_decode.proofs.Formula.{interchange}

-- inverse powers of a sum and of a product
back_inverts : (i : ℕ) → product_of (place i) (back_power i) ≡ one_symbol
back_inverts i = laws.mul_inverse (place i) (power_apart gf laws alpha alpha_nonzero i)

pub back_add : (m n : ℕ) → product_of (back_power m) (back_power n) ≡ back_power (m + n)
back_add m n =
    only_inverse (place (m + n)) (product_of (back_power m) (back_power n)) (power_apart gf laws alpha alpha_nonzero (m + n))
    (ap (λ z. product_of z (product_of (back_power m) (back_power n))) (power_add gf laws alpha m n)
    ∙ interchange gf laws (place m) (place n) (back_power m) (back_power n)
    ∙ ap₂ product_of (back_inverts m) (back_inverts n) ∙ laws.mul_one one_symbol)

back_zero : one_symbol ≡ back_power 0
back_zero = only_inverse one_symbol one_symbol (power_apart gf laws alpha alpha_nonzero 0) (laws.mul_one one_symbol)

pub back_times : (m j : ℕ) → power gf (back_power m) j ≡ back_power (m * j)
back_times m zero = let none : 0 ≡ m * 0 = omega arith in back_zero ∙ ap back_power none
back_times m (suc j) =
    let more : m + m * j ≡ m * suc j = omega arith in
    ap (product_of (back_power m)) (back_times m j) ∙ back_add m (m * j) ∙ ap back_power more

back_less : (m k : ℕ) → product_of (back_power (m + k)) (place k) ≡ back_power m
back_less m k =
    ap (λ z. product_of z (place k)) (sym (back_add m k)) ∙ laws.mul_assoc (back_power m) (back_power k) (place k)
    ∙ ap (product_of (back_power m)) (laws.mul_comm (back_power k) (place k) ∙ back_inverts k) ∙ laws.mul_one (back_power m)

module _ (F : Field) (L : Laws F) where
  open F use {carrier, add, mul}

  moved : (a q b p : carrier) → mul a (mul q (mul b p)) ≡ mul (mul a b) (mul q p)
  moved a q b p = simp (L.mul_assoc, mul_left F L)

  gathered : (a b c x v : carrier) → add (mul a c) (mul x (mul (mul a b) v)) ≡ mul a (add c (mul (mul b x) v))
  gathered a b c x v =
      ap (add (mul a c)) (mul_left F L x (mul a b) v ∙ ap (λ z. mul z (mul x v)) refl ∙ L.mul_assoc a b (mul x v)
      ∙ ap (mul a) (sym (L.mul_assoc b x v)))
      ∙ sym (L.mul_add a c (mul (mul b x) v))

  turned_in : (b c p : carrier) → mul b (mul c p) ≡ mul c (mul p b)
  turned_in b c p = mul_left F L b c p ∙ ap (mul c) (L.mul_comm b p)

-- coefficients scaled by powers of b
scaled_value : (a b x : Symbol) (c s : List Symbol)
    → ((j : ℕ) → j < length c → get_or s j zero_symbol ≡ product_of a (product_of (get_or c j zero_symbol) (power gf b j)))
    → length c ≤ length s → value gf (take (length c) s) x ≡ product_of a (value gf c (product_of b x))
scaled_value a b x [] s h le = sym (mul_zero gf laws a)
scaled_value a b x (c ∷ cs) [] h le = absurd (omega arith)
scaled_value a b x (c ∷ cs) (t ∷ ts) h le =
    let rest = scaled_value (product_of a b) b x cs ts
    (λ j less. h (suc j) (omega arith) ∙ moved gf laws a (get_or cs j zero_symbol) b (power gf b j)) (omega arith) in
    ap₂ sum_of (h zero (omega arith) ∙ ap (product_of a) (laws.mul_one c)) (ap (product_of x) rest)
    ∙ gathered gf laws a b c x (value gf cs (product_of b x))

-- the coefficients of c, scaled by the powers of alpha^-m
pub record IsScaled (m : ℕ) (c s : List Symbol) : Type 0 where
  pub long : length s ≡ 32
  pub each : (j : ℕ) → j < length c → get_or s j zero_symbol ≡ product_of (get_or c j zero_symbol) (power gf (back_power m) j)

pub scaled_first : (c s : List Symbol) → length c ≤ 32 → StartsAs 32 c s → IsScaled 0 c s
scaled_first c s few h = record {
  long = h.long;
  each = λ j less. h.each j (omega arith) ∙ sym (laws.mul_one (get_or c j zero_symbol))
      ∙ ap (product_of (get_or c j zero_symbol)) (sym (ap (λ z. power gf z j) (sym back_zero) ∙ power_of_one gf laws j));
}

pub scaled_next : (m i : ℕ) (c s step new : List Symbol) → length c ≤ 16
    → ((j : ℕ) → j < 16 → get_or step j zero_symbol ≡ back_power (i * j)) → EachLane product_of step s new → IsScaled m c s
    → IsScaled (m + i) c new
scaled_next m i c s step new few steps lanes h = record {
  long = lanes.long;
  each = λ j less.
      let p = back_power m in
      let q = back_power i in
      lanes.each j (omega arith)
      ∙ ap₂ product_of (steps j (omega arith) ∙ sym (back_times i j)) (h.each j less)
      ∙ turned_in gf laws (power gf q j) (get_or c j zero_symbol) (power gf p j)
      ∙ ap (product_of (get_or c j zero_symbol)) (sym (power_of_product gf laws p q j)
      ∙ ap (λ z. power gf z j) (back_add m i));
}

pub scaled_at_place : (m i k : ℕ) (c s : List Symbol) → length c ≤ 32 → m ≡ i + k → IsScaled m c s
    → value gf (take (length c) s) (place k) ≡ value gf c (back_power i)
scaled_at_place m i k c s few e h =
    scaled_value one_symbol (back_power m) (place k) c s
    (λ j less. h.each j less ∙ sym (one_mul gf laws (product_of (get_or c j zero_symbol) (power gf (back_power m) j))))
    (omega (arith, h.long))
    ∙ one_mul gf laws (value gf c (product_of (back_power m) (place k)))
    ∙ ap (λ n. value gf c (product_of (back_power n) (place k))) e ∙ ap (value gf c) (back_less i k)
