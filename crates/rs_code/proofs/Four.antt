-- Four symbols more at once: the remainder four places on, and a multiple for each of the four that leave it.
use Rattle.std.proofs.Common.{◌≡◌, ℕ, ◌<◌, List, [], ◌∷◌, ◌++◌, length, take, get_or, sym, ap, ap₂, ◌∙◌, arith}
use Rattle.std.proofs.Math.Seq.{drop-cons}
use Rattle.std.proofs.lemmas.List.{ext_get_or, length-take, take-append-drop}
use Rattle.gf1024.specs.Symbol.{Symbol, gf, zero_symbol, sum_of, product_of, alpha}
use Rattle.gf1024.proofs.FieldLaws.{laws}
use Rattle.field_base.specs.Field.{Field, Laws, power}
use Rattle.field_base.specs.Poly.{value, plus, scaled}
use Rattle.field_base.proofs.Ring.{mul_left, zero_add, mul_zero, one_mul}
use Rattle.field_base.proofs.Value.{value_plus, value_scaled}
use Rattle.field_base.proofs.Along.{length_plus, length_scaled}
use Rattle.field_base.proofs.Coefficients.{plus_at, scaled_at}
use Rattle.gf_lanes.specs.Lanes.{EachLane}
use Rattle.rs_code.specs.Register.{IsRemainder}
use Rattle.rs_code.proofs.Generator.{value_append}
use Rattle.rs_code.proofs.Row.{nothing_after}
use Rattle.rs_code.proofs.Tables.{IsBase}

module _ (F : Field) (L : Laws F) where
  open F use {carrier, add, mul, zero_element, one}

  -- x^4 y
  abbrev pub four : carrier → carrier → carrier
  four x y = mul x (mul x (mul x (mul x y)))

  four_add : (x a b : carrier) → four x (add a b) ≡ add (four x a) (four x b)
  four_add x a b =
      ap (λ z. mul x (mul x (mul x z))) (L.mul_add x a b)
      ∙ ap (λ z. mul x (mul x z)) (L.mul_add x (mul x a) (mul x b))
      ∙ ap (mul x) (L.mul_add x (mul x (mul x a)) (mul x (mul x b)))
      ∙ L.mul_add x (mul x (mul x (mul x a))) (mul x (mul x (mul x b)))

  four_left : (x a b : carrier) → four x (mul a b) ≡ mul a (four x b)
  four_left x a b =
      ap (λ z. mul x (mul x (mul x z))) (mul_left F L x a b)
      ∙ ap (λ z. mul x (mul x z)) (mul_left F L x a (mul x b))
      ∙ ap (mul x) (mul_left F L x a (mul x (mul x b)))
      ∙ mul_left F L x a (mul x (mul x (mul x b)))

  four_right : (x a b : carrier) → four x (mul a b) ≡ mul (four x a) b
  four_right x a b = ap (four x) (L.mul_comm a b) ∙ four_left x b a ∙ L.mul_comm b (four x a)

  -- a product with p, from the first term on
  peel : (p f x r : carrier) → mul p (add f (mul x r)) ≡ add (mul f p) (mul (mul x p) r)
  peel p f x r = L.mul_add p f (mul x r) ∙ ap₂ add (L.mul_comm p f) (sym (L.mul_assoc p x r) ∙ ap (λ z. mul z r) (L.mul_comm p x))

  -- the four multiples, collected
  collected : (v p x f g h k : carrier)
      → add (add (add (add v (mul f p)) (mul g (mul x p))) (mul h (mul x (mul x p)))) (mul k (mul x (mul x (mul x p))))
      ≡ add v (mul p (value F (f ∷ g ∷ h ∷ k ∷ []) x))
  collected v p x f g h k =
      let p1 = mul x p in
      let p2 = mul x p1 in
      let p3 = mul x p2 in
      let last : mul p3 (add k (mul x zero_element)) ≡ mul k p3 =
      ap (λ z. mul p3 (add k z)) (mul_zero F L x) ∙ ap (mul p3) (L.add_zero k) ∙ L.mul_comm p3 k in
      let whole : mul p (value F (f ∷ g ∷ h ∷ k ∷ []) x) ≡ add (mul f p) (add (mul g p1) (add (mul h p2) (mul k p3))) =
      peel p f x (value F (g ∷ h ∷ k ∷ []) x)
      ∙ ap (add (mul f p)) (peel p1 g x (value F (h ∷ k ∷ []) x)
      ∙ ap (add (mul g p1)) (peel p2 h x (value F (k ∷ []) x) ∙ ap (add (mul h p2)) last)) in
      L.add_assoc (add (add v (mul f p)) (mul g p1)) (mul h p2) (mul k p3)
      ∙ L.add_assoc (add v (mul f p)) (mul g p1) (add (mul h p2) (mul k p3))
      ∙ L.add_assoc v (mul f p) (add (mul g p1) (add (mul h p2) (mul k p3)))
      ∙ ap (add v) (sym whole)

  -- the symbols that leave, with those that come in
  pub stepped : (v p x t w f g h k a b c d : carrier) → add t (mul p (value F (f ∷ g ∷ h ∷ k ∷ []) x)) ≡ mul (four x p) v
      → w ≡ add (add (add (add (four x t) (mul (add f a) (four x p))) (mul (add g b) (mul x (four x p))))
      (mul (add h c) (mul x (mul x (four x p))))) (mul (add k d) (mul x (mul x (mul x (four x p)))))
      → w ≡ mul (four x p) (add (value F (a ∷ b ∷ c ∷ d ∷ []) x) (four x v))
  stepped v p x t w f g h k a b c d e ew =
      let q = four x p in
      let out = value F (f ∷ g ∷ h ∷ k ∷ []) x in
      let come = value F (a ∷ b ∷ c ∷ d ∷ []) x in
      ew ∙ collected (four x t) q x (add f a) (add g b) (add h c) (add k d)
      ∙ ap (λ z. add (four x t) (mul q z)) (value_plus F L (f ∷ g ∷ h ∷ k ∷ []) (a ∷ b ∷ c ∷ d ∷ []) x)
      ∙ ap (add (four x t)) (L.mul_add q out come)
      ∙ sym (L.add_assoc (four x t) (mul q out) (mul q come))
      ∙ ap (λ z. add z (mul q come))
      (ap (add (four x t)) (sym (four_right x p out)) ∙ sym (four_add x t (mul p out)) ∙ ap (four x) e ∙ four_left x q v)
      ∙ L.add_comm (mul q (four x v)) (mul q come) ∙ sym (L.mul_add q come (four x v))

-- a sum in lanes is the sum
pub sum_is_plus : (a m r : List Symbol) → length a ≡ 32 → length m ≡ 32 → EachLane sum_of a m r → r ≡ plus gf a m
sum_is_plus a m r la lm h =
    ext_get_or zero_symbol r (plus gf a m) (h.long ∙ sym (length_plus gf laws a m (la ∙ sym lm) ∙ la))
    (λ i less. h.each i (omega (arith, h.long)) ∙ sym (plus_at gf laws a m i))

-- a list with a multiple added
record IsAdded (n : ℕ) (f : Symbol) (a r : List Symbol) : Type 0 where
  long : length r ≡ 32
  lane_0 : get_or r 0 zero_symbol ≡ get_or a 0 zero_symbol
  lane_1 : get_or r 1 zero_symbol ≡ get_or a 1 zero_symbol
  values : (j : ℕ) → j < 30 → value gf r (power gf alpha j) ≡ sum_of (value gf a (power gf alpha j)) (product_of f (power gf (power gf alpha j) n))

added : (n : ℕ) (f : Symbol) (a base m r : List Symbol) → length a ≡ 32 → IsBase n base → m ≡ scaled gf f base → EachLane sum_of a m r → IsAdded n f a r
added n f a base m r la hb em h = record {
  long = h.long;
  lane_0 = h.each 0 (omega arith) ∙ ap (sum_of (get_or a 0 zero_symbol)) (none 0 hb.lane_0) ∙ laws.add_zero (get_or a 0 zero_symbol);
  lane_1 = h.each 1 (omega arith) ∙ ap (sum_of (get_or a 1 zero_symbol)) (none 1 hb.lane_1) ∙ laws.add_zero (get_or a 1 zero_symbol);
  values = λ j less.
      let x = power gf alpha j in
      ap (λ l. value gf l x) (sum_is_plus a m r la lm h) ∙ value_plus gf laws a m x
      ∙ ap (sum_of (value gf a x)) (ap (λ l. value gf l x) em ∙ value_scaled gf laws f base x ∙ ap (product_of f) (hb.values j less));
}
  where
    lm : length m ≡ 32
    lm = ap length em ∙ length_scaled gf laws f base ∙ hb.long

    none : (i : ℕ) → get_or base i zero_symbol ≡ zero_symbol → get_or m i zero_symbol ≡ zero_symbol
    none i e = ap (λ l. get_or l i zero_symbol) em ∙ scaled_at gf laws f base i ∙ ap (product_of f) e ∙ mul_zero gf laws f

-- the last four of thirty-two
last_four : (c : List Symbol) → length c ≡ 32
    → c ≡ take 28 c ++ (get_or c 28 zero_symbol ∷ get_or c 29 zero_symbol ∷ get_or c 30 zero_symbol ∷ get_or c 31 zero_symbol ∷ [])
last_four c long =
    sym (take-append-drop 28 c)
    ∙ ap (λ l. take 28 c ++ l)
    (drop-cons c 28 zero_symbol (omega arith)
    ∙ ap (λ l. get_or c 28 zero_symbol ∷ l) (drop-cons c 29 zero_symbol (omega arith)
    ∙ ap (λ l. get_or c 29 zero_symbol ∷ l) (drop-cons c 30 zero_symbol (omega arith)
    ∙ ap (λ l. get_or c 30 zero_symbol ∷ l) (drop-cons c 31 zero_symbol (omega arith)
    ∙ ap (λ l. get_or c 31 zero_symbol ∷ l) (nothing_after c 32 (omega arith))))))

value_last_four : (c : List Symbol) (x : Symbol) → length c ≡ 32
    → value gf c x
    ≡ sum_of (value gf (take 28 c) x) (product_of (power gf x 28)
    (value gf (get_or c 28 zero_symbol ∷ get_or c 29 zero_symbol ∷ get_or c 30 zero_symbol ∷ get_or c 31 zero_symbol ∷ []) x))
value_last_four c x long =
    let out = get_or c 28 zero_symbol ∷ get_or c 29 zero_symbol ∷ get_or c 30 zero_symbol ∷ get_or c 31 zero_symbol ∷ [] in
    let short : length (take 28 c) ≡ 28 = omega (arith, length-take 28 c) in
    ap (λ l. value gf l x) (last_four c long) ∙ value_append (take 28 c) out x
    ∙ ap (λ n. sum_of (value gf (take 28 c) x) (product_of (power gf x n) (value gf out x))) short

-- behind four zeros
value_behind : (c : List Symbol) (x : Symbol) → value gf (zero_symbol ∷ zero_symbol ∷ zero_symbol ∷ zero_symbol ∷ c) x ≡ four gf laws x (value gf c x)
value_behind c x =
    let z = zero_add gf laws in
    z (product_of x (value gf (zero_symbol ∷ zero_symbol ∷ zero_symbol ∷ c) x))
    ∙ ap (product_of x) (z (product_of x (value gf (zero_symbol ∷ zero_symbol ∷ c) x))
    ∙ ap (product_of x) (z (product_of x (value gf (zero_symbol ∷ c) x)) ∙ ap (product_of x) (z (product_of x (value gf c x)))))

-- four symbols and those behind them
value_four : (a b c d : Symbol) (part : List Symbol) (x : Symbol)
    → value gf (a ∷ b ∷ c ∷ d ∷ part) x
    ≡ sum_of (value gf (a ∷ b ∷ c ∷ d ∷ []) x) (four gf laws x (value gf part x))
value_four a b c d part x =
    let v = value gf part x in
    value_append (a ∷ b ∷ c ∷ d ∷ []) part x
    ∙ ap (sum_of (value gf (a ∷ b ∷ c ∷ d ∷ []) x))
    (sym (four_right gf laws x (power gf x 0) v) ∙ ap (four gf laws x) (one_mul gf laws v))

pub four_more_is : (register moved m0 m1 m2 m3 r0 r1 r2 r3 b0 b1 b2 b3 : List Symbol) (a b c d f0 f1 f2 f3 : Symbol)
    → moved ≡ zero_symbol ∷ zero_symbol ∷ zero_symbol ∷ zero_symbol ∷ take 28 register
    → IsBase 32 b0 → IsBase 33 b1 → IsBase 34 b2 → IsBase 35 b3
    → m0 ≡ scaled gf f0 b0 → m1 ≡ scaled gf f1 b1 → m2 ≡ scaled gf f2 b2 → m3 ≡ scaled gf f3 b3
    → f0 ≡ sum_of (get_or register 28 zero_symbol) a → f1 ≡ sum_of (get_or register 29 zero_symbol) b
    → f2 ≡ sum_of (get_or register 30 zero_symbol) c → f3 ≡ sum_of (get_or register 31 zero_symbol) d
    → EachLane sum_of moved m0 r0 → EachLane sum_of r0 m1 r1 → EachLane sum_of r1 m2 r2 → EachLane sum_of r2 m3 r3
    → (part : List Symbol) → IsRemainder register part → IsRemainder r3 (a ∷ b ∷ c ∷ d ∷ part)
four_more_is register moved m0 m1 m2 m3 r0 r1 r2 r3 b0 b1 b2 b3 a b c d f0 f1 f2 f3 em h0 h1 h2 h3 e0 e1 e2 e3
    g0 g1 g2 g3 s0 s1 s2 s3 part h = record {
      long = p3.long;
      lane_0 = p3.lane_0 ∙ p2.lane_0 ∙ p1.lane_0 ∙ p0.lane_0 ∙ ap (λ l. get_or l 0 zero_symbol) em;
      lane_1 = p3.lane_1 ∙ p2.lane_1 ∙ p1.lane_1 ∙ p0.lane_1 ∙ ap (λ l. get_or l 1 zero_symbol) em;
      values = values;
    }
  where
    long : length moved ≡ 32
    long = ap length em ∙ omega (arith, h.long, length-take 28 register)

    p0 : IsAdded 32 f0 moved r0
    p0 = added 32 f0 moved b0 m0 r0 long h0 e0 s0

    p1 : IsAdded 33 f1 r0 r1
    p1 = added 33 f1 r0 b1 m1 r1 p0.long h1 e1 s1

    p2 : IsAdded 34 f2 r1 r2
    p2 = added 34 f2 r1 b2 m2 r2 p1.long h2 e2 s2

    p3 : IsAdded 35 f3 r2 r3
    p3 = added 35 f3 r2 b3 m3 r3 p2.long h3 e3 s3

    values : (j : ℕ) → j < 30
        → value gf r3 (power gf alpha j)
        ≡ product_of (power gf (power gf alpha j) 32) (value gf (a ∷ b ∷ c ∷ d ∷ part) (power gf alpha j))
    values j less =
        let x = power gf alpha j in
        let P : ℕ → Symbol = λ n. power gf x n in
        stepped gf laws (value gf part x) (P 28) x (value gf (take 28 register) x) (value gf r3 x)
        (get_or register 28 zero_symbol) (get_or register 29 zero_symbol) (get_or register 30 zero_symbol)
        (get_or register 31 zero_symbol) a b c d
        (sym (value_last_four register x h.long) ∙ h.values j less)
        (p3.values j less ∙ ap₂ sum_of (p2.values j less ∙ ap₂ sum_of (p1.values j less ∙ ap₂ sum_of (p0.values j less
        ∙ ap₂ sum_of (ap (λ l. value gf l x) em ∙ value_behind (take 28 register) x) (ap (λ z. product_of z (P 32)) g0))
        (ap (λ z. product_of z (P 33)) g1)) (ap (λ z. product_of z (P 34)) g2)) (ap (λ z. product_of z (P 35)) g3))
        ∙ ap (product_of (P 32)) (sym (value_four a b c d part x))
