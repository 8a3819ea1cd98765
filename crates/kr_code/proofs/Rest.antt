-- A parity of fourteen from one of thirty: the roots of this code are roots of the other.
use Rattle.std.proofs.Common.{◌≡◌, ℕ, ◌+◌, ◌-◌, ◌<◌, List, ◌++◌, length, take, drop, get_or, sym, ap, ap₂, ◌∙◌, arith}
use Rattle.std.proofs.lemmas.List.{length-take, length-drop, take-append-drop, ext_get_or, get_or-take, get_or-drop, get_or_default}
use Rattle.gf1024.specs.Symbol.{Symbol, gf, zero_symbol, sum_of, product_of, alpha}
use Rattle.gf1024.proofs.FieldLaws.{laws}
use Rattle.field_base.specs.Field.{Field, Laws, power}
use Rattle.field_base.specs.Poly.{value, plus}
use Rattle.field_base.proofs.Ring.{zero_add, mul_zero}
use Rattle.field_base.proofs.Value.{value_plus}
use Rattle.field_base.proofs.Along.{length_plus}
use Rattle.field_base.proofs.Coefficients.{plus_at}
use Rattle.field_base.proofs.Shorter.{power_add}
use Rattle.rs_code.specs.Code.{IsCodeword}
use Rattle.rs_code.proofs.Generator.{value_append}
use Rattle.rs_code.proofs.Encoder.{IsRest, zeros}

-- two symbols whose sum is zero are one
sum_zero : (a b : Symbol) → sum_of a b ≡ zero_symbol → a ≡ b
sum_zero a b h =
    sym (laws.add_zero a) ∙ ap (sum_of a) (sym (laws.add_self b)) ∙ sym (laws.add_assoc a b b) ∙ ap (λ z. sum_of z b) h ∙ zero_add gf laws b

-- the parity of a word with zeros in its highest places
pub high_values : (rest high zeros_behind : List Symbol) (j : ℕ) → length rest ≡ 30 → IsCodeword 30 544 (rest ++ (high ++ zeros_behind))
    → ((k : ℕ) → k < length zeros_behind → get_or zeros_behind k zero_symbol ≡ zero_symbol) → j < 30
    → value gf rest (power gf alpha j) ≡ product_of (power gf (power gf alpha j) 30) (value gf high (power gf alpha j))
high_values rest high behind j long is none less =
    let x = power gf alpha j in
    sum_zero _ _ (
    ap₂ (λ n v. sum_of (value gf rest x) (product_of (power gf x n) v)) (sym long)
    (sym (laws.add_zero (value gf high x)) ∙ ap (sum_of (value gf high x)) (sym (mul_zero gf laws (power gf x (length high))) ∙ ap (product_of (power gf x (length high))) (sym (zeros behind x none)))
    ∙ sym (value_append high behind x))
    ∙ sym (value_append rest (high ++ behind) x) ∙ is.roots j less)

module _ (F : Field) (L : Laws F) where
  open F use {carrier, add, mul, zero_element, one}

  -- p (m + t) + l, where l + p t is p q h
  joined_of : (p q m t l h : carrier) → add l (mul p t) ≡ mul (mul p q) h → add (mul p (add m t)) l ≡ mul p (add m (mul q h))
  joined_of p q m t l h e =
      ap (λ z. add z l) (L.mul_add p m t) ∙ L.add_assoc (mul p m) (mul p t) l
      ∙ ap (add (mul p m)) (L.add_comm (mul p t) l ∙ e ∙ L.mul_assoc p q h) ∙ sym (L.mul_add p m (mul q h))

-- fourteen symbols of a rest of thirty, with the remainder of the sixteen others and of the lowest sixteen of a message
pub parity_values : (short rest message : List Symbol) → length short ≡ 14 → length rest ≡ 30 → length message ≡ 514
    → IsRest 14 14 short (plus gf (take 16 message) (drop 14 rest))
    → ((j : ℕ) → j < 14 → value gf rest (power gf alpha j) ≡ product_of (power gf (power gf alpha j) 30) (value gf (drop 16 message) (power gf alpha j)))
    → IsRest 14 14 (plus gf short (take 14 rest)) message
unfolding IsRest
parity_values short rest message ls lr lm hs hr j less =
    let x = power gf alpha j in
    let m = take 16 message in
    let high = drop 16 message in
    let low = take 14 rest in
    let top = drop 14 rest in
    let l14 : length low ≡ 14 = omega (arith, lr, length-take 14 rest) in
    let l16 : length m ≡ 16 = omega (arith, lm, length-take 16 message) in
    let whole : value gf rest x ≡ sum_of (value gf low x) (product_of (power gf x 14) (value gf top x)) =
    ap (λ l. value gf l x) (sym (take-append-drop 14 rest)) ∙ value_append low top x
    ∙ ap (λ n. sum_of (value gf low x) (product_of (power gf x n) (value gf top x))) l14 in
    let text : value gf message x ≡ sum_of (value gf m x) (product_of (power gf x 16) (value gf high x)) =
    ap (λ l. value gf l x) (sym (take-append-drop 16 message)) ∙ value_append m high x
    ∙ ap (λ n. sum_of (value gf m x) (product_of (power gf x n) (value gf high x))) l16 in
    let e : sum_of (value gf low x) (product_of (power gf x 14) (value gf top x)) ≡ product_of (product_of (power gf x 14) (power gf x 16)) (value gf high x) =
    sym whole ∙ hr j less ∙ ap (λ z. product_of z (value gf high x)) (power_add gf laws x 14 16) in
    value_plus gf laws short low x
    ∙ ap (λ z. sum_of z (value gf low x)) (hs j less ∙ ap (product_of (power gf x 14)) (value_plus gf laws m top x))
    ∙ joined_of gf laws (power gf x 14) (power gf x 16) (value gf m x) (value gf top x) (value gf low x) (value gf high x) e
    ∙ ap (product_of (power gf x 14)) (sym text)

-- the sixteen symbols that are divided
pub top_long : (message rest : List Symbol) → length message ≡ 514 → length rest ≡ 30 → length (plus gf (take 16 message) (drop 14 rest)) ≡ 16
top_long message rest lm lr =
    let a : length (take 16 message) ≡ 16 = omega (arith, lm, length-take 16 message) in
    let b : length (drop 14 rest) ≡ 16 = omega (arith, lr, length-drop 14 rest) in
    length_plus gf laws (take 16 message) (drop 14 rest) (a ∙ sym b) ∙ a

pub top_at : (message rest : List Symbol) (i : ℕ) (m r s : Symbol) → length message ≡ 514 → length rest ≡ 30 → i < 16
    → s ≡ sum_of (get_or message (15 - i) m) (get_or rest (29 - i) r)
    → s ≡ get_or (plus gf (take 16 message) (drop 14 rest)) (16 - 1 - i) zero_symbol
top_at message rest i m r s lm lr less es =
    let at : 14 + (16 - 1 - i) ≡ 29 - i = omega arith in
    let there : 16 - 1 - i ≡ 15 - i = omega arith in
    es ∙ ap₂ sum_of
    (get_or_default message (15 - i) m zero_symbol (omega (arith, lm)) ∙ ap (λ k. get_or message k zero_symbol) (sym there) ∙ sym (get_or-take 16 message (16 - 1 - i) zero_symbol (omega arith)))
    (get_or_default rest (29 - i) r zero_symbol (omega (arith, lr)) ∙ ap (λ k. get_or rest k zero_symbol) (sym at) ∙ sym (get_or-drop 14 rest (16 - 1 - i) zero_symbol))
    ∙ sym (plus_at gf laws (take 16 message) (drop 14 rest) (16 - 1 - i))

-- the parity, place by place
pub parity_rest_is : (register rest parity : List Symbol) → length register ≡ 32 → length rest ≡ 30 → length parity ≡ 14
    → ((k : ℕ) → k < 14 → get_or parity k zero_symbol ≡ sum_of (get_or register (k + 18) zero_symbol) (get_or rest k zero_symbol))
    → parity ≡ plus gf (drop 18 register) (take 14 rest)
parity_rest_is register rest parity lr ls lp each =
    let a : length (drop 18 register) ≡ 14 = omega (arith, lr, length-drop 18 register) in
    let b : length (take 14 rest) ≡ 14 = omega (arith, ls, length-take 14 rest) in
    ext_get_or zero_symbol parity (plus gf (drop 18 register) (take 14 rest)) (lp ∙ sym (length_plus gf laws (drop 18 register) (take 14 rest) (a ∙ sym b) ∙ a))
    (λ k l. let low : k < 14 = omega (arith, lp) in
    let same : k + 18 ≡ 18 + k = omega arith in
    each k low ∙ ap₂ sum_of (ap (λ n. get_or register n zero_symbol) same ∙ sym (get_or-drop 18 register k zero_symbol)) (sym (get_or-take 14 rest k zero_symbol low))
    ∙ sym (plus_at gf laws (drop 18 register) (take 14 rest) k))
