-- The remainder of a message, from its highest symbols down, and what it tells of codewords and values.
use Rattle.std.proofs.Common.{◌≡◌, ℕ, zero, suc, ◌+◌, ◌-◌, ◌*◌, ◌<◌, List, [], ◌∷◌, length, take, drop, get_or, replicate, sym, ap, ap₂, ◌∙◌, subst, arith}
use Rattle.std.proofs.Math.Seq.{drop-cons}
use Rattle.std.proofs.lemmas.List.{ext_get_or, length-take, length-drop, take-append-drop, get_or-drop, get_or-take}
use Rattle.std.proofs.lemmas.Simd.{get_or-replicate, length-replicate}
use Rattle.gf1024.specs.Symbol.{Symbol, gf, zero_symbol, sum_of, product_of, alpha}
use Rattle.gf1024.proofs.FieldLaws.{laws}
use Rattle.field_base.specs.Field.{power}
use Rattle.field_base.specs.Poly.{value, plus}
use Rattle.field_base.proofs.Ring.{zero_add, mul_zero}
use Rattle.field_base.proofs.Value.{value_plus}
use Rattle.field_base.proofs.Along.{length_plus}
use Rattle.field_base.proofs.Coefficients.{plus_at}
use Rattle.rs_code.specs.Register.{IsRemainder}
use Rattle.rs_code.proofs.Generator.{value_append}
use Rattle.rs_code.proofs.Encoder.{IsRest, zeros, rest_behind_zeros}
use Rattle.rs_code.proofs.Row.{nothing_after}

-- nothing taken
pub remainder_first : (start : List Symbol) (z : Symbol) → start ≡ replicate 32 z → z ≡ zero_symbol → IsRemainder start []
remainder_first start z e ez = record {
  long = long;
  lane_0 = at 0 (omega arith);
  lane_1 = at 1 (omega arith);
  values = λ j less. zeros start (power gf alpha j) (λ k l. at k (omega (arith, long)))
      ∙ sym (mul_zero gf laws (power gf (power gf alpha j) 32));
}
  where
    long : length start ≡ 32
    long = ap length e ∙ length-replicate {A = Symbol} 32 z

    at : (k : ℕ) → k < 32 → get_or start k zero_symbol ≡ zero_symbol
    at k less = ap (λ l. get_or l k zero_symbol) e ∙ get_or-replicate 32 k z zero_symbol less ∙ ez

-- zeros above the highest symbols
without_zeros : (register : List Symbol) (a b z : Symbol) → z ≡ zero_symbol → IsRemainder register (a ∷ b ∷ z ∷ z ∷ []) → IsRemainder register (a ∷ b ∷ [])
without_zeros register a b z ez h = record {
  long = h.long;
  lane_0 = h.lane_0;
  lane_1 = h.lane_1;
  values = λ j less. h.values j less
      ∙ ap (λ v. product_of (power gf (power gf alpha j) 32) (sum_of a (product_of (power gf alpha j) (sum_of b (product_of (power gf alpha j) v)))))
      (none (power gf alpha j));
}
  where
    none : (x : Symbol) → value gf (z ∷ z ∷ []) x ≡ zero_symbol
    none x =
        ap (λ s. sum_of s (product_of x (sum_of s (product_of x zero_symbol)))) ez
        ∙ zero_add gf laws (product_of x (sum_of zero_symbol (product_of x zero_symbol)))
        ∙ ap (product_of x) (zero_add gf laws (product_of x zero_symbol) ∙ mul_zero gf laws x) ∙ mul_zero gf laws x

-- the two highest symbols
pub remainder_two : (register message : List Symbol) (a b z : Symbol) → length message ≡ 514 → z ≡ zero_symbol
    → a ≡ get_or message 512 zero_symbol → b ≡ get_or message 513 zero_symbol
    → IsRemainder register (a ∷ b ∷ z ∷ z ∷ []) → IsRemainder register (drop 512 message)
remainder_two register message a b z long ez ea eb h =
    subst (IsRemainder register)
    (ap₂ (λ s t. s ∷ t ∷ []) ea eb
    ∙ sym (drop-cons message 512 zero_symbol (omega arith)
    ∙ ap (λ l. get_or message 512 zero_symbol ∷ l) (drop-cons message 513 zero_symbol (omega arith)
    ∙ ap (λ l. get_or message 513 zero_symbol ∷ l) (nothing_after message 514 (omega arith)))))
    (without_zeros register a b z ez h)

-- four symbols more
pub four_places : (message : List Symbol) (i : ℕ) (a b c d : Symbol) → length message ≡ 514 → i < 128
    → a ≡ get_or message (508 - 4 * i) zero_symbol → b ≡ get_or message (508 - 4 * i + 1) zero_symbol
    → c ≡ get_or message (508 - 4 * i + 2) zero_symbol → d ≡ get_or message (508 - 4 * i + 3) zero_symbol
    → a ∷ b ∷ c ∷ d ∷ drop (512 - 4 * i) message ≡ drop (512 - 4 * (i + 1)) message
four_places message i a b c d long less ea eb ec ed =
    let at = 508 - 4 * i in
    let get : ℕ → Symbol = λ k. get_or message k zero_symbol in
    let down : 512 - 4 * (i + 1) ≡ at = omega arith in
    let up : 512 - 4 * i ≡ suc (suc (suc (suc at))) = omega arith in
    let one : at + 1 ≡ suc at = omega arith in
    let two : at + 2 ≡ suc (suc at) = omega arith in
    let three : at + 3 ≡ suc (suc (suc at)) = omega arith in
    ap (λ s. s ∷ b ∷ c ∷ d ∷ drop (512 - 4 * i) message) ea
    ∙ ap (λ s. get at ∷ s ∷ c ∷ d ∷ drop (512 - 4 * i) message) (eb ∙ ap get one)
    ∙ ap (λ s. get at ∷ get (suc at) ∷ s ∷ d ∷ drop (512 - 4 * i) message) (ec ∙ ap get two)
    ∙ ap (λ s. get at ∷ get (suc at) ∷ get (suc (suc at)) ∷ s ∷ drop (512 - 4 * i) message) (ed ∙ ap get three)
    ∙ ap (λ n. get at ∷ get (suc at) ∷ get (suc (suc at)) ∷ get (suc (suc (suc at))) ∷ drop n message) up
    ∙ sym (ap (λ n. drop n message) down ∙ drop-cons message at zero_symbol (omega arith)
    ∙ ap (λ l. get at ∷ l) (drop-cons message (suc at) zero_symbol (omega arith)
    ∙ ap (λ l. get (suc at) ∷ l) (drop-cons message (suc (suc at)) zero_symbol (omega arith)
    ∙ ap (λ l. get (suc (suc at)) ∷ l) (drop-cons message (suc (suc (suc at))) zero_symbol (omega arith)))))

-- without its zeros it is x^30 times the part
pub rest_of_remainder : (register part : List Symbol) → IsRemainder register part → IsRest 30 30 (drop 2 register) part
unfolding IsRest
rest_of_remainder register part h = rest_behind_zeros 30 2 30 register part (omega (arith, h.long)) none h.values
  where
    none : (k : ℕ) → k < 2 → get_or register k zero_symbol ≡ zero_symbol
    none zero less = h.lane_0
    none (suc zero) less = h.lane_1
    none (suc (suc k)) less = absurd (omega arith)

-- the parity as the lanes behind z zeros
pub parity_is : (z n : ℕ) (register parity : List Symbol) → length register ≡ z + n → length parity ≡ n
    → ((k : ℕ) → k < n → get_or parity k zero_symbol ≡ get_or register (k + z) zero_symbol) → parity ≡ drop z register
parity_is z n register parity long long_p each =
    ext_get_or zero_symbol parity (drop z register) (omega (arith, length-drop z register)) (λ k less.
    each k (omega arith) ∙ (let e : k + z ≡ z + k = omega arith in ap (λ n. get_or register n zero_symbol) e)
    ∙ sym (get_or-drop z register k zero_symbol))

-- the remainder of a whole word has its values at the roots
pub same_values : (word register rest : List Symbol) → length word ≡ 544 → IsRemainder register (drop 30 word) → length rest ≡ 30
    → ((k : ℕ) → k < 30 → get_or rest k zero_symbol ≡ sum_of (get_or word k zero_symbol) (get_or register (k + 2) zero_symbol))
    → (j : ℕ) → j < 30 → value gf rest (power gf alpha j) ≡ value gf word (power gf alpha j)
unfolding IsRest
same_values word register rest long h long_r each j less =
    let x = power gf alpha j in
    let low = take 30 word in
    let high = drop 2 register in
    let short : length low ≡ 30 = omega (arith, length-take 30 word) in
    let long_h : length high ≡ 30 = omega (arith, h.long, length-drop 2 register) in
    let is : rest ≡ plus gf low high =
    ext_get_or zero_symbol rest (plus gf low high) (long_r ∙ sym (length_plus gf laws low high (short ∙ sym long_h) ∙ short)) (λ k l.
    each k (omega arith)
    ∙ ap₂ sum_of (sym (get_or-take 30 word k zero_symbol (omega arith)))
    ((let e : k + 2 ≡ 2 + k = omega arith in ap (λ n. get_or register n zero_symbol) e) ∙ sym (get_or-drop 2 register k zero_symbol))
    ∙ sym (plus_at gf laws low high k)) in
    ap (λ l. value gf l x) is ∙ value_plus gf laws low high x
    ∙ ap (sum_of (value gf low x)) (rest_of_remainder register (drop 30 word) h j less)
    ∙ sym (ap (λ l. value gf l x) (sym (take-append-drop 30 word)) ∙ value_append low (drop 30 word) x
    ∙ ap (λ n. sum_of (value gf low x) (product_of (power gf x n) (value gf (drop 30 word) x))) short)

-- a remainder of zeros
pub no_values : (rest word : List Symbol) → length rest ≡ 30 → ((k : ℕ) → k < 30 → get_or rest k zero_symbol ≡ zero_symbol)
    → ((j : ℕ) → j < 30 → value gf rest (power gf alpha j) ≡ value gf word (power gf alpha j))
    → (j : ℕ) → j < 30 → get_or rest j zero_symbol ≡ value gf word (power gf alpha j)
no_values rest word long none same j less = none j less ∙ sym (zeros rest (power gf alpha j) (λ k l. none k (omega arith))) ∙ same j less
