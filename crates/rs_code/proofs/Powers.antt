-- The tables of powers are what they stand for, by computation, and the values of short polynomials.
use Rattle.std.proofs.Common.{◌≡◌, ℕ, zero, suc, ◌+◌, ◌*◌, ◌<◌, Bool, true, List, [], ◌∷◌, length, map, get_or, take, replicate, ◌==◌, refl, sym, ap, ap₂, ◌∙◌, arith}
use Rattle.std.proofs.lemmas.Bool.{eqb-true}
use Rattle.std.proofs.lemmas.List.{get_or-map}
use Rattle.std.proofs.lemmas.Simd.{get_or-replicate}
use Rattle.gf1024.specs.Symbol.{Symbol, symbol, gf, zero_symbol, one_symbol, sum_of, product_of, alpha}
use Rattle.gf1024.specs.Word.{product, reduced, times_low}
use Rattle.gf1024.proofs.FieldLaws.{laws}
use Rattle.gf1024.proofs.Linear.{all_below, all_below_at}
use Rattle.gf1024.proofs.Views.{symbol_of_value}
use Rattle.field_base.specs.Field.{power}
use Rattle.field_base.specs.Poly.{value, scaled}
use Rattle.field_base.proofs.Coefficients.{scaled_at}
use Rattle.field_base.proofs.Ring.{one_mul, mul_left, mul_zero, zero_add}
use Rattle.field_base.proofs.Shorter.{power_add}
use Rattle.gf_lanes.specs.Lanes.{EachLane}
use Rattle.rs_code.specs.declared.rows.Multiples.{Multiples}
use Rattle.rs_code.specs.declared.rows.powers.TheConstants.{TABLES}
use Rattle.rs_code.specs.Register.{multiples, first_row, AreMultiples}
use Rattle.rs_code.proofs.Generator.{number_power, power_number}

-- lane k of the first row is alpha^(e k)
abbrev holds_power : List (List ℕ) → ℕ → ℕ → Bool
holds_power low e k = get_or (first_row low) k 0 == number_power (e * k)

-- the table number e
pub record IsTable (e : ℕ) (t : Multiples) : Type 0 where
  pub rows : AreMultiples t.low t.high
  pub entries : all_below 32 (holds_power t.low e) ≡ true

long_rows : map (λ t. length (first_row t.low)) TABLES ≡ map (λ t. 32) TABLES
unfolding first_row
long_rows = refl

low_rows : map (λ t. t.low) TABLES ≡ map (λ t. multiples 1 (first_row t.low)) TABLES
unfolding multiples first_row product reduced times_low
low_rows = refl

high_rows : map (λ t. t.high) TABLES ≡ map (λ t. multiples 32 (first_row t.low)) TABLES
unfolding multiples first_row product reduced times_low
high_rows = refl

entries : all_below 15 (λ i. all_below 32 (holds_power (get_or (map (λ t. t.low) TABLES) i []) (1 + i))) ≡ true
unfolding first_row number_power product reduced times_low
entries = refl

-- what is equal of each table
at : {B : Type 0} (f g : Multiples → B) (b : B) → map f TABLES ≡ map g TABLES → (d : Multiples) (i : ℕ) → i < 15 → f (get_or TABLES i d) ≡ g (get_or TABLES i d)
at f g b e d i less = sym (get_or-map f TABLES i d b less) ∙ ap (λ l. get_or l i b) e ∙ get_or-map g TABLES i d b less

pub table_of : (e : ℕ) (d : Multiples) (i : ℕ) → i < 15 → e ≡ 1 + i → IsTable e (get_or TABLES i d)
table_of e d i less same = record {
  rows = record {
    long = at (λ t. length (first_row t.low)) (λ t. 32) 0 long_rows d i less;
    low_rows = at (λ t. t.low) (λ t. multiples 1 (first_row t.low)) [] low_rows d i less;
    high_rows = at (λ t. t.high) (λ t. multiples 32 (first_row t.low)) [] high_rows d i less;
  };
  entries = ap (λ n. all_below 32 (holds_power (get_or TABLES i d).low n)) same
      ∙ ap (λ l. all_below 32 (holds_power l (1 + i))) (sym (get_or-map (λ t. t.low) TABLES i d [] less))
      ∙ all_below_at 15 (λ i. all_below 32 (holds_power (get_or (map (λ t. t.low) TABLES) i []) (1 + i))) entries i less;
}

-- the multiple of its first row
pub powers_at : (e : ℕ) (t : Multiples) (f : Symbol) (r : List Symbol) → IsTable e t
    → r ≡ scaled gf f (map symbol (first_row t.low)) → (k : ℕ) → k < 32
    → get_or r k zero_symbol ≡ product_of f (power gf alpha (e * k))
powers_at e t f r h is k less =
    let row = first_row t.low in
    ap (λ l. get_or l k zero_symbol) is ∙ scaled_at gf laws f (map symbol row) k
    ∙ ap (product_of f) (get_or-map symbol row k 0 zero_symbol (omega (arith, h.rows.long))
    ∙ ap symbol (eqb-true (get_or row k 0) (number_power (e * k)) (all_below_at 32 (holds_power t.low e) h.entries k less)
    ∙ sym (power_number (e * k))) ∙ symbol_of_value (power gf alpha (e * k)))

pub powers_of_one : (e k : ℕ) (one y : Symbol) → one ≡ symbol 1 → y ≡ product_of one (power gf alpha (e * k)) → y ≡ power gf alpha (k * e)
powers_of_one e k one y is h =
    let turned : e * k ≡ k * e = omega arith in
    h ∙ ap (λ z. product_of z (power gf alpha (e * k))) is ∙ one_mul gf laws (power gf alpha (e * k)) ∙ ap (power gf alpha) turned

-- powers of powers of alpha
pub power_times : (m j : ℕ) → power gf (power gf alpha m) j ≡ power gf alpha (m * j)
power_times m zero = let none : 0 ≡ m * 0 = omega arith in ap (power gf alpha) none
power_times m (suc j) =
    let more : m + m * j ≡ m * suc j = omega arith in
    ap (product_of (power gf alpha m)) (power_times m j) ∙ sym (power_add gf laws alpha m (m * j)) ∙ ap (power gf alpha) more

zero_more : (x : Symbol) (j : ℕ) → sum_of zero_symbol (product_of zero_symbol (power gf x j)) ≡ zero_symbol
zero_more x j = zero_add gf laws (product_of zero_symbol (power gf x j))
    ∙ laws.mul_comm zero_symbol (power gf x j) ∙ mul_zero gf laws (power gf x j)

-- the value of one coefficient more
value_more : (c : List Symbol) (x : Symbol) (j : ℕ)
    → value gf (take (suc j) c) x ≡ sum_of (value gf (take j c) x) (product_of (get_or c j zero_symbol) (power gf x j))
value_more [] x zero = sym (zero_more x zero)
value_more [] x (suc j) = sym (zero_more x (suc j))
value_more (c ∷ cs) x zero =
    ap (sum_of c) (mul_zero gf laws x) ∙ laws.add_zero c
    ∙ sym (zero_add gf laws (product_of c one_symbol) ∙ laws.mul_one c)
value_more (c ∷ cs) x (suc j) =
    let g = get_or cs j zero_symbol in
    ap (λ z. sum_of c (product_of x z)) (value_more cs x j)
    ∙ ap (sum_of c) (laws.mul_add x (value gf (take j cs) x) (product_of g (power gf x j))
    ∙ ap (sum_of (product_of x (value gf (take j cs) x))) (mul_left gf laws x g (power gf x j)))
    ∙ sym (laws.add_assoc c (product_of x (value gf (take j cs) x)) (product_of g (product_of x (power gf x j))))

-- the values of the first coefficient, and of one more
pub values_first : (c new : List Symbol) (x first : Symbol) (k : ℕ) → k < 32 → first ≡ get_or c 0 zero_symbol
    → new ≡ replicate 32 first → get_or new k zero_symbol ≡ value gf (take 1 c) x
values_first c new x first k less e is =
    ap (λ l. get_or l k zero_symbol) is ∙ get_or-replicate 32 k first zero_symbol less ∙ e
    ∙ sym (value_more c x 0 ∙ zero_add gf laws (product_of (get_or c 0 zero_symbol) one_symbol)
    ∙ laws.mul_one (get_or c 0 zero_symbol))

pub values_next : (c old row new : List Symbol) (f : Symbol) (j k : ℕ) → k < 32 → f ≡ get_or c j zero_symbol
    → get_or row k zero_symbol ≡ product_of f (power gf alpha (j * k)) → EachLane sum_of old row new
    → get_or old k zero_symbol ≡ value gf (take j c) (power gf alpha k)
    → get_or new k zero_symbol ≡ value gf (take (j + 1) c) (power gf alpha k)
values_next c old row new f j k less e multiple lanes before =
    let on : suc j ≡ j + 1 = omega arith in
    let turned : j * k ≡ k * j = omega arith in
    lanes.each k less
    ∙ ap₂ sum_of before (multiple ∙ ap₂ product_of e (ap (power gf alpha) turned ∙ sym (power_times k j)))
    ∙ sym (value_more c (power gf alpha k) j) ∙ ap (λ n. value gf (take n c) (power gf alpha k)) on
