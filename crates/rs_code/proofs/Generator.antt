-- The generator, its multiples and the powers of alpha: each table is what it stands for.
use Rattle.std.proofs.Common.{◌≡◌, ℕ, zero, suc, ◌%◌, ◌<◌, Bool, true, List, [], ◌∷◌, ◌++◌, length, map, drop, get_or, ◌==◌, bit_xor, refl, sym, ap, ◌∙◌}
use Rattle.std.proofs.lemmas.Bool.{eqb-true}
use Rattle.gf1024.specs.Symbol.{Symbol, gf, one_symbol, sum_of, product_of, symbol, alpha}
use Rattle.gf1024.specs.Word.{product, reduced, times_low}
use Rattle.gf1024.proofs.FieldLaws.{laws, symbol_path, value_product, value_sum}
use Rattle.gf1024.proofs.Linear.{all_below, all_below_at}
use Rattle.field_base.specs.Field.{power}
use Rattle.field_base.specs.Poly.{value}
use Rattle.field_base.proofs.Ring.{one_mul, zero_add}
use Rattle.rs_code.specs.declared.rows.remainders.TheConstants.{X30}

-- the value of a list and of one behind it
pub value_append : (c d : List Symbol) (x : Symbol) → value gf (c ++ d) x ≡ sum_of (value gf c x) (product_of (power gf x (length c)) (value gf d x))
value_append [] d x = sym (zero_add gf laws (product_of one_symbol (value gf d x)) ∙ one_mul gf laws (value gf d x))
value_append (c ∷ cs) d x =
    ap (λ z. sum_of c (product_of x z)) (value_append cs d x)
    ∙ ap (sum_of c) (laws.mul_add x (value gf cs x) (product_of (power gf x (length cs)) (value gf d x)))
    ∙ sym (laws.add_assoc c (product_of x (value gf cs x))
    (product_of x (product_of (power gf x (length cs)) (value gf d x))))
    ∙ ap (sum_of (sum_of c (product_of x (value gf cs x))))
    (sym (laws.mul_assoc x (power gf x (length cs)) (value gf d x)))

-- values and powers, computed on numbers
unfoldable pub number_value : List ℕ → ℕ → ℕ
number_value [] x = 0
number_value (c ∷ cs) x = bit_xor (c % 1024) (product x (number_value cs x))

unfoldable pub number_power : ℕ → ℕ
number_power zero = 1
number_power (suc n) = product 2 (number_power n)

unfoldable pub steps : ℕ → ℕ → ℕ
steps x zero = 1
steps x (suc n) = product x (steps x n)

pub value_number : (cs : List ℕ) (x : Symbol) → (value gf (map symbol cs) x).value ≡ number_value cs x.value
unfolding number_value
value_number [] x = refl
value_number (c ∷ cs) x =
    value_sum (symbol c) (product_of x (value gf (map symbol cs) x))
    ∙ ap (bit_xor (c % 1024)) (value_product x (value gf (map symbol cs) x) ∙ ap (product x.value) (value_number cs x))

pub power_number : (j : ℕ) → (power gf alpha j).value ≡ number_power j
unfolding number_power
power_number zero = refl
power_number (suc j) = value_product alpha (power gf alpha j) ∙ ap (product 2) (power_number j)

power_steps : (x : Symbol) (n : ℕ) → (power gf x n).value ≡ steps x.value n
unfolding steps
power_steps x zero = refl
power_steps x (suc n) = value_product x (power gf x n) ∙ ap (product x.value) (power_steps x n)

-- the value at the power j of alpha is the n-th power of that
abbrev pub low_at : List ℕ → ℕ → ℕ → Bool
low_at numbers n j = number_value numbers (number_power j) == steps (number_power j) n

-- x^n less a multiple of the generator with r roots
pub low_values : (numbers : List ℕ) (n r : ℕ) → all_below r (low_at numbers n) ≡ true → (j : ℕ) → j < r
    → value gf (map symbol numbers) (power gf alpha j) ≡ power gf (power gf alpha j) n
low_values numbers n r e j less =
    symbol_path _ _
    (value_number numbers (power gf alpha j) ∙ ap (number_value numbers) (power_number j)
    ∙ eqb-true (number_value numbers (number_power j)) (steps (number_power j) n) (all_below_at r (low_at numbers n) e j less)
    ∙ sym (power_steps (power gf alpha j) n ∙ ap (λ z. steps z n) (power_number j)))

-- the coefficients of x^0 to x^29 of the generator, the product of x - alpha^j for j from 0 to 29; that of x^30 is 1
unfoldable pub generator_numbers : List ℕ
generator_numbers = drop 2 (get_or X30.low 1 [])

unfoldable pub generator_low : List Symbol
generator_low = map symbol generator_numbers

low_table : all_below 30 (low_at generator_numbers 30) ≡ true
unfolding generator_numbers number_value number_power steps product reduced times_low
low_table = refl

pub length_low : length generator_low ≡ 30
unfolding generator_low generator_numbers
length_low = refl

-- the generator without x^30, at a root, is x^30
pub low_at_root : (j : ℕ) → j < 30 → value gf generator_low (power gf alpha j) ≡ power gf (power gf alpha j) 30
unfolding generator_low
low_at_root j less = low_values generator_numbers 30 30 low_table j less
