-- Counts of rows that differ.
use Rattle.std.proofs.lemmas.Bool.{ne_eqb}
use Rattle.std.proofs.Common.{eq-eqb, ◌≡◌, ℕ, ◌+◌, ◌<◌, ◌≤◌, Bool, true, false, [], ◌∷◌, cond, refl, ap, ap₂, sym, ◌∙◌, arith, zero, suc}
use Rattle.std.specs.Prelude.{count_by, not, ◌==◌}
use Rattle.std.specs.List.{range_with_len}
use Rattle.std.proofs.lemmas.List.Sums.{sum_by-append, count_by-le-length}
use Rattle.std.proofs.lemmas.List.FromFn.{length-range_with_len}
use Rattle.bit_lists.specs.Places.{for_each}
use Rattle.bit_lists.proofs.Lists.{range_with_len-append}
use Rattle.bit_lists.proofs.ByPlaces.{same_for_each}
use Rattle.gf1024.specs.Symbol.{Symbol}
use Rattle.symbol_deal.specs.Rows.{rows_of, symbol_at}
use Rattle.symbol_deal.proofs.Woven.{symbol_at-rows_of}
use Rattle.pcs_receive.specs.Reports.{Rows, corrected_a, corrected_b, wrong_in}
use Rattle.pcs_receive.specs.Corrections.{differ, differing}

count-next : (p : ℕ → Bool) (k : ℕ) → count_by p (range_with_len 0 (k + 1)) ≡ count_by p (range_with_len 0 k) + cond (p k) 1 0
count-next p k =
    let zero_more : 0 + k ≡ k = omega arith in
    let before = count_by p (range_with_len 0 k) in
    let one : count_by p (k ∷ []) ≡ cond (p k) 1 0 = omega arith in
    ap (count_by p) (range_with_len-append 0 k 1)
    ∙ sum_by-append (λ x. cond (p x) 1 0) (range_with_len 0 k) (range_with_len (0 + k) 1)
    ∙ ap (λ j. before + count_by p (j ∷ [])) zero_more
    ∙ ap (λ n. before + n) one

pub differing-none : (rows sent : Rows) (u : ℕ) → differing rows sent u 0 ≡ 0
unfolding differing
differing-none rows sent u = refl

pub differing-most : (rows sent : Rows) (u n : ℕ) → differing rows sent u n ≤ n
unfolding differing
differing-most rows sent u n =
    let many = count_by-le-length (differ rows sent u) (range_with_len 0 n) in let size = length-range_with_len 0 n in
    omega (arith, many, size)

pub differing-yes : (rows sent : Rows) (u k : ℕ) → differ rows sent u k ≡ true → differing rows sent u (k + 1) ≡ differing rows sent u k + 1
unfolding differing
differing-yes rows sent u k e = count-next (differ rows sent u) k ∙ ap (λ b. count_by (differ rows sent u) (range_with_len 0 k) + cond b 1 0) e

pub differing-no : (rows sent : Rows) (u k : ℕ) → differ rows sent u k ≡ false → differing rows sent u (k + 1) ≡ differing rows sent u k
unfolding differing
differing-no rows sent u k e =
    count-next (differ rows sent u) k ∙ ap (λ b. count_by (differ rows sent u) (range_with_len 0 k) + cond b 1 0) e
    ∙ omega arith

pub count-same : (p q : ℕ → Bool) (n : ℕ) → ((k : ℕ) → k < n → p k ≡ q k) → count_by p (range_with_len 0 n) ≡ count_by q (range_with_len 0 n)
count-same p q zero same = refl
count-same p q (suc n) same =
    let one : suc n ≡ n + 1 = omega arith in
    ap (λ m. count_by p (range_with_len 0 m)) one ∙ count-next p n
    ∙ ap₂ (λ m b. m + cond b 1 0) (count-same p q n (λ k h. same k (omega arith))) (same n (omega arith))
    ∙ sym (ap (λ m. count_by q (range_with_len 0 m)) one ∙ count-next q n)

pub differ-no : (rows sent : Rows) (u k : ℕ) → (symbol_at rows k u).value ≡ (symbol_at sent k u).value → differ rows sent u k ≡ false
differ-no rows sent u k e = ap not (eq-eqb _ _ e)

pub differ-yes : (rows sent : Rows) (u k : ℕ) → ¬ ((symbol_at rows k u).value ≡ (symbol_at sent k u).value) → differ rows sent u k ≡ true
differ-yes rows sent u k h = ap not (ne_eqb _ _ h)

-- the rows in which a pair differs from its corrected words are those of replaced symbols
pub differing-wrong : (pair : Rows) (u : ℕ) → u < 16 → differing pair (rows_of (corrected_a pair) (corrected_b pair)) u 68 ≡ wrong_in pair u
unfolding differing wrong_in
differing-wrong pair u hu =
    count-same _ _ 68 (λ k high.
    ap (λ (s : Symbol). not ((symbol_at pair k u).value == s.value))
    (symbol_at-rows_of (corrected_a pair) (corrected_b pair) k u high hu))

pub all_wrong : (pair : Rows) →
    for_each 16 (λ u. differing pair (rows_of (corrected_a pair) (corrected_b pair)) u 68) ≡ for_each 16 (wrong_in pair)
all_wrong pair = same_for_each 16 _ _ 0 (λ u h. differing-wrong pair u h)
