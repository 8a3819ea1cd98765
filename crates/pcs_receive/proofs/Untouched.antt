-- No symbol is replaced in a pair whose words are codewords.
use Rattle.std.proofs.Common.{◌≡◌, ℕ, zero, suc, ◌+◌, ◌-◌, ◌*◌, ◌/◌, ◌%◌, ◌<◌, Bool, true, false, List, [], ◌∷◌, replicate, Option, Some, None, refl, sym, ap, ap₂, ◌∙◌, inl, inr, arith, eq-eqb, ne_eqb}
use Rattle.std.specs.Prelude.{◌==◌, if◌then◌else◌, not, slice_index_or, option_map, unwrap_or, count_by}
use Rattle.std.specs.List.{range_with_len}
use Rattle.std.proofs.lemmas.Bool.{cases_eq}
use Rattle.std.proofs.lemmas.List.{get_or-replicate}
use Rattle.bit_lists.specs.Places.{for_each}
use Rattle.bit_lists.proofs.ByPlaces.{by_places}
use Rattle.gf1024.specs.Symbol.{Symbol, zero_symbol}
use Rattle.rs_code.specs.Code.{distance}
use Rattle.symbol_deal.specs.Rows.{row_symbol, symbol_at, word_a, word_b}
use Rattle.symbol_deal.proofs.Woven.{at-word_a, at-word_b}
use Rattle.pcs_receive.specs.Reports.{Rows, member_a, member_b, corrected_a, corrected_b, is_replaced, wrong_in}
use Rattle.pcs_receive.proofs.Counts.{count-same}

-- words at no distance have the same symbols
same-values : (cs ds : List Symbol) → distance cs ds ≡ 0 → (i : ℕ) → (slice_index_or cs i zero_symbol).value ≡ (slice_index_or ds i zero_symbol).value
same-values [] [] e i = refl
same-values [] (d ∷ ds) e i = absurd (omega arith)
same-values (c ∷ cs) [] e i = absurd (omega arith)
same-values (c ∷ cs) (d ∷ ds) e i =
    elim (cases_eq c.value d.value) [
      | inl is ↦
          let first : (if c.value == d.value then zero else suc zero) ≡ zero = ap (λ b. if b then zero else suc zero) (eq-eqb c.value d.value is) in
          at i is (λ j. same-values cs ds (omega (arith, first, e)) j)
      | inr other ↦
          let first : (if c.value == d.value then zero else suc zero) ≡ suc zero = ap (λ b. if b then zero else suc zero) (ne_eqb c.value d.value other) in
          absurd (omega (arith, first, e))
    ]
  where
    at : (i : ℕ) → c.value ≡ d.value → ((j : ℕ) → (slice_index_or cs j zero_symbol).value ≡ (slice_index_or ds j zero_symbol).value)
        → (slice_index_or (c ∷ cs) i zero_symbol).value ≡ (slice_index_or (d ∷ ds) i zero_symbol).value
    at zero is rest = is
    at (suc i) is rest = rest i

-- the codeword near a word at no distance from it
same-word : (w : List Symbol) (near : Option (List Symbol)) → option_map (distance w) near ≡ Some 0
    → (i : ℕ) → (slice_index_or w i zero_symbol).value ≡ (slice_index_or (unwrap_or near w) i zero_symbol).value
same-word w None e i = refl
same-word w (Some m) e i = let none : distance w m ≡ 0 = cc in same-values w m none i

-- the symbol of a row and lane, out of the words
cell-of-words : (rows : Rows) (k l : ℕ) → k < 68 → l < 16 → row_symbol (word_a rows) (word_b rows) k l ≡ symbol_at rows k l
unfolding row_symbol
cell-of-words rows k l hk hl =
    let n = 8 * k + l / 2 in
    let place : 543 - 8 * k - l / 2 ≡ 543 - n = omega arith in
    let row : n / 8 ≡ k = omega arith in
    elim (cases_eq ((k + l) % 2) 0) [
      | inl even ↦
          let lane : 2 * (n % 8) + n / 8 % 2 ≡ l = omega arith in
          ap (λ b. if b then slice_index_or (word_a rows) (543 - 8 * k - l / 2) zero_symbol else slice_index_or (word_b rows) (543 - 8 * k - l / 2) zero_symbol) (eq-eqb ((k + l) % 2) 0 even)
          ∙ ap (λ m. slice_index_or (word_a rows) m zero_symbol) place ∙ at-word_a rows n (omega arith) ∙ ap₂ (symbol_at rows) row lane
      | inr odd ↦
          let lane : 2 * (n % 8) + (n / 8 + 1) % 2 ≡ l = omega arith in
          ap (λ b. if b then slice_index_or (word_a rows) (543 - 8 * k - l / 2) zero_symbol else slice_index_or (word_b rows) (543 - 8 * k - l / 2) zero_symbol) (ne_eqb ((k + l) % 2) 0 odd)
          ∙ ap (λ m. slice_index_or (word_b rows) m zero_symbol) place ∙ at-word_b rows n (omega arith) ∙ ap₂ (symbol_at rows) row lane
    ]

-- words with the same symbols give the same rows
same-cell : (a b c d : List Symbol) (k l : ℕ) → ((i : ℕ) → (slice_index_or a i zero_symbol).value ≡ (slice_index_or c i zero_symbol).value)
    → ((i : ℕ) → (slice_index_or b i zero_symbol).value ≡ (slice_index_or d i zero_symbol).value) → (row_symbol a b k l).value ≡ (row_symbol c d k l).value
unfolding row_symbol
same-cell a b c d k l same_a same_b = go ((k + l) % 2 == 0)
  where
    m : ℕ
    m = 543 - 8 * k - l / 2

    go : (even : Bool) → (if even then slice_index_or a m zero_symbol else slice_index_or b m zero_symbol).value
        ≡ (if even then slice_index_or c m zero_symbol else slice_index_or d m zero_symbol).value
    go true = same_a m
    go false = same_b m

none-counted : (n : ℕ) → count_by (λ k. false) (range_with_len 0 n) ≡ 0
none-counted n = from 0 n
  where
    from : (a n : ℕ) → count_by (λ (k : ℕ). false) (range_with_len a n) ≡ 0
    from a zero = refl
    from a (suc n) = from (a + 1) n

-- where both words are codewords
pub untouched : (pair : Rows) → option_map (distance (word_a pair)) (member_a pair) ≡ Some 0 → option_map (distance (word_b pair)) (member_b pair) ≡ Some 0
    → replicate 16 0 ≡ for_each 16 (wrong_in pair)
unfolding wrong_in
untouched pair near_a near_b =
    by_places 16 (wrong_in pair) (replicate 16 0) 0 refl
    (λ u low. get_or-replicate 16 u 0 0 low
    ∙ sym (count-same (is_replaced pair u) (λ k. false) 68 (λ k small.
    let same : (symbol_at pair k u).value ≡ (row_symbol (corrected_a pair) (corrected_b pair) k u).value =
    ap (λ (s : Symbol). s.value) (sym (cell-of-words pair k u small low))
    ∙ same-cell (word_a pair) (word_b pair) (corrected_a pair) (corrected_b pair) k u (same-word (word_a pair) (member_a pair) near_a) (same-word (word_b pair) (member_b pair) near_b) in
    ap not (eq-eqb _ _ same))
    ∙ none-counted 68))
