-- The order and the skews of a trial, word by word.
use Rattle.std.proofs.Common.{◌≡◌, ℕ, zero, suc, ◌+◌, ◌-◌, ◌%◌, ◌<◌, List, [], ◌∷◌, length, get_or, set, drop, refl, sym, ◌∙◌, ap, arith, inl, inr, add-one, length-drop, drop-cons, get_or-drop, get_or-set_other}
use Rattle.std.specs.Prelude.{◌==◌, if◌then◌else◌, swap, ◌⊎◌, ◌≢◌}
use Rattle.std.proofs.Math.Nat.{mod-lt}
use Rattle.std.proofs.lemmas.List.{length-set}
use Rattle.std.proofs.lemmas.Bool.{cases_lt, cases_order, eq-eqb, ne_eqb}
use Rattle.std.proofs.lemmas.Grind.{get_or-set_at}
use Rattle.std.proofs.lemmas.List.Edits.{swap_is}
use Rattle.bit_lists.specs.Places.{for_each}
use Rattle.bit_lists.proofs.ByPlaces.{by_places, length-for_each}
use Rattle.lane_impair.specs.Noise.{word}
use Rattle.lane_impair.specs.declared.item.Item.{Item}
use Rattle.lane_impair.specs.declared.item.Item.TheVariants.{Order, Skew}
use Rattle.trial_laws.specs.Damage.{exchanged, order_after, trial_order, skew_word, trial_items}

pub begins-order : (seed : ℕ) → (0 ∷ 1 ∷ 2 ∷ 3 ∷ 4 ∷ 5 ∷ 6 ∷ 7 ∷ 8 ∷ 9 ∷ 10 ∷ 11 ∷ 12 ∷ 13 ∷ 14 ∷ 15 ∷ []) ≡ order_after seed 0
unfolding order_after for_each
begins-order seed = refl

-- the numbers at two places exchanged, by places
swapped : (xs : List ℕ) (i j k : ℕ) → length xs ≡ 16 → i < 16 → j < 16 → k < 16
    → get_or (swap xs i j) k 0 ≡ get_or xs (if k == i then j else if k == j then i else k) 0
swapped xs i j k long low lower within =
    let edits = swap_is xs i j 0 (omega (arith, long, low)) (omega (arith, long, lower)) in
    ap (λ ys. get_or ys k 0) (sym edits) ∙ by (cases_eq k j) (cases_eq k i)
  where
    cases_eq : (a b : ℕ) → (a ≡ b) ⊎ (a ≢ b)
    cases_eq a b = elim (cases_order a b) [
      | inl same ↦ inl same
      | inr other ↦ inr (λ same. elim other [ inl less ↦ omega (arith, less, same) | inr more ↦ omega (arith, more, same) ])
    ]

    by : (k ≡ j) ⊎ (k ≢ j) → (k ≡ i) ⊎ (k ≢ i)
        → get_or (set (set xs i (get_or xs j 0)) j (get_or xs i 0)) k 0 ≡ get_or xs (if k == i then j else if k == j then i else k) 0
    by (inl at_j) (inl at_i) =
        get_or-set_at (set xs i (get_or xs j 0)) j k (get_or xs i 0) 0 at_j (omega (arith, long, lower, length-set xs i (get_or xs j 0)))
        ∙ ap (λ n. get_or xs n 0) (sym at_i ∙ at_j) ∙ ap (λ b. get_or xs (if b then j else if k == j then i else k) 0) (sym (eq-eqb k i at_i))
    by (inl at_j) (inr off_i) =
        get_or-set_at (set xs i (get_or xs j 0)) j k (get_or xs i 0) 0 at_j (omega (arith, long, lower, length-set xs i (get_or xs j 0)))
        ∙ ap (λ b. get_or xs (if b then i else k) 0) (sym (eq-eqb k j at_j))
        ∙ ap (λ b. get_or xs (if b then j else if k == j then i else k) 0) (sym (ne_eqb k i off_i))
    by (inr off_j) (inl at_i) =
        get_or-set_other (set xs i (get_or xs j 0)) j k (get_or xs i 0) 0 off_j ∙ get_or-set_at xs i k (get_or xs j 0) 0 at_i (omega (arith, long, low))
        ∙ ap (λ b. get_or xs (if b then j else if k == j then i else k) 0) (sym (eq-eqb k i at_i))
    by (inr off_j) (inr off_i) =
        get_or-set_other (set xs i (get_or xs j 0)) j k (get_or xs i 0) 0 off_j ∙ get_or-set_other xs i k (get_or xs j 0) 0 off_i
        ∙ ap (λ b. get_or xs (if b then i else k) 0) (sym (ne_eqb k j off_j))
        ∙ ap (λ b. get_or xs (if b then j else if k == j then i else k) 0) (sym (ne_eqb k i off_i))

-- one more exchange
pub next-order : (seed n w : ℕ) (xs ys : List ℕ) → n < 15 → length xs ≡ 16 → length ys ≡ 16 → xs ≡ order_after seed n → w ≡ word n seed
    → ys ≡ swap xs (15 - n) (w % (15 - n + 1)) → ys ≡ order_after seed (n + 1)
unfolding order_after exchanged
next-order seed n w xs ys few long long' is drawn after =
    let i : ℕ = 15 - n in
    let j : ℕ = w % (i + 1) in
    let low : i < 16 = omega arith in
    let small : j < i + 1 = mod-lt w (omega arith) in
    let lower : j < 16 = omega (arith, low, small) in
    let f : ℕ → ℕ = λ k. get_or xs (if k == i then j else if k == j then i else k) 0 in
    let room : i + 1 ≡ 16 - n = omega (arith, few) in
    by_places 16 f ys 0 long' (λ k within. ap (λ zs. get_or zs k 0) after ∙ swapped xs i j k long low lower within)
    ∙ ap (λ zs. for_each 16 (λ k. get_or zs (if k == i then j else if k == j then i else k) 0)) is
    ∙ ap (λ m. for_each 16 (λ k. get_or (order_after seed n) (if k == i then m else if k == m then i else k) 0)) (ap (λ v. v % (i + 1)) drawn ∙ ap (λ m. word n seed % m) room)
    ∙ ap (order_after seed) (sym (add-one n))

-- the order and sixteen skews, by places
pub drawn-items : (seed limit : ℕ) (items : List Item) → length items ≡ 17 → get_or items 0 (Order []) ≡ Order (trial_order seed)
    → ((l : ℕ) → l < 16 → get_or items (l + 1) (Order []) ≡ Skew l (skew_word seed limit l)) → items ≡ trial_items seed limit
unfolding trial_items
drawn-items seed limit items long first others =
    drop-cons items 0 (Order []) (omega (arith, long)) ∙ ap (λ x. x ∷ drop 1 items) first
    ∙ ap (λ xs. Order (trial_order seed) ∷ xs)
    (by_places 16 (λ l. Skew l (skew_word seed limit l)) (drop 1 items) (Order []) (omega (arith, long, length-drop 1 items))
    (λ l low.
    let place : 1 + l ≡ l + 1 = omega arith in
    get_or-drop 1 items l (Order []) ∙ ap (λ n. get_or items n (Order [])) place ∙ others l low))

pub one-more-skew : (seed limit n bits : ℕ) (items : List Item) → length items ≡ 17 → n < 16
    → ((l : ℕ) → l < n → get_or items (l + 1) (Order []) ≡ Skew l (skew_word seed limit l)) → bits ≡ skew_word seed limit n
    → (l : ℕ) → l < n + 1 → get_or (set items (n + 1) (Skew n bits)) (l + 1) (Order []) ≡ Skew l (skew_word seed limit l)
one-more-skew seed limit n bits items long low before is l within = elim (cases_lt l n) [
  | inl earlier ↦ get_or-set_other items (n + 1) (l + 1) (Skew n bits) (Order []) (λ same. omega (arith, same, earlier)) ∙ before l earlier
  | inr last ↦
      let same : l ≡ n = omega (arith, within, last) in
      get_or-set_at items (n + 1) (l + 1) (Skew n bits) (Order []) (omega (arith, same)) (omega (arith, long, low))
      ∙ ap (λ b. Skew n b) is ∙ ap (λ m. Skew m (skew_word seed limit m)) (sym same)
]

pub length-order : (seed n : ℕ) → length (order_after seed n) ≡ 16
unfolding order_after exchanged
length-order seed zero = length-for_each 16 (λ k. k)
length-order seed (suc n) = length-for_each 16 _
