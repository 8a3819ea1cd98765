-- The order of a trial is a permutation, and its items skew each lane once.
use Rattle.std.proofs.Common.{◌≡◌, Bool, ℕ, zero, suc, ◌+◌, ◌-◌, ◌%◌, ◌<◌, ◌≤◌, false, cond, List, ◌∷◌, length, map, refl, sym, ap, ap₂, ◌∙◌, inl, inr, arith}
use Rattle.std.specs.Prelude.{◌==◌, if◌then◌else◌, slice_index, slice_index_or, sum_by, count_by}
use Rattle.std.specs.List.{range_with_len, All}
use Rattle.std.proofs.lemmas.Nat.{mod_below}
use Rattle.std.proofs.lemmas.Bool.{cases_lt, cases_eq, eq-eqb, ne_eqb}
use Rattle.std.proofs.lemmas.List.{get_or_past, length-map}
use Rattle.std.proofs.lemmas.Bool.Decides.{nat_tests}
use Rattle.std.proofs.lemmas.List.Sums.{sum_by-cons}
use Rattle.bit_lists.specs.Places.{for_each}
use Rattle.bit_lists.proofs.ByPlaces.{length-for_each, at-for_each}
use Rattle.lane_impair.specs.declared.item.Item.{Item}
use Rattle.lane_impair.specs.declared.item.Item.TheVariants.{Order, Skew}
use Rattle.lane_impair.specs.Noise.{word}
use Rattle.lane_impair.specs.Items.{IsItem, most_bits, is_order, is_noise, is_skew_of}
use Rattle.lane_impair.specs.Laws.{is_drop}
use Rattle.lane_impair.specs.Impairments.{skew_by, skew_of, inverts}
use Rattle.impaired_image.specs.ImpairedImage.{KeepsAll}
use Rattle.trial_laws.specs.Laws.{TrialOpens}
use Rattle.trial_laws.specs.Damage.{exchanged, order_after, trial_order, skew_word, trial_items}

-- ---- an exchange
abbrev swapped : ℕ → ℕ → ℕ → ℕ
swapped i j k = if k == i then j else if k == j then i else k

swapped-low : (i j k : ℕ) → i < 16 → j < 16 → k < 16 → swapped i j k < 16
swapped-low i j k a b c = grind (arith, nat_tests)

swapped-back : (i j k : ℕ) → swapped i j (swapped i j k) ≡ k
swapped-back i j k = grind (arith, nat_tests)

at-exchanged : (i j : ℕ) (xs : List ℕ) (k : ℕ) → k < 16 → slice_index (exchanged i j xs) k ≡ slice_index xs (swapped i j k)
unfolding exchanged
at-exchanged i j xs k low = at-for_each 16 (λ k. slice_index xs (swapped i j k)) k 0 low

-- ---- sixteen different numbers below 16
record IsPermutation (xs : List ℕ) : Type 0 where
  pub in_range : (l : ℕ) → l < 16 → slice_index xs l < 16
  pub apart : (l m : ℕ) → l < 16 → m < 16 → slice_index xs l ≡ slice_index xs m → l ≡ m
  pub onto : (u : ℕ) → u < 16 → (l : ℕ) × (l < 16) × (slice_index xs l ≡ u)

exchanged-permutes : (i j : ℕ) (xs : List ℕ) → i < 16 → j < 16 → IsPermutation xs → IsPermutation (exchanged i j xs)
exchanged-permutes i j xs a b is = record {
  in_range = λ l low. omega (arith, at-exchanged i j xs l low, is.in_range (swapped i j l) (swapped-low i j l a b low));
  apart = λ l m low small e.
      let same = is.apart (swapped i j l) (swapped i j m) (swapped-low i j l a b low) (swapped-low i j m a b small)
      (sym (at-exchanged i j xs l low) ∙ e ∙ at-exchanged i j xs m small) in
      sym (swapped-back i j l) ∙ ap (swapped i j) same ∙ swapped-back i j m;
  onto = λ u low.
      let (l, small, at) = is.onto u low in
      let there = swapped-low i j l a b small in
      (swapped i j l, there, at-exchanged i j xs (swapped i j l) there ∙ ap (slice_index xs) (swapped-back i j l) ∙ at);
}

all-in-order : IsPermutation (for_each 16 (λ k. k))
all-in-order = record {
  in_range = λ l low. omega (arith, low, at-for_each 16 (λ k. k) l 0 low);
  apart = λ l m low small e. sym (at-for_each 16 (λ k. k) l 0 low) ∙ e ∙ at-for_each 16 (λ k. k) m 0 small;
  onto = λ u low. (u, low, at-for_each 16 (λ k. k) u 0 low);
}

order-permutes : (seed n : ℕ) → n ≤ 15 → IsPermutation (order_after seed n)
unfolding order_after
order-permutes seed zero low = all-in-order
order-permutes seed (suc n) low =
    let place = mod_below (word n seed) (16 - n) (omega arith) in
    exchanged-permutes (15 - n) (word n seed % (16 - n)) (order_after seed n) (omega arith) (omega (arith, place))
    (order-permutes seed n (omega arith))

-- ---- the items
-- an item more in a sum
one_skew : (test : Item → ℕ) (a n : ℕ) (f : ℕ → ℕ) (x y : ℕ) → test (Skew a (f a)) ≡ x
    → sum_by test (map (λ k. Skew k (f k)) (range_with_len (a + 1) n)) ≡ y
    → sum_by test (map (λ k. Skew k (f k)) (range_with_len a (suc n))) ≡ x + y
one_skew test a n f x y here rest = sum_by-cons test (Skew a (f a)) (map (λ k. Skew k (f k)) (range_with_len (a + 1) n)) ∙ ap₂ (λ x y. x + y) here rest

skews-none : (f : ℕ → ℕ) (l a n : ℕ) → l < a → sum_by (skew_by l) (map (λ k. Skew k (f k)) (range_with_len a n)) ≡ 0
skews-none f l a zero below = refl
skews-none f l a (suc n) below =
    one_skew (skew_by l) a n f 0 0 (ap (λ b. cond {A = ℕ} b (f a) 0) (ne_eqb a l (omega (arith, below)))) (skews-none f l (a + 1) n (omega arith))

skews-from : (f : ℕ → ℕ) (l a n : ℕ) → a ≤ l → l < a + n → sum_by (skew_by l) (map (λ k. Skew k (f k)) (range_with_len a n)) ≡ f l
skews-from f l a zero low high = absurd (omega arith)
skews-from f l a (suc n) low high = elim (cases_eq a l) [
  | inl same ↦
      one_skew (skew_by l) a n f (f l) 0 (ap (λ b. cond {A = ℕ} b (f a) 0) (eq-eqb a l same) ∙ ap f same)
      (skews-none f l (a + 1) n (omega (arith, same))) ∙ omega arith
  | inr other ↦
      one_skew (skew_by l) a n f 0 (f l) (ap (λ b. cond {A = ℕ} b (f a) 0) (ne_eqb a l other))
      (skews-from f l (a + 1) n (omega (arith, other)) (omega arith)) ∙ omega arith
]

pub skew-of_trial : (seed limit l : ℕ) → l < 16 → skew_of (trial_items seed limit) l ≡ skew_word seed limit l
unfolding trial_items for_each
skew-of_trial seed limit l low =
    omega (
      arith,
      sum_by-cons (skew_by l) (Order (trial_order seed)) (map (λ k. Skew k (skew_word seed limit k)) (range_with_len 0 16)),
      skews-from (skew_word seed limit) l 0 16 (omega arith) (omega (arith, low)),
    )

no-inverts : (l m a n : ℕ) (f : ℕ → ℕ) → count_by (inverts l m) (map (λ k. Skew k (f k)) (range_with_len a n)) ≡ 0
no-inverts l m a zero f = refl
no-inverts l m a (suc n) f = one_skew (λ i. cond (inverts l m i) 1 0) a n f 0 0 refl (no-inverts l m (a + 1) n f)

-- no item inverts a bit
pub inverts-none : (seed limit l m : ℕ) → count_by (inverts l m) (trial_items seed limit) ≡ 0
unfolding trial_items for_each
inverts-none seed limit l m =
    sum_by-cons (λ i. cond (inverts l m i) 1 0) (Order (trial_order seed)) (map (λ k. Skew k (skew_word seed limit k)) (range_with_len 0 16))
    ∙ ap (λ n. 0 + n) (no-inverts l m 0 16 (skew_word seed limit))

skews-drop-none : (f : ℕ → ℕ) (a n : ℕ) → count_by is_drop (map (λ k. Skew k (f k)) (range_with_len a n)) ≡ 0
skews-drop-none f a zero = refl
skews-drop-none f a (suc n) = one_skew (λ i. cond (is_drop i) 1 0) a n f 0 0 refl (skews-drop-none f (a + 1) n)

pub no-drops : (seed limit : ℕ) → count_by is_drop (trial_items seed limit) ≡ 0
unfolding trial_items for_each
no-drops seed limit =
    sum_by-cons (λ i. cond (is_drop i) 1 0) (Order (trial_order seed)) (map (λ k. Skew k (skew_word seed limit k)) (range_with_len 0 16))
    ∙ ap (λ n. 0 + n) (skews-drop-none (skew_word seed limit) 0 16)

pub keeps-all : (seed limit : ℕ) → KeepsAll (trial_items seed limit)
unfolding trial_items for_each
keeps-all seed limit =
    let is = order-permutes seed 15 (omega arith) in
    record {
      no_drop = no-drops seed limit;
      in_range = is.in_range;
      apart = is.apart;
      onto = is.onto;
    }

skews-are-items : (f : ℕ → ℕ) (n k : ℕ) (d : Item) → n ≤ 16 → ((l : ℕ) → f l ≤ most_bits) → k < n → IsItem (slice_index_or (for_each n (λ l. Skew l (f l))) k d)
skews-are-items f n k d low few small = rw (at-for_each n (λ l. Skew l (f l)) k d small) (omega arith, few k)

length-order : (seed : ℕ) → length (trial_order seed) ≡ 16
unfolding order_after exchanged
length-order seed = length-for_each 16 _

order-digits : (seed l : ℕ) → slice_index (trial_order seed) l < 16
order-digits seed l = elim (cases_lt l 16) [
  | inl low ↦ (order-permutes seed 15 (omega arith)).in_range l low
  | inr past ↦ omega (arith, get_or_past (trial_order seed) l 0 (omega (arith, length-order seed, past)))
]

-- the items are within their ranges
pub are-items : (seed limit : ℕ) → limit ≤ most_bits → All IsItem (trial_items seed limit)
unfolding trial_items
are-items seed limit few zero d low = (length-order seed, order-digits seed)
are-items seed limit few (suc k) d low =
    skews-are-items (skew_word seed limit) 16 k d (omega arith)
    (λ l. omega (arith, mod_below (word (15 + l) seed) (limit + 1) (omega arith), few))
    (omega (arith, low, length-for_each 16 (λ l. Skew l (skew_word seed limit l))))

-- ---- an impairer can be opened with the items
skew-none : (f : ℕ → ℕ) (l a n : ℕ) → l < a → count_by (is_skew_of l) (map (λ k. Skew k (f k)) (range_with_len a n)) ≡ 0
skew-none f l a zero below = refl
skew-none f l a (suc n) below =
    one_skew (λ i. cond (is_skew_of l i) 1 0) a n f 0 0 (ap (λ b. cond {A = ℕ} b 1 0) (ne_eqb a l (omega (arith, below)))) (skew-none f l (a + 1) n (omega arith))

skew-once : (f : ℕ → ℕ) (l a n : ℕ) → count_by (is_skew_of l) (map (λ k. Skew k (f k)) (range_with_len a n)) ≤ 1
skew-once f l a zero = omega arith
skew-once f l a (suc n) =
    let sum = sum_by-cons (λ i. cond {A = ℕ} (is_skew_of l i) 1 0) (Skew a (f a)) (map (λ k. Skew k (f k)) (range_with_len (a + 1) n)) in
    elim (cases_eq a l) [
      | inl same ↦ omega (arith, sum, ap (λ b. cond {A = ℕ} b 1 0) (eq-eqb a l same), skew-none f l (a + 1) n (omega (arith, same)))
      | inr other ↦ omega (arith, sum, ap (λ b. cond {A = ℕ} b 1 0) (ne_eqb a l other), skew-once f l (a + 1) n)
    ]

count-other : (test : Item → Bool) (f : ℕ → ℕ) (a n : ℕ) → ((k : ℕ) → test (Skew k (f k)) ≡ false)
    → count_by test (map (λ k. Skew k (f k)) (range_with_len a n)) ≡ 0
count-other test f a zero none = refl
count-other test f a (suc n) none = one_skew (λ i. cond (test i) 1 0) a n f 0 0 (ap (λ b. cond {A = ℕ} b 1 0) (none a)) (count-other test f (a + 1) n none)

pub trial_opens : TrialOpens
unfolding trial_items for_each
trial_opens seed limit few =
    let f = skew_word seed limit in
    let skews = map (λ k. Skew k (f k)) (range_with_len 0 16) in
    let size : length skews ≡ 16 = length-map (range_with_len 0 16) (λ k. Skew k (f k)) in
    let first : (test : Item → Bool) → count_by test (Order (trial_order seed) ∷ skews) ≡ cond {A = ℕ} (test (Order (trial_order seed))) 1 0 + count_by test skews =
    λ test. sum_by-cons (λ i. cond {A = ℕ} (test i) 1 0) (Order (trial_order seed)) skews in
    record {
      some = omega arith;
      few = omega (arith, size);
      each = are-items seed limit few;
      order = omega (arith, first is_order, count-other is_order f 0 16 (λ k. refl));
      noise = omega (arith, first is_noise, count-other is_noise f 0 16 (λ k. refl));
      skew = λ l low. omega (arith, first (is_skew_of l), skew-once f l 0 16);
    }
