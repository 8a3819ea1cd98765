-- What `impair` writes, beat by beat.
use Rattle.std.proofs.Common.{◌≡◌, ℕ, zero, suc, ◌+◌, ◌-◌, ◌*◌, ◌/◌, ◌<◌, ◌≤◌, Bool, true, false, List, [], ◌∷◌, ◌++◌, length, flat_map, refl, sym, ◌∙◌, ap, arith, inl, inr, append_assoc, append-nil}
use Rattle.std.specs.Prelude.{filter}
use Rattle.std.specs.List.{All, range_with_len}
use Rattle.std.proofs.lemmas.Bool.{cases_lt, le-leb, lt-leb, leb-false}
use Rattle.bit_lists.specs.Places.{for_each, joined, smallest}
use Rattle.bit_lists.proofs.Lists.{flat_map-range-same, joined-more}
use Rattle.lane_impair.specs.declared.item.Item.{Item}
use Rattle.lane_impair.specs.Items.{IsItem}
use Rattle.lane_impair.specs.Impairments.{source, changed, beat_count, impaired, is_ready}
use Rattle.lane_impair.specs.Histories.{lanes_of, beat_at}
use Rattle.lane_impair.specs.Laws.{KeepsReady}
use Rattle.lane_impair.proofs.ReadyBeats.{ready_stays}
use Rattle.pcs_io.specs.declared.header.Header.{Header}
use Rattle.pcs_drive.specs.Tasks.{Grows}
use Rattle.pcs_top.specs.Impairing.{header_octets_of, impaired_octets, ready_octets, impairing}

filter-none : (p : ℕ → Bool) (a n : ℕ) → ((k : ℕ) → a ≤ k → p k ≡ false) → filter p (range_with_len a n) ≡ []
filter-none p a zero none = refl
filter-none p a (suc n) none = rw (none a (omega arith)) (filter-none p (a + 1) n (λ k high. none k (omega arith)))

-- of the numbers from a on the first m pass the test, and no others
filter-front : (p : ℕ → Bool) (a m n : ℕ) → ((k : ℕ) → k < a + m → p k ≡ true) → ((k : ℕ) → a + m ≤ k → p k ≡ false)
    → filter p (range_with_len a (m + n)) ≡ range_with_len a m
filter-front p a zero n pass none = let same : zero + n ≡ n = omega arith in rw same (filter-none p a n (λ k high. none k (omega arith)))
filter-front p a (suc m) n pass none =
    let more : suc m + n ≡ suc (m + n) = omega arith in
    rw (more, pass a (omega arith))
    (ap (λ xs. a ∷ xs) (filter-front p (a + 1) m n (λ k low. pass k (omega arith)) (λ k high. none k (omega arith))))

-- the beats of damaged lanes
abbrev pub damaged : List Item → List (List ℕ) → ℕ → List ℕ
damaged items beats = beat_at (impaired (lanes_of beats) items)

-- the first so many beats are ready
abbrev pub AllReady : List Item → List (List ℕ) → ℕ → Type 0
AllReady items beats n = (b : ℕ) → b < n → is_ready (lanes_of beats) items b ≡ true

-- where a beat isn't ready, no later one is
ready-down : (items : List Item) (beats : List (List ℕ)) (b c : ℕ) → is_ready (lanes_of beats) items b ≡ false → b ≤ c
    → is_ready (lanes_of beats) items c ≡ false
unfolding is_ready
ready-down items beats b c none later =
    let s : ℕ = smallest (for_each 16 (λ l. length (changed items (lanes_of beats) (source items l)))) in
    lt-leb (8 * c + 8) s (omega (arith, leb-false (8 * b + 8) s none))

-- how many beats are ready
ready-number : (items : List Item) (beats : List (List ℕ)) → (n : ℕ) × AllReady items beats n × (is_ready (lanes_of beats) items n ≡ false)
unfolding is_ready
ready-number items beats =
    let s : ℕ = smallest (for_each 16 (λ l. length (changed items (lanes_of beats) (source items l)))) in
    (s / 8, λ b low. le-leb (8 * b + 8) s (omega arith), lt-leb (8 * (s / 8) + 8) s (omega arith))

joined-same : (f g : ℕ → List ℕ) (n : ℕ) → ((k : ℕ) → k < n → f k ≡ g k) → joined n f ≡ joined n g
unfolding joined
joined-same f g n same = flat_map-range-same f g 0 n (λ k low high. same k (omega arith))

-- the first beats are a front of more of them
joined-front : (f : ℕ → List ℕ) (m n : ℕ) → m ≤ n → (rest : List ℕ) × (joined n f ≡ joined m f ++ rest)
joined-front f m n few =
    let parts : n ≡ m + (n - m) = omega (arith, few) in
    (flat_map f (range_with_len m (n - m)), ap (λ k. joined k f) parts ∙ joined-more f m (n - m))

module _ (items : List Item) (each : All IsItem items) where
  keeps : (beats : List (List ℕ)) (beat : List ℕ) → KeepsReady items beats beat
  keeps beats beat = ready_stays items beats beat each

  -- beats that are ready are among all beats
  pub counted : (beats : List (List ℕ)) (b : ℕ) → is_ready (lanes_of beats) items b ≡ true → b < beat_count (lanes_of beats) items
  counted beats b = (keeps beats []).counted b

  within : (beats : List (List ℕ)) (n : ℕ) → AllReady items beats n → n ≤ beat_count (lanes_of beats) items
  within beats zero ready = omega arith
  within beats (suc n) ready = omega (arith, counted beats n (ready n (omega arith)))

  -- the beats that are ready, by their number
  pub ready-is : (beats : List (List ℕ)) (n : ℕ) → AllReady items beats n → is_ready (lanes_of beats) items n ≡ false
      → ready_octets items beats ≡ joined n (damaged items beats)
  unfolding ready_octets joined
  ready-is beats n ready last =
      let count : ℕ = beat_count (lanes_of beats) items in
      let parts : count ≡ n + (count - n) = omega (arith, within beats n ready) in
      let test : ℕ → Bool = is_ready (lanes_of beats) items in
      ap (λ k. flat_map (damaged items beats) (filter test (range_with_len 0 k))) parts
      ∙ ap (flat_map (damaged items beats)) (filter-front test 0 n (count - n) (λ k low. ready k (omega (arith, low))) (λ k high. ready-down items beats n k last (omega (arith, high))))

  -- beats that are ready are a front of those that are
  pub ready-front : (beats : List (List ℕ)) (n : ℕ) → AllReady items beats n
      → (rest : List ℕ) × (ready_octets items beats ≡ joined n (damaged items beats) ++ rest)
  ready-front beats n ready =
      let all = ready-number items beats in
      let few : n ≤ all.0 = elim (cases_lt all.0 n) [ inl more ↦ absurd (let yes = ready all.0 more in let no = all.2 in cc) | inr few ↦ few ] in
      let front = joined-front (damaged items beats) n all.0 few in
      (front.0, ready-is beats all.0 all.1 all.2 ∙ front.1)

  -- they stay as they are when a beat comes
  pub same-later : (beats : List (List ℕ)) (beat : List ℕ) (n : ℕ) → AllReady items beats n
      → joined n (damaged items (beats ++ beat ∷ [])) ≡ joined n (damaged items beats)
  same-later beats beat n ready = joined-same (damaged items (beats ++ beat ∷ [])) (damaged items beats) n (λ k low. (keeps beats beat).same k (ready k low))

  pub ready-later : (beats : List (List ℕ)) (beat : List ℕ) (n : ℕ) → AllReady items beats n → AllReady items (beats ++ beat ∷ []) n
  ready-later beats beat n ready b low = (keeps beats beat).ready b (ready b low)

  one-more : (beats : List (List ℕ)) (beat : List ℕ) → (rest : List ℕ) × (ready_octets items (beats ++ beat ∷ []) ≡ ready_octets items beats ++ rest)
  one-more beats beat =
      let old = ready-number items beats in
      let front = ready-front (beats ++ beat ∷ []) old.0 (ready-later beats beat old.0 old.1) in
      (front.0, front.1 ∙ ap (λ o. o ++ front.0) (same-later beats beat old.0 old.1 ∙ sym (ready-is beats old.0 old.1 old.2)))

  more-ready : (beats more : List (List ℕ)) → (rest : List ℕ) × (ready_octets items (beats ++ more) ≡ ready_octets items beats ++ rest)
  more-ready beats [] = ([], ap (ready_octets items) (append-nil beats) ∙ sym (append-nil (ready_octets items beats)))
  more-ready beats (beat ∷ more) =
      let one = one-more beats beat in
      let others = more-ready (beats ++ beat ∷ []) more in (
        one.0 ++ others.0,
        ap (ready_octets items) (sym (append_assoc beats (beat ∷ []) more)) ∙ others.1 ∙ ap (λ o. o ++ others.0) one.1
            ∙ append_assoc (ready_octets items beats) one.0 others.0,
      )

  -- with more beats the text only grows
  pub impairing-grows : (header : Header) → Grows (impairing items header)
  impairing-grows header beats more =
      let later = more-ready beats more in
      (later.0, ap (λ o. header_octets_of header ++ o) later.1 ∙ sym (append_assoc (header_octets_of header) (ready_octets items beats) later.0))

  -- all beats
  pub all-is : (beats : List (List ℕ)) (n : ℕ) → n ≡ beat_count (lanes_of beats) items → impaired_octets items beats ≡ joined n (damaged items beats)
  unfolding impaired_octets
  all-is beats n is = ap (λ k. joined k (damaged items beats)) (sym is)

  pub all-front : (beats : List (List ℕ)) (n : ℕ) → n ≤ beat_count (lanes_of beats) items
      → (rest : List ℕ) × (impaired_octets items beats ≡ joined n (damaged items beats) ++ rest)
  unfolding impaired_octets
  all-front beats n few = joined-front (damaged items beats) n (beat_count (lanes_of beats) items) few
