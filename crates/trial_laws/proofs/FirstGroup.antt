-- Where a trial locks truly, each lane locks at group 0, so group 1 is the first aligned group.
use Rattle.std.proofs.Common.{◌≡◌, ℕ, zero, suc, ◌+◌, ◌-◌, ◌*◌, ◌/◌, ◌%◌, ◌<◌, ◌≤◌, ◌++◌, Bool, true, false, List, [], length, Option, Some, None, is_some, refl, sym, ap, ap₂, ◌∙◌, inl, inr, arith}
use Rattle.std.specs.Prelude.{◌==◌, ◌&&◌, slice_index, slice_index_or, unwrap_or, nat_le}
use Rattle.std.proofs.lemmas.Nat.{div-mul-add}
use Rattle.std.proofs.lemmas.Bool.{cases_lt, lt-leb}
use Rattle.std.proofs.lemmas.List.{ext_get_or, length-append, length-replicate}
use Rattle.std.proofs.Math.Nat.{zero-mod, mod_self}
use Rattle.bit_lists.specs.Bits.{bit, bit_of}
use Rattle.bit_lists.specs.Places.{least, for_each, greatest}
use Rattle.bit_lists.proofs.ByPlaces.{length-for_each, at-for_each}
use Rattle.bit_lists.proofs.Least.{least-none, least-before}
use Rattle.bit_lists.proofs.Slices.{bit-slice, length-slice_range}
use Rattle.bit_lists.proofs.Extremes.{attained}
use Rattle.bit_lists.proofs.Lists.{slice_index-le-greatest}
use Rattle.pcs_bits.specs.Captures.{Capture, lane, bit_count}
use Rattle.marker_table.specs.Markers.{marker_bits}
use Rattle.marker_table.specs.Matches.{window, is_match}
use Rattle.lane_lock.specs.declared.Found.{Found}
use Rattle.lane_lock.specs.Locks.{number_at, found_at, found}
use Rattle.lane_deskew.specs.declared.Order.{Order}
use Rattle.lane_deskew.specs.Alignments.{aligned, marker_period}
use Rattle.lane_deskew.specs.Pairs.{pairs_there}
use Rattle.lane_deskew.proofs.Aligned.{length-lane}
use Rattle.lane_deskew.proofs.Known.{reached}
use Rattle.lane_impair.specs.declared.item.Item.{Item}
use Rattle.lane_impair.specs.Impairments.{source, beat_count}
use Rattle.lane_impair.specs.Impairments as items
use Rattle.pcs_receive.specs.Images.{HasTrueLock}
use Rattle.pcs_receive.specs.Headline.{AlignsAt}
use Rattle.pcs_receive.proofs.TrueLock.{lock_of, all_locks, image-aligns, first-at, length-places}
use Rattle.impaired_image.proofs.ImpairedImage.{bits-many, beats-hold}
use Rattle.mac_columns.specs.declared.column.Column.{Column}
use Rattle.mac_columns.specs.declared.column.Column.TheVariants.{Idle}
use Rattle.rate_match.specs.Kept.{room, kept}
use Rattle.pcs_send.specs.Transmission.{idles, lacking, begun_columns, sent_columns, columns_before, wides_before}
use Rattle.pcs_send.proofs.Filling.{whole_pairs-fits}
use Rattle.pcs_send.proofs.Pairs.{columns-periods, wides-zero, wides-mono}
use Rattle.trial_laws.specs.Damage.{trial_items, pair_word, bursts, strikes, damaged}
use Rattle.trial_laws.specs.Trial.{next_seed, limit_of, made_columns, trial_columns, trial_pairs, trial_lanes, trial_capture}
use Rattle.trial_laws.specs.Laws.{trial_image}
use Rattle.trial_laws.proofs.TrialOrder.{keeps-all}
use Rattle.trial_laws.proofs.TrialImage.{sent-lanes, hit-lanes, has-impaired, image, trial_is_an_image}
use Rattle.trial_laws.proofs.WrongSymbols.{are_bits-carried, bit-received}
use Rattle.trial_laws.proofs.SentMarkers.{marker-sent, length-marker_bits, marker-matches}

-- ---- what a lock finds
some-least : (test : ℕ → Bool) (from count k : ℕ) → from ≤ k → k < from + count → test k ≡ true → is_some (least test from count) ≡ true
some-least test from count k low high passes = by (least test from count) refl
  where
    by : (o : Option ℕ) → least test from count ≡ o → is_some o ≡ true
    by (Some n) e = refl
    by None e = let bad : true ≡ false = sym passes ∙ least-none test from count k e low high in absurd cc

-- what is found stands at the place at which a number matched
abbrev pub told_at : ℕ → Option ℕ → Option Found
told_at m None = None
told_at m (Some v) = Some (record { place = m; number = v })

found-place : (m n u : ℕ) (o : Option ℕ) → told_at m o ≡ Some (record { place = n; number = u }) → m ≡ n
found-place m n u None e = let bad : ◌≡◌ {A = Option Found} None (Some (record { place = n; number = u })) = e in absurd cc
found-place m n u (Some v) e = ap (λ (f : Option Found). (unwrap_or f (record { place = m; number = v })).place) e

pub told-is : (period : ℕ) (line : List ℕ) (k : ℕ) → found_at period line (Some k) ≡ told_at k (number_at period line k)
unfolding found_at
told-is period line k = by (number_at period line k)
  where
    by : (o : Option ℕ) → elim o as (λ x. Option Found) [ None ↦ None | Some u ↦ Some (record { place = k; number = u }) ] ≡ told_at k o
    by None = refl
    by (Some u) = refl

-- nothing is found behind a place where a number matches
found-early : (period : ℕ) (line : List ℕ) (m n u : ℕ) → m < length line → is_some (number_at period line m) ≡ true
    → found period line 0 ≡ Some (record { place = n; number = u }) → n ≤ m
unfolding found found_at
found-early period line m n u inside here e = by (least (λ k. is_some (number_at period line k)) 0 (length line - 0)) refl e
  where
    by : (o : Option ℕ) → least (λ k. is_some (number_at period line k)) 0 (length line - 0) ≡ o
        → found_at period line o ≡ Some (record { place = n; number = u }) → n ≤ m
    by None first e = let bad : ◌≡◌ {A = Option Found} None (Some (record { place = n; number = u })) = e in absurd cc
    by (Some k) first e =
        let same = found-place k n u (number_at period line k) (sym (told-is period line k) ∙ e) in
        elim (cases_lt m k) [
          | inl before ↦
              let none = least-before (λ k. is_some (number_at period line k)) 0 (length line - 0) k m first (omega arith) before in
              let bad : true ≡ false = sym here ∙ none in absurd cc
          | inr from ↦ omega (arith, same, from)
        ]

one_period : (g period : ℕ) → 0 < period → g * period ≡ period → g ≡ 1
one_period zero period some e = absurd (omega (arith, e, some))
one_period (suc zero) period some e = refl
one_period (suc (suc g)) period some e =
    let product : suc (suc g) * period ≡ g * period + 2 * period = omega arith in absurd (omega (arith, product, e, some))

module _ (seed count p : ℕ) (some : 1 ≤ p) where
  abbrev c : Capture
  c = trial_capture seed count p

  abbrev sent : List (List ℕ)
  sent = trial_lanes seed count p

  abbrev its : List Item
  its = trial_items (next_seed seed) (limit_of p)

  abbrev pairs : ℕ
  pairs = trial_pairs seed count p

  abbrev skew_at : ℕ → ℕ
  skew_at l = items.skew_of its (source its l)

  abbrev base : ℕ
  base = (trial_image seed p).base

  pub source-low : (l : ℕ) → l < 16 → source its l < 16
  source-low = (keeps-all (next_seed seed) (limit_of p)).in_range

  pub period-is : marker_period c ≡ 680 * p
  unfolding trial_capture
  period-is = refl

  -- the lead was sent
  pub pairs-many : 2 * p ≤ pairs
  unfolding sent_columns begun_columns
  pairs-many =
      let front = idles (2 * room p) in
      let cs = kept p (made_columns seed count) in
      let fill = idles (lacking p (length (front ++ cs))) ++ idles (1 * room p) in
      let long : 2 * room p ≤ length (trial_columns seed count p) =
      omega (arith, length-append (front ++ cs) fill, length-append front cs, length-replicate {A = Column} (2 * room p) Idle) in
      let fits = whole_pairs-fits p (length (trial_columns seed count p)) in
      let start : 2 * p ≡ 0 + 2 * p = omega arith in
      let lead : columns_before p (2 * p) ≡ 2 * room p =
      ap (columns_before p) start ∙ columns-periods p 0 2 some ∙ omega (arith, wides-zero p) in
      elim (cases_lt pairs (2 * p)) [
        | inl few ↦
            let end : pairs + 1 + (2 * p - (pairs + 1)) ≡ 2 * p = omega (arith, few) in
            absurd (omega (arith, fits.1, long, lead, wides-mono p (pairs + 1) (2 * p - (pairs + 1)), ap (wides_before p) end))
        | inr enough ↦ enough
      ]

  pub lane-long : (l : ℕ) → l < 16 → skew_at l + 680 * pairs ≤ length (lane c l)
  lane-long l low =
      let hits = damaged (next_seed seed) (2 * p) sent in
      let keeps = keeps-all (next_seed seed) (limit_of p) in
      let many = bits-many c hits its (680 * pairs) (hit-lanes seed count p some) keeps (has-impaired seed count p some) in
      let hold = beats-hold c hits its (680 * pairs) (hit-lanes seed count p some) keeps (has-impaired seed count p some) (source its l) (source-low l low) in
      omega (arith, many, hold, length-lane c l)

  -- ---- the first two markers of a lane arrive as they were sent
  unstruck : (u t j : ℕ) → t < 2 * p → j < 680 → strikes (next_seed seed) (2 * p) u (680 * t + j) ≡ false
  unstruck u t j early low =
      let place : 680 * t + j ≡ t * 680 + j = omega arith in
      let pair : (680 * t + j) / 680 ≡ t = ap (λ n. n / 680) place ∙ div-mul-add t 680 j low in
      ap (λ q. nat_le (2 * p) q && bursts (pair_word (next_seed seed) (q - 2 * p)) u ((680 * t + j) % 680)) pair
      ∙ ap (λ b. b && bursts (pair_word (next_seed seed) (t - 2 * p)) u ((680 * t + j) % 680)) (lt-leb (2 * p) t early)

  still : (b : ℕ) → b < 2 → ((b + 0) % 2 + 0) % 2 ≡ b
  still b low = omega (arith, low)

  pub bit-still : (l t j : ℕ) → l < 16 → t < 2 * p → t < pairs → j < 680
      → bit (lane c l) (skew_at l + (680 * t + j)) ≡ bit (slice_index_or sent (source its l) []) (680 * t + j)
  bit-still l t j low early full small =
      let u = source its l in
      bit-received seed count p some l (680 * t + j) low (omega (arith, full, small))
      ∙ ap (λ s. ((bit (slice_index_or sent u []) (680 * t + j) + bit_of s) % 2 + 0) % 2) (unstruck u t j early small)
      ∙ still (bit (slice_index_or sent u []) (680 * t + j)) (are_bits-carried p (trial_columns seed count p) u (source-low l low) (680 * t + j))

  window-is : (l t : ℕ) → l < 16 → t < 2 * p → t < pairs → (t % p == 0) ≡ true → window (lane c l) (skew_at l + 680 * t) ≡ marker_bits (source its l)
  window-is l t low early full begins =
      let u = source its l in
      let from = skew_at l + 680 * t in
      let size : length (window (lane c l) from) ≡ 120 = length-slice_range (lane c l) from 120 (omega (arith, full, lane-long l low)) in
      ext_get_or 0 (window (lane c l) from) (marker_bits u) (size ∙ sym (length-marker_bits u (source-low l low))) (λ j within.
      let small : j < 120 = omega (arith, size, within) in
      let place : from + j ≡ skew_at l + (680 * t + j) = omega arith in
      bit-slice (lane c l) from (from + 120) j (omega (arith, small))
      ∙ ap (bit (lane c l)) place
      ∙ bit-still l t j low early full (omega (arith, small))
      ∙ marker-sent p (trial_columns seed count p) t u j full begins (source-low l low) small)

  pub matches-at : (l t n : ℕ) → l < 16 → t < 2 * p → t < pairs → (t % p == 0) ≡ true → n ≡ skew_at l + 680 * t
      → is_match (window (lane c l) n) (source its l) ≡ true
  matches-at l t n low early full begins at =
      ap (λ n. is_match (window (lane c l) n) (source its l)) at
      ∙ ap (λ w. is_match w (source its l)) (window-is l t low early full begins) ∙ marker-matches (source its l) (source-low l low)

  pub number-there : (l : ℕ) → l < 16 → is_some (number_at (marker_period c) (lane c l) (skew_at l)) ≡ true
  unfolding number_at
  number-there l low =
      let u = source its l in
      some-least (λ u. is_match (window (lane c l) (skew_at l)) u && is_match (window (lane c l) (skew_at l + marker_period c)) u) 0 16 u
      (omega arith) (omega (arith, source-low l low))
      (ap₂ (λ a b. a && b)
      (matches-at l 0 (skew_at l) low (omega (arith, some)) (omega (arith, some, pairs-many)) (ap (λ r. r == 0) (zero-mod p)) (omega arith))
      (matches-at l p (skew_at l + marker_period c) low (omega (arith, some)) (omega (arith, some, pairs-many)) (ap (λ r. r == 0) (mod_self p)) (omega (arith, period-is))))

  -- ---- where it locks truly
  module _ (lock : HasTrueLock c sent (trial_image seed p) 0) where
    -- each lane locks at its first bit that was sent
    pub locks-first : (l : ℕ) → l < 16 → (lock_of c 0 l).place ≡ skew_at l
    locks-first l low =
        let (k, n, long, stands, is) = lock l low in
        let early = found-early (marker_period c) (lane c l) (skew_at l) n (slice_index (trial_image seed p).order l)
        (omega (arith, lane-long l low, pairs-many, some)) (number-there l low) is in
        let place = (image seed count p some).places l 0 low in
        ap (λ (o : Option Found). (unwrap_or o (record { place = 0; number = 0 })).place) is ∙ omega (arith, early, stands, place)

    -- ---- the alignment
    module _ (o : Order) (g : ℕ) (aligns : AlignsAt c (limit_of p) (trial_image seed p) 0 o g) where
      order-is : o ≡ reached c (limit_of p) (all_locks c 0)
      order-is =
          let is = trial_is_an_image seed count p some in
          let same : aligned o ≡ aligned (reached c (limit_of p) (all_locks c 0)) =
          sym aligns.is ∙ image-aligns c sent (trial_image seed p) (limit_of p) 0 is.stands is.within (omega (arith, is.limit, period-is)) lock in
          cc

      pub first-group : g ≡ 1
      first-group =
          let (l, low, second, stands) = aligns.first in
          let first : slice_index o.firsts l ≡ skew_at l =
          ap (λ (o : Order). slice_index o.firsts l) order-is ∙ first-at c (limit_of p) 0 l low ∙ locks-first l low in
          let place = (image seed count p some).places l 0 low in
          one_period g (marker_period c) (omega (arith, some, period-is)) (omega (arith, second, stands, first, place))

      place-is : (l : ℕ) → l < 16 → slice_index o.places l ≡ skew_at l + 680 * p
      place-is l low =
          let one : g * marker_period c ≡ marker_period c = ap (λ g. g * marker_period c) first-group ∙ omega arith in
          omega (arith, aligns.places l low, one, period-is, (image seed count p some).places l 0 low)

      length-order_places : length o.places ≡ 16
      length-order_places = ap (λ (o : Order). length o.places) order-is ∙ length-places c (limit_of p) 0

      greatest-place : greatest o.places ≡ base + 680 * p
      greatest-place =
          let size = length-order_places in
          let (m, there, top) = attained o.places (omega (arith, size)) in
          let low : m < 16 = omega (arith, size, there) in
          let skews = for_each 16 (items.skew_of its) in
          let many : length skews ≡ 16 = length-for_each 16 (items.skew_of its) in
          let (u, inside, most) = attained skews (omega (arith, many)) in
          let small : u < 16 = omega (arith, inside, many) in
          let (l, lane_low, from) = (keeps-all (next_seed seed) (limit_of p)).onto u small in
          let whole : skew_at l ≡ base = ap (items.skew_of its) from ∙ sym (at-for_each 16 (items.skew_of its) u 0 small) ∙ most in
          let below = slice_index-le-greatest skews (source its m) in
          let at : slice_index skews (source its m) ≡ skew_at m = at-for_each 16 (items.skew_of its) (source its m) 0 (source-low m low) in
          omega (arith, top, place-is m low, below, at, slice_index-le-greatest o.places l, place-is l lane_low, whole)

      -- the capture holds all pairs behind the first period
      pub all-there : pairs_there c o ≡ pairs - p
      all-there =
          let skews = for_each 16 (items.skew_of its) in
          let many : length skews ≡ 16 = length-for_each 16 (items.skew_of its) in
          let (u, inside, most) = attained skews (omega (arith, many)) in
          let small : u < 16 = omega (arith, inside, many) in
          let (l, lane_low, from) = (keeps-all (next_seed seed) (limit_of p)).onto u small in
          let whole : skew_at l ≡ base = ap (items.skew_of its) from ∙ sym (at-for_each 16 (items.skew_of its) u 0 small) ∙ most in
          let ends = (trial_is_an_image seed count p some).stands.ends in
          let size = (sent-lanes seed count p some).each 0 (omega arith) in
          let place = (image seed count p some).places l 0 lane_low in
          let rest : bit_count c - greatest o.places ≡ 680 * (pairs - p) + (bit_count c - greatest o.places - 680 * (pairs - p)) =
          omega (arith, lane-long l lane_low, length-lane c l, whole, greatest-place, pairs-many) in
          omega (arith, rest, lane-long l lane_low, length-lane c l, whole, greatest-place, pairs-many, ends, size, place)
