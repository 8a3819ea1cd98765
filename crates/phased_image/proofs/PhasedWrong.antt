-- Phases keep the wrong symbols.
use Rattle.std.proofs.Common.{◌≡◌, ℕ, zero, suc, ◌+◌, ◌-◌, ◌*◌, ◌/◌, ◌%◌, ◌<◌, ◌≤◌, Bool, cond, List, [], refl, sym, ap, ap₂, ◌∙◌, inl, inr, arith}
use Rattle.std.specs.Prelude.{not, ◌==◌, ◌||◌, slice_index, slice_index_or, count_by}
use Rattle.std.specs.List.{list_any, range_with_len}
use Rattle.std.proofs.lemmas.Bool.{cases_lt}
use Rattle.std.proofs.lemmas.List.{get_or_past}
use Rattle.std.proofs.lemmas.List.Sums.{sum_by-cons}
use Rattle.bit_lists.specs.Bits.{bit}
use Rattle.bit_lists.specs.Places.{smallest}
use Rattle.pcs_bits.specs.Captures.{Capture, lane, bit_count}
use Rattle.pma_link.proofs.Phases.{length-lane_of}
use Rattle.pcs_receive.specs.Images.{Image, IsImage, sent_length, carrier, bit_differs, is_wrong, wrong_a, wrong_b}
use Rattle.phased_image.specs.PhasedImage.{partner, late, phased_image, IsPhased, IsPhasedImage}
use Rattle.phased_image.specs.PhasedWrong.{BeginsBy, PhasesKeepWrong}
use Rattle.phased_image.proofs.Permutations.{AreApart, is_there, place-is}
use Rattle.phased_image.proofs.PhasedImage.{partner-low, partner-twice, shift-is, order-is, phased_is_an_image}

any-same : (f g : ℕ → Bool) (a n : ℕ) → ((k : ℕ) → a ≤ k → k < a + n → f k ≡ g k) → list_any f (range_with_len a n) ≡ list_any g (range_with_len a n)
any-same f g a zero same = refl
any-same f g a (suc n) same =
    ap₂ (λ x y. x || y) (same a (omega arith) (omega arith)) (any-same f g (a + 1) n (λ k low high. same k (omega arith) (omega arith)))

count-same : (f g : ℕ → Bool) (a n : ℕ) → ((k : ℕ) → a ≤ k → k < a + n → f k ≡ g k) → count_by f (range_with_len a n) ≡ count_by g (range_with_len a n)
count-same f g a zero same = refl
count-same f g a (suc n) same =
    sum_by-cons (λ i. cond (f i) 1 0) a (range_with_len (a + 1) n)
    ∙ ap₂ (λ b m. cond b 1 0 + m) (same a (omega arith) (omega arith)) (count-same f g (a + 1) n (λ k low high. same k (omega arith) (omega arith)))
    ∙ sym (sum_by-cons (λ i. cond (g i) 1 0) a (range_with_len (a + 1) n))

module _ (mask : ℕ) (c d : Capture) (lanes : List (List ℕ)) (image : Image) (t : ℕ) (is : IsImage c lanes image)
    (room : bit_count c + smallest image.shifts ≤ image.base + sent_length lanes + 678) (has : IsPhased mask c d)
    (begins : BeginsBy (phased_image mask image) (680 * t)) where
  abbrev new : Image
  new = phased_image mask image

  phased : IsPhasedImage mask c d lanes image
  phased = phased_is_an_image mask c d lanes image is room has

  -- past the end both are 0
  bit-any : (l n : ℕ) → l < 16 → bit (lane d l) n ≡ bit (lane c (partner mask l)) (n + late mask l)
  bit-any l n low =
      elim (cases_lt n (bit_count d)) [
        | inl here ↦ phased.bits l n low here
        | inr past ↦
            get_or_past (lane d l) n 0 (omega (arith, past, length-lane_of d.beats l))
            ∙ sym (get_or_past (lane c (partner mask l)) (n + late mask l) 0 (omega (arith, past, phased.same_length, length-lane_of c.beats (partner mask l))))
      ]

  apart : AreApart image.order
  apart i j low small e = is.apart i j (omega (arith, low, is.sixteen.0)) (omega (arith, small, is.sixteen.0)) e

  apart-new : AreApart new.order
  apart-new i j low small e = phased.stands.apart i j (omega (arith, low, phased.stands.sixteen.0)) (omega (arith, small, phased.stands.sixteen.0)) e

  differs-same : (u m : ℕ) → u < 16 → 680 * t ≤ m → bit_differs d lanes new u m ≡ bit_differs c lanes image u m
  differs-same u m low from =
      let (l, there, number) = is_there 16 u image.order is.sixteen.0 is.in_range apart low in
      let here : l < 16 = omega (arith, there, is.sixteen.0) in
      let k = partner mask l in
      let other : k < 16 = partner-low mask l here in
      let back : partner mask k ≡ l = partner-twice mask l in
      let old_place : carrier image u ≡ l = place-is image.order u l apart there number in
      let new_number : slice_index new.order k ≡ u = order-is mask c d lanes image is room has k other ∙ ap (slice_index image.order) back ∙ number in
      let new_place : carrier new u ≡ k = place-is new.order u k apart-new (omega (arith, other, phased.stands.sixteen.0)) new_number in
      let shift : slice_index new.shifts k ≡ slice_index image.shifts l + late mask k =
      shift-is mask c d lanes image is room has k other ∙ ap (λ i. slice_index image.shifts i + late mask k) back in
      let place : m + image.base - slice_index new.shifts k + late mask k ≡ m + image.base - slice_index image.shifts l =
      omega (arith, shift, begins k other, from) in
      ap (λ b. not (bit (slice_index_or lanes u []) m == b))
      (ap (λ i. bit (lane d i) (m + image.base - slice_index new.shifts i)) new_place
      ∙ bit-any k (m + image.base - slice_index new.shifts k) other
      ∙ ap₂ (λ i n. bit (lane c i) n) back place
      ∙ sym (ap (λ i. bit (lane c i) (m + image.base - slice_index image.shifts i)) old_place))

  wrong-same : (k u : ℕ) → u < 16 → is_wrong d lanes new t k u ≡ is_wrong c lanes image t k u
  wrong-same k u low =
      any-same (bit_differs d lanes new u) (bit_differs c lanes image u) (680 * t + 10 * k) 10 (λ m from to. differs-same u m low (omega arith))

  a-same : wrong_a d lanes new t ≡ wrong_a c lanes image t
  unfolding wrong_a
  a-same = count-same _ _ 0 544 (λ i from to. wrong-same ((543 - i) / 8) (2 * ((543 - i) % 8) + (543 - i) / 8 % 2) (omega arith))

  b-same : wrong_b d lanes new t ≡ wrong_b c lanes image t
  unfolding wrong_b
  b-same = count-same _ _ 0 544 (λ i from to. wrong-same ((543 - i) / 8) (2 * ((543 - i) % 8) + ((543 - i) / 8 + 1) % 2) (omega arith))

pub phases_keep_wrong : PhasesKeepWrong
phases_keep_wrong mask c d lanes image t is room has begins = (a-same mask c d lanes image t is room has begins, b-same mask c d lanes image t is room has begins)
