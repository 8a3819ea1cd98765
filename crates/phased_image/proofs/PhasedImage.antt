-- The phased lanes of an image are an image.
use Rattle.std.proofs.Common.{◌≡◌, ℕ, zero, suc, ◌+◌, ◌*◌, ◌/◌, ◌%◌, ◌<◌, ◌≤◌, List, length, refl, sym, ap, ap₂, ◌∙◌, inl, inr, arith}
use Rattle.std.specs.Prelude.{slice_index, ◌↔◌}
use Rattle.std.specs.Int.{bit_at}
use Rattle.std.proofs.lemmas.Bool.{cases_lt}
use Rattle.std.proofs.lemmas.Nat.Bits.{bit_at-lt}
use Rattle.bit_lists.specs.Bits.{bit}
use Rattle.bit_lists.specs.Places.{for_each, greatest, smallest}
use Rattle.bit_lists.proofs.ByPlaces.{length-for_each, at-for_each}
use Rattle.bit_lists.proofs.Extremes.{attained, attained-least, smallest-le}
use Rattle.bit_lists.proofs.Lists.{slice_index-le-greatest}
use Rattle.pcs_bits.specs.Captures.{Capture, lane, bit_count}
use Rattle.pcs_receive.specs.Images.{Image, StandsFor, IsImage, sent_length}
use Rattle.pma_link.specs.Levels.{lane_of, stream}
use Rattle.pma_link.proofs.Phases.{length-lane_of, same_lengths, turn, phased-turns}
use Rattle.phased_image.specs.PhasedImage.{partner, late, phased_image, IsPhased, PhasedIsAnImage, HeadlineOfPhased}
use Rattle.pcs_send.specs.Transmission.{carried}
use Rattle.pcs_receive.proofs.Headline.{headline_within}

-- ---- pairs of lanes
pub partner-low : (mask l : ℕ) → l < 16 → partner mask l < 16
partner-low mask l low = omega arith

pub partner-twice : (mask l : ℕ) → partner mask (partner mask l) ≡ l
partner-twice mask l =
    let pair : partner mask l / 2 ≡ l / 2 = omega arith in
    ap (λ j. 2 * j + (partner mask l + bit_at mask j) % 2) pair ∙ omega (arith, bit_at-lt mask (l / 2))

partner-apart : (mask l m : ℕ) → partner mask l ≡ partner mask m → l ≡ m
partner-apart mask l m e = sym (partner-twice mask l) ∙ ap (partner mask) e ∙ partner-twice mask m

late-small : (mask l : ℕ) → late mask l ≤ 1
late-small mask l =
    elim (cases_lt (bit_at mask (l / 2)) 1) [
      | inl low ↦
          let none : bit_at mask (l / 2) ≡ 0 = omega arith in
          let e : late mask l ≡ 0 * (l % 2) = ap (λ f. f * (l % 2)) none in omega (arith, e)
      | inr high ↦
          let one : bit_at mask (l / 2) ≡ 1 = omega (arith, bit_at-lt mask (l / 2)) in
          let e : late mask l ≡ 1 * (l % 2) = ap (λ f. f * (l % 2)) one in omega (arith, e)
    ]

-- a bit of a turn, by the parity of the lane and the phase
from_partner : (c : Capture) (l f n : ℕ) → f < 2
    → turn (lane_of c.beats (2 * (l / 2))) (lane_of c.beats (2 * (l / 2) + 1)) (l % 2 + f) n ≡ bit (lane c (2 * (l / 2) + (l + f) % 2)) (n + f * (l % 2))
from_partner c l zero n low =
    elim (cases_lt (l % 2) 1) [
      | inl even ↦
          let r : l % 2 + 0 ≡ 0 = omega arith in
          let k : 2 * (l / 2) ≡ 2 * (l / 2) + (l + 0) % 2 = omega arith in
          let m : n ≡ n + 0 * (l % 2) = omega arith in
          ap (λ r. turn (lane_of c.beats (2 * (l / 2))) (lane_of c.beats (2 * (l / 2) + 1)) r n) r ∙ ap₂ (λ k m. bit (lane c k) m) k m
      | inr odd ↦
          let r : l % 2 + 0 ≡ 1 = omega arith in
          let k : 2 * (l / 2) + 1 ≡ 2 * (l / 2) + (l + 0) % 2 = omega arith in
          let m : n ≡ n + 0 * (l % 2) = omega arith in
          ap (λ r. turn (lane_of c.beats (2 * (l / 2))) (lane_of c.beats (2 * (l / 2) + 1)) r n) r ∙ ap₂ (λ k m. bit (lane c k) m) k m
    ]
from_partner c l (suc zero) n low =
    elim (cases_lt (l % 2) 1) [
      | inl even ↦
          let r : l % 2 + 1 ≡ 1 = omega arith in
          let k : 2 * (l / 2) + 1 ≡ 2 * (l / 2) + (l + 1) % 2 = omega arith in
          let m : n ≡ n + 1 * (l % 2) = omega arith in
          ap (λ r. turn (lane_of c.beats (2 * (l / 2))) (lane_of c.beats (2 * (l / 2) + 1)) r n) r ∙ ap₂ (λ k m. bit (lane c k) m) k m
      | inr odd ↦
          let r : l % 2 + 1 ≡ 2 = omega arith in
          let k : 2 * (l / 2) ≡ 2 * (l / 2) + (l + 1) % 2 = omega arith in
          let m : n + 1 ≡ n + 1 * (l % 2) = omega arith in
          ap (λ r. turn (lane_of c.beats (2 * (l / 2))) (lane_of c.beats (2 * (l / 2) + 1)) r n) r ∙ ap₂ (λ k m. bit (lane c k) m) k m
    ]
from_partner c l (suc (suc f)) n low = absurd (omega arith)

module _ (mask : ℕ) (c d : Capture) (lanes : List (List ℕ)) (image : Image) (is : IsImage c lanes image)
    (room : bit_count c + smallest image.shifts ≤ image.base + sent_length lanes + 678) (has : IsPhased mask c d) where
  abbrev shifts : List ℕ
  shifts = (phased_image mask image).shifts

  lane-is : (l : ℕ) → l < 16
      → lane d l ≡ for_each (bit_count c) (turn (lane_of c.beats (2 * (l / 2))) (lane_of c.beats (2 * (l / 2) + 1)) (l % 2 + bit_at mask (l / 2)))
  lane-is l low =
      let xs = lane_of c.beats (2 * (l / 2)) in
      let ys = lane_of c.beats (2 * (l / 2) + 1) in
      has l low ∙ phased-turns mask (stream c.beats) xs ys l (same_lengths c.beats (2 * (l / 2)) (2 * (l / 2) + 1)) refl
      ∙ ap (λ n. for_each n (turn xs ys (l % 2 + bit_at mask (l / 2)))) (length-lane_of c.beats (2 * (l / 2)))

  same_length : bit_count d ≡ bit_count c
  same_length = sym (length-lane_of d.beats 0) ∙ ap length (lane-is 0 (omega arith)) ∙ length-for_each (bit_count c) _

  bits : (l n : ℕ) → l < 16 → n < bit_count d → bit (lane d l) n ≡ bit (lane c (partner mask l)) (n + late mask l)
  bits l n low small =
      ap (λ xs. bit xs n) (lane-is l low)
      ∙ at-for_each (bit_count c) _ n 0 (omega (arith, small, same_length))
      ∙ from_partner c l (bit_at mask (l / 2)) n (bit_at-lt mask (l / 2))

  pub shift-is : (l : ℕ) → l < 16 → slice_index shifts l ≡ slice_index image.shifts (partner mask l) + late mask l
  shift-is l low = at-for_each 16 (λ l. slice_index image.shifts (partner mask l) + late mask l) l 0 low

  pub order-is : (l : ℕ) → l < 16 → slice_index (phased_image mask image).order l ≡ slice_index image.order (partner mask l)
  order-is l low = at-for_each 16 (λ l. slice_index image.order (partner mask l)) l 0 low

  sixteen : length shifts ≡ 16
  sixteen = length-for_each 16 (λ l. slice_index image.shifts (partner mask l) + late mask l)

  least-above : smallest image.shifts ≤ smallest shifts
  least-above =
      let (i, there, least) = attained-least shifts (omega (arith, sixteen)) in
      let low : i < 16 = omega (arith, there, sixteen) in
      omega (arith, least, shift-is i low, smallest-le image.shifts (partner mask i) (omega (arith, partner-low mask i low, is.sixteen.1)))

  least-below : smallest shifts ≤ smallest image.shifts + 1
  least-below =
      let (i, there, least) = attained-least image.shifts (omega (arith, is.sixteen.1)) in
      let low : i < 16 = omega (arith, there, is.sixteen.1) in
      let k = partner mask i in
      let small : k < 16 = partner-low mask i low in
      let back : slice_index image.shifts (partner mask k) ≡ slice_index image.shifts i = ap (slice_index image.shifts) (partner-twice mask i) in
      omega (arith, smallest-le shifts k (omega (arith, small, sixteen)), shift-is k small, late-small mask k, back, least)

  greatest-below : greatest shifts ≤ greatest image.shifts + 1
  greatest-below =
      let (i, there, most) = attained shifts (omega (arith, sixteen)) in
      let low : i < 16 = omega (arith, there, sixteen) in
      omega (arith, most, shift-is i low, late-small mask i, slice_index-le-greatest image.shifts (partner mask i))

  stands : IsImage d lanes (phased_image mask image)
  stands = record {
    sixteen = (length-for_each 16 (λ l. slice_index image.order (partner mask l)), sixteen);
    in_range = λ l low. omega (arith, order-is l low, is.in_range (partner mask l) (partner-low mask l low));
    apart = λ l m low small e. partner-apart mask l m (is.apart (partner mask l) (partner mask m) (partner-low mask l low) (partner-low mask m small)
        (sym (order-is l low) ∙ e ∙ order-is m small));
    ends = omega (arith, same_length, least-below, room);
  }

  places : (l n m : ℕ) → l < 16 → StandsFor (phased_image mask image) l n m ↔ StandsFor image (partner mask l) (n + late mask l) m
  places l n m low = (λ e. omega (arith, e, shift-is l low), λ e. omega (arith, e, shift-is l low))

pub phased_is_an_image : PhasedIsAnImage
phased_is_an_image mask c d lanes image is room has = record {
  same_length = same_length mask c d lanes image is room has;
  stands = stands mask c d lanes image is room has;
  skew = omega (arith, least-above mask c d lanes image is room has, greatest-below mask c d lanes image is room has);
  places = places mask c d lanes image is room has;
  bits = bits mask c d lanes image is room has;
}

pub headline_of_phased : HeadlineOfPhased 15
headline_of_phased mask columns c d image skew octets is room has small limit lock =
    let phased = phased_is_an_image mask c d (carried d.period columns) image is room has in
    headline_within 15 (omega arith) columns d (phased_image mask image) skew
    (record { octets = octets; stands = phased.stands; within = small; limit = limit }) lock
