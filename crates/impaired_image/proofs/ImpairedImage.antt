-- What an impairer without drops makes of sent lanes is an image.
use Rattle.std.proofs.Common.{◌≡◌, ℕ, ◌+◌, ◌-◌, ◌*◌, ◌/◌, ◌%◌, ◌<◌, ◌≤◌, ◌++◌, List, [], length, replicate, sym, ap, ap₂, ◌∙◌, arith, length-append}
use Rattle.std.specs.Prelude.{count_by, slice_index, slice_index_or}
use Rattle.std.proofs.lemmas.List.{length-replicate, get_or_append_left, get_or-append_right}
use Rattle.bit_lists.specs.Bits.{bit}
use Rattle.bit_lists.specs.Places.{for_each, joined, greatest, smallest}
use Rattle.bit_lists.proofs.ByPlaces.{length-for_each, at-for_each}
use Rattle.bit_lists.proofs.Extremes.{attained}
use Rattle.pcs_bits.specs.Captures.{Capture, lane, bit_count}
use Rattle.lane_deskew.proofs.Aligned.{length-lane}
use Rattle.lane_impair.specs.declared.item.Item.{Item}
use Rattle.lane_impair.specs.Impairments.{inverts, inverted, takes_out, is_kept, kept_from, without_drops, changed, source, beat_count, filled, impaired}
use Rattle.lane_impair.specs.Impairments as items
use Rattle.lane_impair.proofs.MovedLanes.{changed_is}
use Rattle.lane_impair.proofs.Least.{ceil_holds, ceil_least, smallest_of, greatest_of, above_greatest}
use Rattle.mac_columns.specs.declared.column.Column.{Column}
use Rattle.pcs_send.specs.Transmission.{whole_pairs, pair_bits, pair_lane, carried}
use Rattle.pcs_send.proofs.SentLanes.{length-sent_lane}
use Rattle.pcs_receive.specs.Images.{StandsFor, IsImage, skew_of}
use Rattle.impaired_image.specs.ImpairedImage.{AreLanes, KeepsAll, image_of, HasImpaired, ImpairedIsAnImage}

module _ (c : Capture) (lanes : List (List ℕ)) (its : List Item) (n : ℕ) (are : AreLanes lanes n) (keeps : KeepsAll its)
    (has : HasImpaired c lanes its) where
  abbrev skew : ℕ → ℕ
  skew = items.skew_of its

  abbrev base : ℕ
  base = greatest (for_each 16 skew)

  abbrev body : ℕ → List ℕ
  body u = inverted its u (slice_index_or lanes u [])

  changed-is : (u : ℕ) → changed its lanes u ≡ replicate (skew u) 0 ++ body u
  changed-is u = changed_is lanes its keeps.no_drop u

  length-body : (u : ℕ) → u < 16 → length (body u) ≡ n
  unfolding inverted
  length-body u low = length-for_each (length (slice_index_or lanes u [])) _ ∙ are.each u low

  length-changed : (u : ℕ) → u < 16 → length (changed its lanes u) ≡ skew u + n
  length-changed u low =
      ap length (changed-is u) ∙ length-append (replicate (skew u) 0) (body u)
      ∙ ap₂ (λ a b. a + b) (length-replicate (skew u) 0) (length-body u low)

  abbrev longest : ℕ
  longest = greatest (for_each 16 (λ l. length (changed its lanes l)))

  longest-most : longest ≤ base + n
  longest-most = above_greatest (λ l. length (changed its lanes l)) (base + n) (λ l low. omega (arith, length-changed l low, greatest_of skew l low))

  beats-most : 8 * beat_count lanes its ≤ base + n + 7
  unfolding beat_count
  beats-most = omega (arith, ceil_least longest ((longest + 7) / 8) (omega arith), longest-most)

  pub beats-hold : (u : ℕ) → u < 16 → skew u + n ≤ 8 * beat_count lanes its
  unfolding beat_count
  beats-hold u low = omega (arith, ceil_holds longest, greatest_of (λ l. length (changed its lanes l)) u low, length-changed u low)

  lane-is : (l : ℕ) → l < 16 → lane c l ≡ filled (beat_count lanes its) (changed its lanes (source its l))
  unfolding impaired
  lane-is l low = has l low ∙ at-for_each 16 (λ l. filled (beat_count lanes its) (changed its lanes (source its l))) l [] low

  pub bits-many : bit_count c ≡ 8 * beat_count lanes its
  bits-many =
      let u = source its 0 in
      let low : u < 16 = keeps.in_range 0 (omega arith) in
      let own = changed its lanes u in
      sym (length-lane c 0) ∙ ap length (lane-is 0 (omega arith))
      ∙ length-append own (replicate (8 * beat_count lanes its - length own) 0)
      ∙ omega (arith, length-replicate {A = ℕ} (8 * beat_count lanes its - length own) 0, length-changed u low, beats-hold u low)

  shift-is : (l : ℕ) → l < 16 → slice_index (image_of its).shifts l ≡ base - skew (source its l)
  shift-is l low = at-for_each 16 (λ l. base - skew (source its l)) l 0 low

  order-is : (l : ℕ) → l < 16 → slice_index (image_of its).order l ≡ source its l
  order-is l low = at-for_each 16 (source its) l 0 low

  -- the lane with the greatest skew has the least offset
  least-shift : smallest (image_of its).shifts ≡ 0
  least-shift =
      let size = length-for_each 16 skew in
      let (u, there, most) = attained (for_each 16 skew) (omega (arith, size)) in
      let low : u < 16 = omega (arith, size, there) in
      let (l, small, from) = keeps.onto u low in
      let greatest_here : skew (source its l) ≡ base = ap skew from ∙ sym (at-for_each 16 skew u 0 low) ∙ most in
      omega (arith, smallest_of (λ l. base - skew (source its l)) l small, greatest_here)

  stands : IsImage c lanes (image_of its)
  stands = record {
    sixteen = (length-for_each 16 (source its), length-for_each 16 (λ l. base - skew (source its l)));
    in_range = λ l low. omega (arith, order-is l low, keeps.in_range l low);
    apart = λ l m low small e. keeps.apart l m low small (sym (order-is l low) ∙ e ∙ order-is m small);
    ends = omega (arith, bits-many, least-shift, beats-most, are.each 0 (omega arith));
  }

  skew-small : skew_of (image_of its) ≤ base - smallest (for_each 16 skew)
  skew-small =
      let most = above_greatest (λ l. base - skew (source its l)) (base - smallest (for_each 16 skew))
      (λ l low. omega (arith, smallest_of skew (source its l) (keeps.in_range l low))) in
      omega (arith, most)

  places : (l m : ℕ) → l < 16 → StandsFor (image_of its) l (skew (source its l) + m) m
  places l m low = omega (arith, shift-is l low, greatest_of skew (source its l) (keeps.in_range l low))

  bits-are : (l m : ℕ) → l < 16 → m < n
      → bit (lane c l) (skew (source its l) + m) ≡ (bit (slice_index_or lanes (source its l) []) m + count_by (inverts (source its l) m) its) % 2
  unfolding inverted
  bits-are l m low small =
      let u = source its l in
      let there : u < 16 = keeps.in_range l low in
      let own = changed its lanes u in
      let line = slice_index_or lanes u [] in
      let size : length (replicate {A = ℕ} (skew u) 0) ≡ skew u = length-replicate (skew u) 0 in
      let place : skew u + m - skew u ≡ m = omega arith in
      ap (λ bits. bit bits (skew u + m)) (lane-is l low)
      ∙ get_or_append_left own (replicate (8 * beat_count lanes its - length own) 0) 0 (skew u + m) (omega (arith, length-changed u there))
      ∙ ap (λ bits. bit bits (skew u + m)) (changed-is u)
      ∙ get_or-append_right (replicate (skew u) 0) (body u) (skew u) (skew u + m) 0 size (omega arith)
      ∙ ap (bit (body u)) place
      ∙ at-for_each (length line) (λ k. (bit line k + count_by (inverts u k) its) % 2) m 0 (omega (arith, are.each u there))

pub impaired_is_an_image : ImpairedIsAnImage
impaired_is_an_image c lanes its n are keeps has = record {
  stands = stands c lanes its n are keeps has;
  skew = skew-small c lanes its n are keeps has;
  places = places c lanes its n are keeps has;
  bits = bits-are c lanes its n are keeps has;
}

-- the lanes of a transmission
pub lanes-carried : (p : ℕ) (columns : List Column) → AreLanes (carried p columns) (680 * whole_pairs p (length columns))
unfolding carried
lanes-carried p columns = record {
  sixteen = length-for_each 16 (λ l. joined (whole_pairs p (length columns)) (λ t. pair_lane (pair_bits p columns t) l));
  each = λ l low. length-sent_lane p columns l low;
}
