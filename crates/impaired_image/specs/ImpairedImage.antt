-- The image that an impairer makes of sent lanes.
use Rattle.std.specs.Prelude.{◌≡◌, ℕ, ◌+◌, ◌-◌, ◌%◌, ◌<◌, ◌≤◌, List, [], length, count_by, slice_index_or}
use Rattle.bit_lists.specs.Bits.{bit}
use Rattle.bit_lists.specs.Places.{for_each, greatest, smallest}
use Rattle.pcs_bits.specs.Captures.{Capture, lane}
use Rattle.lane_impair.specs.declared.item.Item.{Item}
use Rattle.lane_impair.specs.Impairments.{inverts, source, impaired}
use Rattle.lane_impair.specs.Impairments as items
use Rattle.lane_impair.specs.Laws.{is_drop}
use Rattle.pcs_receive.specs.Images.{Image, StandsFor, IsImage, skew_of}

-- sixteen lanes of one length
pub record AreLanes (lanes : List (List ℕ)) (n : ℕ) : Type 0 where
  pub sixteen : length lanes ≡ 16
  pub each : (l : ℕ) → l < 16 → length (slice_index_or lanes l []) ≡ n

-- no item is a drop, and the order is a permutation of 0 to 15, as it is where there is none
pub record KeepsAll (its : List Item) : Type 0 where
  pub no_drop : count_by is_drop its ≡ 0
  pub in_range : (l : ℕ) → l < 16 → source its l < 16
  pub apart : (l m : ℕ) → l < 16 → m < 16 → source its l ≡ source its m → l ≡ m
  pub onto : (u : ℕ) → u < 16 → (l : ℕ) × (l < 16) × (source its l ≡ u)

-- the order of the items, and for each lane the skew of its source with the opposite sign
abbrev pub image_of : List Item → Image
image_of its =
    let base = greatest (for_each 16 (items.skew_of its)) in
    record { order = for_each 16 (source its); shifts = for_each 16 (λ l. base - items.skew_of its (source its l)); base = base }

-- the lanes of the capture are the impaired lanes
abbrev pub HasImpaired : Capture → List (List ℕ) → List Item → Type 0
HasImpaired c lanes its = (l : ℕ) → l < 16 → lane c l ≡ slice_index_or (impaired lanes its) l []

-- Such a capture is an image. Its skew is the greatest skew of the items less the least at most. The bit that stands for bit m of a
-- sent lane is that bit, inverted once for each item that inverts it.
pub record ImageOfItems (c : Capture) (lanes : List (List ℕ)) (its : List Item) (n : ℕ) : Type 0 where
  pub stands : IsImage c lanes (image_of its)
  pub skew : skew_of (image_of its) ≤ greatest (for_each 16 (items.skew_of its)) - smallest (for_each 16 (items.skew_of its))
  pub places : (l m : ℕ) → l < 16 → StandsFor (image_of its) l (items.skew_of its (source its l) + m) m
  pub bits : (l m : ℕ) → l < 16 → m < n
      → bit (lane c l) (items.skew_of its (source its l) + m)
      ≡ (bit (slice_index_or lanes (source its l) []) m + count_by (inverts (source its l) m) its) % 2

abbrev pub ImpairedIsAnImage : Type 0
ImpairedIsAnImage =
    (c : Capture) (lanes : List (List ℕ)) (its : List Item) (n : ℕ) → AreLanes lanes n → KeepsAll its → HasImpaired c lanes its
    → ImageOfItems c lanes its n
