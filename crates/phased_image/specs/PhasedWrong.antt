-- The wrong symbols of phased lanes.
use Rattle.std.specs.Prelude.{◌≡◌, ℕ, ◌+◌, ◌*◌, ◌<◌, ◌≤◌, List, slice_index}
use Rattle.bit_lists.specs.Places.{smallest}
use Rattle.pcs_bits.specs.Captures.{Capture, bit_count}
use Rattle.pcs_receive.specs.Images.{Image, IsImage, sent_length, wrong_a, wrong_b}
use Rattle.phased_image.specs.PhasedImage.{phased_image, IsPhased}

-- every lane of the image begins at or before sent place m
abbrev pub BeginsBy : Image → ℕ → Type 0
BeginsBy image m = (l : ℕ) → l < 16 → slice_index image.shifts l ≤ m + image.base

-- The codewords of a sent pair arrive with as many wrong symbols as without the phases, if the phased lanes begin by the pair.
abbrev pub PhasesKeepWrong : Type 0
PhasesKeepWrong =
    (mask : ℕ) (c d : Capture) (lanes : List (List ℕ)) (image : Image) (t : ℕ) → IsImage c lanes image
    → bit_count c + smallest image.shifts ≤ image.base + sent_length lanes + 678
    → IsPhased mask c d → BeginsBy (phased_image mask image) (680 * t)
    → (wrong_a d lanes (phased_image mask image) t ≡ wrong_a c lanes image t) × (wrong_b d lanes (phased_image mask image) t ≡ wrong_b c lanes image t)
