-- The frames of a trial. A generator is the state of SplitMix64 from which its next word is made.
--     frame_of state, gap_of state    the frame that a generator makes next, and the gap behind it
--     trial_frames seed count         the frames that it makes of a seed, each with its gap
use Rattle.std.specs.Prelude.{ℕ, zero, suc, ◌+◌, ◌/◌, ◌%◌, ◌^◌, List, [], ◌∷◌, take}
use Rattle.std.specs.Int.{to_le_bytes, w64, div_ceil}
use Rattle.bit_lists.specs.Places.{joined}
use Rattle.mac_columns.specs.Items.{Item, frame_item}
use Rattle.lane_impair.specs.Noise.{state_after, word}

-- 64 to 1087 octets
unfoldable pub length_of : ℕ → ℕ
length_of state = 64 + word 0 state % 1024

-- one word for each eight octets or part of eight
abbrev pub words_of : ℕ → ℕ
words_of state = div_ceil (length_of state) 8

-- the octets of the words behind the first one, of each the lowest first
unfoldable pub frame_of : ℕ → List ℕ
frame_of state = take (length_of state) (joined (words_of state) (λ k. to_le_bytes w64 (word (k + 1) state)))

-- a fourth of the columns of the frame, one more, and up to seven more
unfoldable pub gap_of : ℕ → ℕ
gap_of state = (2 + length_of state / 8) / 4 + 1 + word 0 state / 2 ^ 10 % 8

-- the generator behind a frame
unfoldable pub behind_frame : ℕ → ℕ
behind_frame state = state_after (1 + words_of state) state

unfoldable pub trial_frames : ℕ → ℕ → List Item
trial_frames state zero = []
trial_frames state (suc count) = frame_item (frame_of state) (gap_of state) ∷ trial_frames (behind_frame state) count

-- the state of a generator, and the frame that was made last
pub record Made : Type 0 where
  pub state : ℕ
  pub frame : List ℕ
