-- What C gets of levels.
use Rattle.std.specs.Prelude.{◌≡◌, ℕ, ◌+◌, ◌*◌, ◌<◌, Bool, List, slice_index}
use Rattle.bit_lists.specs.Bits.{bits}
use Rattle.pma_link.specs.Levels.{by_turns, gray_numbers, bits_of_grays, coded, uncoded, eight}
use Rattle.pma_link.specs.Histories.{last_level}

-- the eight bits of each of the two lanes of level lane j, by turns
abbrev pub turns_of : List ℕ → ℕ → List ℕ
turns_of beat j = by_turns (bits 8 (slice_index beat (2 * j))) (bits 8 (slice_index beat (2 * j + 1)))

-- in each level lane the eight levels of a beat after the last level of a level beat
abbrev pub AreLevelsOf : Bool → List ℕ → List ℕ → List ℕ → Type 0
AreLevelsOf precode last beat levels =
    (j : ℕ) → j < 8 → eight levels j ≡ coded precode (last_level last j) (gray_numbers (turns_of beat j))

-- in each level lane the bits that eight levels stand for
abbrev pub IsBeatOf : Bool → List ℕ → List ℕ → List ℕ → Type 0
IsBeatOf precode last levels beat =
    (j : ℕ) → j < 8 → turns_of beat j ≡ bits_of_grays (uncoded precode (last_level last j) (eight levels j))
