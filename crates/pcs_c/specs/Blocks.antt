-- What C means by blocks and wides.
use Rattle.std.specs.Prelude.{◌≡◌, ℕ, ◌==◌, ◌%◌, ◌<◌, not, true, false, List, [], ◌∷◌, map, length, slice_index, slice_index_or}
use Rattle.bit_lists.specs.Bits.{bit_of}
use Rattle.bit_lists.specs.Places.{flat}
use Rattle.pcs_bits.specs.Wides.{wide_bits}
use Rattle.block66.specs.declared.Block.{Block}
use Rattle.transcode257.specs.Wides.{wide_of, first_is_known}

-- a block of control, which is 0 for a data block and otherwise any number
abbrev pub block_meant : ℕ → ℕ → Block
block_meant control payload = record { control = not (control == 0); payload = payload }

abbrev pub blocks_meant : List ℕ → List ℕ → List Block
blocks_meant cs ps =
    block_meant (slice_index cs 0) (slice_index ps 0) ∷ block_meant (slice_index cs 1) (slice_index ps 1)
    ∷ block_meant (slice_index cs 2) (slice_index ps 2) ∷ block_meant (slice_index cs 3) (slice_index ps 3) ∷ []

-- the control of each block, 1 or 0, and its payload
abbrev pub AreBlocks : List Block → List ℕ → List ℕ → Type 0
AreBlocks blocks controls payloads =
    (controls ≡ map (λ block. bit_of block.control) blocks) × (payloads ≡ map (λ block. block.payload) blocks)

-- the bits of five words, of the last its lowest bit
abbrev pub wide_meant : List ℕ → List ℕ
wide_meant ws = wide_bits (slice_index ws 0 ∷ slice_index ws 1 ∷ slice_index ws 2 ∷ slice_index ws 3 ∷ slice_index ws 4 % 2 ∷ [])

-- five words with these bits, and no others
abbrev pub IsWide : List ℕ → List ℕ → Type 0
IsWide bits words = (wide_bits words ≡ bits) × (slice_index words 4 < 2)

-- the last word of each five is 0 or 1
abbrev pub HaveTops : List (List ℕ) → Type 0
HaveTops wides = (i : ℕ) → i < length wides → slice_index (slice_index_or wides i []) 4 < 2

-- wides, five words each, that have these bits together, and no others
abbrev pub AreWides : List ℕ → List (List ℕ) → Type 0
AreWides bits wides = (flat (map wide_bits wides) ≡ bits) × HaveTops wides

-- what joining four blocks writes and answers
abbrev pub IsJoined : List Block → List ℕ → List ℕ → ℕ → Type 0
IsJoined blocks old new status =
    (first_is_known blocks ≡ true → (status ≡ 0) × IsWide (wide_of blocks) new)
    × (first_is_known blocks ≡ false → (status ≡ 1) × (new ≡ old))
