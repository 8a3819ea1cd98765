-- The form of a block line, apart from how it is read.
use Rattle.std.specs.Prelude.{◌≡◌, ℕ, List, [], ◌∷◌, ◌++◌, length, codes, Ok, ◌↔◌, if◌then◌else◌}
use Rattle.std.specs.Int.{from_le_bytes, w64}
use Rattle.hex.specs.Hex.{decode_of}
use Rattle.pcs_io.specs.declared.fault.Kind.{Kind}
use Rattle.pcs_io.specs.declared.block_lines.BlockLine.{BlockLine}
use Rattle.pcs_io.specs.Grammars.{Line, Refused, Open}
use Rattle.pcs_io.specs.BlockLines.{block_line_at}

-- the sync bits, a space, the hexadecimal digits of eight octets in either case, of which the first is the lowest of the payload, and a newline
pub record IsBlockLine (text : List ℕ) (line : BlockLine) : Type 0 where
  pub digits : List ℕ
  pub octets : List ℕ
  pub spelled : text ≡ (if line.control then codes "10 " else codes "01 ") ++ (digits ++ 10 ∷ [])
  pub decoded : decode_of digits ≡ Ok octets
  pub eight : length octets ≡ 8
  pub payload : line.payload ≡ from_le_bytes w64 octets

-- what is read as a line is of that form, and each text of that form is read so, whatever follows it
abbrev pub ReadsBlocks : Type 0
ReadsBlocks = (octets : List ℕ) (line : BlockLine) (rest : List ℕ) → (block_line_at octets ≡ Line line rest) ↔ ((text : List ℕ) × IsBlockLine text line × (octets ≡ text ++ rest))

-- octets that are open can become a line, and octets that are refused begin none
abbrev pub RefusesBlocksAtTheFirst : Type 0
RefusesBlocksAtTheFirst =
    ((octets : List ℕ) → block_line_at octets ≡ Open → (more : List ℕ) × (line : BlockLine) × (block_line_at (octets ++ more) ≡ Line line []))
    × ((octets more : List ℕ) (kind : Kind) (line : BlockLine) (rest : List ℕ) → block_line_at octets ≡ Refused kind → block_line_at (octets ++ more) ≡ Line line rest → ⊥)
