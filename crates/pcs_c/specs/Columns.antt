-- What C means by a column, and what it gets of a block and of a column.
use Rattle.std.specs.Prelude.{◌≡◌, ℕ, ◌==◌, nat_le, if◌then◌else◌, List, [], length, take, Option, Some, None}
use Rattle.bit_lists.specs.Bits.{bit_of}
use Rattle.mac_columns.specs.declared.column.Column.{Column}
use Rattle.mac_columns.specs.declared.column.Column.TheVariants.{Start, Data, End, Idle, Error, Set}
use Rattle.block66.specs.Blocks.{block_of, padded}

-- the column of a kind, a count, which only an end reads, and eight octets, of which the first ones are its own
abbrev pub column_meant : ℕ → ℕ → List ℕ → Option Column
column_meant kind count octets =
    if kind == 0 then Some (Data octets)
    else if kind == 1 then Some (Start (take 7 octets))
    else if kind == 2 then (if nat_le count 7 then Some (End (take count octets)) else None)
    else if kind == 3 then Some Idle
    else if kind == 4 then Some Error
    else if kind == 5 then Some (Set (take 3 octets))
    else None

abbrev pub kind_of : Column → ℕ
kind_of (Data octets) = 0
kind_of (Start octets) = 1
kind_of (End octets) = 2
kind_of Idle = 3
kind_of Error = 4
kind_of (Set octets) = 5

abbrev pub octets_of : Column → List ℕ
octets_of (Data octets) = octets
octets_of (Start octets) = octets
octets_of (End octets) = octets
octets_of Idle = []
octets_of Error = []
octets_of (Set octets) = octets

-- the kind of a column, how many octets it has, and its octets with zeros after them
abbrev pub IsColumn : Column → ℕ → ℕ → List ℕ → Type 0
IsColumn column kind count octets =
    (kind ≡ kind_of column) × (count ≡ length (octets_of column)) × (octets ≡ padded (octets_of column))

-- the block of a column as two numbers
abbrev pub IsBlockOf : Column → ℕ → ℕ → Type 0
IsBlockOf column control payload = (control ≡ bit_of (block_of column).control) × (payload ≡ (block_of column).payload)
