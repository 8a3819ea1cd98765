-- What an impairer holds of the lanes.
use Rattle.std.specs.Prelude.{◌≡◌, ℕ, ◌+◌, ◌-◌, ◌*◌, ◌<◌, ◌≤◌, ◌++◌, Bool, nat_eq, nat_le, nat_lt, ◌&&◌, if◌then◌else◌, List, [], length, slice_index, slice_index_or, slice_range, slice_set, bit_or}
use Rattle.bit_lists.specs.Bits.{number, IsBits}

-- octet k of a list of bits, with zeros past the end
unfoldable pub octet_at : List ℕ → ℕ → ℕ
octet_at xs k = number (slice_range xs (8 * k) (8 * k + 8))

-- The next rows of sixteen octets, the most there can be, the number of bits that came of each lane, and the number of the rows given.
pub record Held : Type 0 where
  pub rows : List (List ℕ)
  pub room : ℕ
  pub lengths : List ℕ
  pub given : ℕ

-- an octet of a row
abbrev pub row_octet : List (List ℕ) → ℕ → ℕ → ℕ
row_octet rows i l = slice_index (slice_index_or rows i []) l

-- the bits of an octet set in a row
abbrev pub with_octet : List ℕ → ℕ → ℕ → List ℕ
with_octet row lane octet = slice_set row lane (bit_or (slice_index row lane) octet)

-- the same in one of the rows, by its number from the first row on, where it is there
abbrev pub with_row_octet : Held → ℕ → ℕ → ℕ → List (List ℕ)
with_row_octet s number lane octet =
    let i = number - s.given in
    if nat_le s.given number && nat_lt i (length s.rows) then slice_set s.rows i (with_octet (slice_index_or s.rows i []) lane octet)
    else s.rows

-- a row put in the place of one of the rows, by its number from the first row on, where it is there
abbrev pub with_row : Held → ℕ → List ℕ → List (List ℕ)
with_row s number row =
    let i = number - s.given in if nat_le s.given number && nat_lt i (length s.rows) then slice_set s.rows i row else s.rows

-- a lane has so many whole octets, and no bit more
abbrev pub is_at : List ℕ → ℕ → ℕ → Bool
is_at lengths number l = nat_eq (slice_index lengths l) (8 * number)

-- the rows have the octets of a lane, whose bits so far are xs
pub record HoldsLane (s : Held) (l : ℕ) (xs : List ℕ) : Type 0 where
  pub are_bits : IsBits xs
  pub size : slice_index s.lengths l ≡ length xs
  pub octets : (i : ℕ) → i < length s.rows → row_octet s.rows i l ≡ octet_at xs (s.given + i)

-- what holds of the fields of all rows: sixteen lanes
pub record IsHeld (rows : List (List ℕ)) (lengths : List ℕ) : Type 0 where
  pub lanes : length lengths ≡ 16
  pub each : (i : ℕ) → i < length rows → length (slice_index_or rows i []) ≡ 16

-- Each lane has what it had, and more behind it; the rows stay as many.
pub record Grows (old new : Held) (more : ℕ → List ℕ) : Type 0 where
  pub lanes : (l : ℕ) (xs : List ℕ) → l < 16 → HoldsLane old l xs → HoldsLane new l (xs ++ more l)
  pub rest : new ≡ record old { rows = new.rows; lengths = new.lengths }
  pub count : length new.rows ≡ length old.rows
  pub most : (l : ℕ) → slice_index new.lengths l ≤ slice_index old.lengths l + 8
