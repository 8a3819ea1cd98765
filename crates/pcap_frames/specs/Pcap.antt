-- The records of a pcap file.
use Rattle.std.specs.Prelude.{◌≡◌, ℕ, ◌≤◌, Bool, not, ◌&&◌, ◌||◌, ◌==◌, true, false, nat_lt, if◌then◌else◌, List, [], ◌∷◌, ◌++◌, length, take, drop, replicate, Option, Some, None, Result, Ok, Err, All}
use Rattle.std.specs.List.{flat_map}
use Rattle.byteorder.specs.Endian.{big_number, little_number, little_bytes}
use Rattle.pcs_io.specs.declared.header.BadHeader.{BadHeader}
use Rattle.pcap_frames.specs.declared.number.Order.{Order}
use Rattle.pcap_frames.specs.declared.number.Order.TheVariants.{Little, Big}
use Rattle.pcap_frames.specs.declared.fault.RecordKind.{RecordKind}
use Rattle.pcap_frames.specs.declared.fault.RecordKind.TheVariants.{Long, Cut}

-- the number of four octets at a place
abbrev pub number : Order → List ℕ → ℕ → ℕ
number Little octets place = little_number 4 (drop place octets)
number Big octets place = big_number 4 (drop place octets)

-- A1B2C3D4, or A1B23C4D
abbrev pub is_magic : ℕ → Bool
is_magic n = (n == 2712847316) || (n == 2712812621)

-- the order in which the first four octets are a magic
abbrev pub order_of : List ℕ → Option Order
order_of octets = if is_magic (number Big octets 0) then Some Big else if is_magic (number Little octets 0) then Some Little else None

-- what some octets begin with
pub data HeaderAt : Type 0 where
  -- a header with numbers in this order, and what comes after it
  Whole : (order : Order) (rest : List ℕ) → HeaderAt
  -- twenty-four octets that are no header
  Wrong : (bad : BadHeader) → HeaderAt
  -- the header isn't whole
  Short : HeaderAt

-- behind the magic, the link type at place 20 is looked at
abbrev pub linked : Option Order → List ℕ → Result Order BadHeader
linked None octets = Err (record { place = 0; cut = false })
linked (Some order) octets = if number order octets 20 == 1 then Ok order else Err (record { place = 20; cut = false })

-- the order that a header of twenty-four octets tells, or the first field that is wrong
abbrev pub order_in : List ℕ → Result Order BadHeader
order_in octets = linked (order_of octets) octets

abbrev pub settled : Result Order BadHeader → List ℕ → HeaderAt
settled (Ok order) rest = Whole order rest
settled (Err bad) rest = Wrong bad

abbrev pub header_at : List ℕ → HeaderAt
header_at octets = if nat_lt (length octets) 24 then Short else settled (order_in octets) (drop 24 octets)

-- how many octets of a frame are recorded, and how many it had
abbrev pub recorded : Order → List ℕ → ℕ
recorded order octets = number order octets 8

abbrev pub original : Order → List ℕ → ℕ
original order octets = number order octets 12

-- what stands at the front of some octets behind the header
pub data RecordAt : Type 0 where
  -- a record of this frame, and what comes after it
  Record : (frame : List ℕ) (rest : List ℕ) → RecordAt
  -- a record with lengths that can't be
  Refused : (kind : RecordKind) → RecordAt
  -- a record may have begun, and isn't over
  Open : RecordAt

-- how many octets are recorded behind these sixteen, or what is wrong with the lengths
abbrev pub frame_length : Order → Bool → List ℕ → Result ℕ RecordKind
frame_length order short octets =
    if nat_lt 16384 (recorded order octets) then Err Long
    else if nat_lt (recorded order octets) (original order octets) && not short then Err Cut
    else Ok (recorded order octets)

-- a frame of this length, where it is whole
abbrev pub frame_at : Result ℕ RecordKind → List ℕ → RecordAt
frame_at (Ok count) octets = if nat_lt (length octets) count then Open else Record (take count octets) (drop count octets)
frame_at (Err kind) octets = Refused kind

-- sixteen octets with the lengths, and then the recorded ones
abbrev pub record_at : Order → Bool → List ℕ → RecordAt
record_at order short octets = if nat_lt (length octets) 16 then Open else frame_at (frame_length order short octets) (drop 16 octets)

-- a record is over, or refused
abbrev pub is_over : RecordAt → Bool
is_over (Record frame rest) = true
is_over (Refused kind) = true
is_over Open = false

-- the octets are records of these frames, and then the rest
abbrev pub Begins : Order → Bool → List ℕ → List (List ℕ) → List ℕ → Type 0
Begins order short octets [] rest = octets ≡ rest
Begins order short octets (frame ∷ frames) rest =
    (after : List ℕ) × (record_at order short octets ≡ Record frame after) × Begins order short after frames rest

-- the octets are a header, records of these frames, and then the rest
abbrev pub Opens : Order → Bool → List ℕ → List (List ℕ) → List ℕ → Type 0
Opens order short octets frames rest = (behind : List ℕ) × (header_at octets ≡ Whole order behind) × Begins order short behind frames rest

-- the octets are a whole file of these frames
abbrev pub Records : List ℕ → Bool → List (List ℕ) → Type 0
Records octets short frames = (order : Order) × Opens order short octets frames []

-- the header that is written: the magic, the version 2.4, eight zeros, the length 65,535 and the link type 1
abbrev pub header_octets : List ℕ
header_octets = 212 ∷ 195 ∷ 178 ∷ 161 ∷ 2 ∷ 0 ∷ 4 ∷ 0 ∷ 0 ∷ 0 ∷ 0 ∷ 0 ∷ 0 ∷ 0 ∷ 0 ∷ 0 ∷ 255 ∷ 255 ∷ 0 ∷ 0 ∷ 1 ∷ 0 ∷ 0 ∷ 0 ∷ []

-- what is written before a frame of this length
abbrev pub record_front : ℕ → List ℕ
record_front count = replicate 8 0 ++ little_bytes 4 count ++ little_bytes 4 count

abbrev pub record_octets : List ℕ → List ℕ
record_octets frame = record_front (length frame) ++ frame

-- the file that is written of some frames
abbrev pub pcap_octets : List (List ℕ) → List ℕ
pcap_octets frames = header_octets ++ flat_map record_octets frames

-- the records of what is written of some frames are these frames and no others
abbrev pub ReadsWhatIsWritten : Type 0
ReadsWhatIsWritten = (frames : List (List ℕ)) (short : Bool) → All (λ frame. length frame ≤ 16384) frames → Records (pcap_octets frames) short frames

-- a file has one list of records at most
abbrev pub HasOneReading : Type 0
HasOneReading = (octets : List ℕ) (short : Bool) (frames others : List (List ℕ)) → Records octets short frames → Records octets short others → frames ≡ others
