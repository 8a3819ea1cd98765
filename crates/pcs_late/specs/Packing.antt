-- What `pcap --write` makes of frame text: a pcap file.
use Rattle.std.specs.Prelude.{◌≡◌, ◌⊎◌, ℕ, List, ◌++◌, Option, IfSome}
use Rattle.std.specs.List.{flat_map}
use Rattle.pcs_io.specs.TextLines.{text_line_at}
use Rattle.pcap_frames.specs.Pcap.{header_octets, pcap_octets, record_octets}
use Rattle.pcs_drive.specs.Seen.{Seen}
use Rattle.pcs_drive.specs.LineCommand.{Converted}
use Rattle.pcs_drive.specs.declared.outcome.Outcome.{Outcome}

-- the records behind the header
unfoldable pub records_text : List (List ℕ) → List ℕ
records_text frames = flat_map record_octets frames

-- where octets are told before and after, these were appended first
abbrev pub AppendsFirst : Option (List ℕ) → Option (List ℕ) → List ℕ → Type 0
AppendsFirst before after first = IfSome before (λ xs. IfSome after (λ ys. (rest : List ℕ) × (ys ≡ xs ++ first ++ rest)))

-- The lines become a pcap file of their frames, whose header is written whole before an octet is taken.
pub record Packed (seen : Seen) (outcome : Outcome) : Type 0 where
  pub converted : Converted text_line_at pcap_octets seen outcome
  pub header_first : (seen.told_after ≡ seen.told_before) ⊎ AppendsFirst seen.held_before seen.held_after header_octets
