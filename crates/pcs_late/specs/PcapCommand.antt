-- What `pcap` answers, both ways.
use Rattle.std.specs.Prelude.{◌≡◌, ◌⊎◌, ℕ, Bool, true, false, List}
use Rattle.pcs_io.specs.Grammars.{AreLines}
use Rattle.pcs_io.specs.TextLines.{text_line_at}
use Rattle.pcap_frames.specs.Pcap.{Records}
use Rattle.pcs_drive.specs.Seen.{Seen, Untouched}
use Rattle.pcs_drive.specs.LineCommand.{OrNoMemory}
use Rattle.pcs_drive.specs.declared.outcome.Outcome.{Outcome}
use Rattle.pcs_drive.specs.declared.outcome.Outcome.TheVariants.{NoMemory}
use Rattle.pcs_late.specs.Unpacking.{Unpacked}
use Rattle.pcs_late.specs.Packing.{Packed}
use Rattle.pcs_late.specs.declared.pcap_outcome.PcapOutcome.{PcapOutcome}
use Rattle.pcs_late.specs.declared.pcap_outcome.PcapOutcome.TheVariants.{Usual}

-- with this gap, whether cut records are frames, and whether frame text becomes a pcap file
abbrev pub PcapAnswers : ℕ → Bool → Bool → Seen → PcapOutcome → Type 0
PcapAnswers gap short true seen outcome = (usual : Outcome) × (outcome ≡ Usual usual) × OrNoMemory Packed seen usual
PcapAnswers gap short false seen outcome = Unpacked gap short seen outcome ⊎ ((outcome ≡ Usual NoMemory) × Untouched seen)

-- the input is in the grammar of its way
abbrev pub IsPcapInput : Bool → Bool → List ℕ → Type 0
IsPcapInput short true octets = (frames : List (List ℕ)) × AreLines text_line_at octets frames
IsPcapInput short false octets = (frames : List (List ℕ)) × Records octets short frames
