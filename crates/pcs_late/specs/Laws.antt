-- What the commands of the levels say of one another, and that the input decides how `pcap` ends.
use Rattle.std.specs.Prelude.{◌≡◌, ◌≢◌, ℕ, ◌<◌, Bool, List, slice_index}
use Rattle.pma_link.specs.Levels.{level_beats}
use Rattle.pcs_io.specs.Captures.{OpensWhole, OpensWholeBy, levels_header_at}
use Rattle.pcs_io.specs.declared.header.Header.{Header}
use Rattle.pcs_io.specs.declared.levels_header.LevelsHeader.{LevelsHeader}
use Rattle.pcs_drive.specs.Seen.{Seen}
use Rattle.pcs_drive.specs.Deciding.{Given}
use Rattle.pcs_drive.specs.declared.outcome.Outcome.TheVariants.{ReadFault, WriteFault, NoMemory}
use Rattle.pcs_late.specs.PcapCommand.{PcapAnswers}
use Rattle.pcs_late.specs.declared.pcap_outcome.PcapOutcome.{PcapOutcome}
use Rattle.pcs_late.specs.declared.pcap_outcome.PcapOutcome.TheVariants.{Usual}
use Rattle.pcs_late.specs.Multiplexing.{multiplexed_octets}
use Rattle.pcs_late.specs.Demultiplexing.{under_header, demultiplexed}

-- the header of the levels of a capture
abbrev pub levels_header : Bool → Header → LevelsHeader
levels_header precode header = record { precode = precode; period = header.period; skew = header.skew }

-- What `mux` writes of a capture is a whole file of levels with the capture's period and skew. What `demux` writes of it at phase 0 is a
-- header of version 2 with this period and skew, and then the capture's own beats.
pub record IsCarried (precode : Bool) (header : Header) (beats : List (List ℕ)) : Type 0 where
  pub opens : OpensWholeBy levels_header_at (multiplexed_octets precode header beats) (levels_header precode header) (level_beats precode beats) 0
  pub back : (demultiplexed 0 (levels_header precode header)).whole (level_beats precode beats) ≡ under_header (levels_header precode header) beats

-- so is every whole capture
abbrev pub CapturesAreCarried : Type 0
CapturesAreCarried =
    (precode : Bool) (octets : List ℕ) (header : Header) (beats : List (List ℕ)) → ((k : ℕ) → slice_index octets k < 256)
    → OpensWhole octets header beats 0 → IsCarried precode header beats

-- no stream failed, and there was memory
pub record IsSettledPcap (outcome : PcapOutcome) : Type 0 where
  pub reads : outcome ≢ Usual ReadFault
  pub writes : outcome ≢ Usual WriteFault
  pub memory : outcome ≢ Usual NoMemory

-- two runs of `pcap` on this input end in the same way
abbrev pub PcapDecides : Type 0
PcapDecides =
    (gap : ℕ) (short write : Bool) (input : List ℕ) (one other : Seen) (first second : PcapOutcome) → Given one input → Given other input
    → PcapAnswers gap short write one first → PcapAnswers gap short write other second → IsSettledPcap first → IsSettledPcap second → first ≡ second
