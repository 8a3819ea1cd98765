-- What `demux` writes: a capture of version 2 with the period and the skew of the levels.
use Rattle.std.specs.Prelude.{◌≡◌, ℕ, true, List, ◌++◌}
use Rattle.std.specs.List.{flat_map}
use Rattle.pma_link.specs.Levels.{phased_beats, given_beats}
use Rattle.pma_link.specs.Histories.{DemuxStands}
use Rattle.pma_link.specs.declared.demux.Demux.{Demux}
use Rattle.pcs_io.specs.Headers.{header2_octets}
use Rattle.pcs_io.specs.declared.levels_header.LevelsHeader.{LevelsHeader}
use Rattle.pcs_drive.specs.CaptureCommand.{BeatsText, LevelsText}

-- the header, and then these beats
abbrev pub under_header : LevelsHeader → List (List ℕ) → List ℕ
under_header header beats = header2_octets header.period header.skew ++ flat_map (λ beat. beat) beats

-- At every time the beats that level beats carry at this phase are written, but the last of them only at the end. No alignment is asked for.
abbrev pub demultiplexed : ℕ → LevelsText
demultiplexed phase header = record {
  so_far = λ taken. under_header header (given_beats header.precode phase taken);
  whole = λ taken. under_header header (phased_beats header.precode phase taken);
  is_aligned = λ taken. true;
}

-- a demultiplexer that took these level beats, for this text
abbrev pub IsDemultiplexing : Demux → BeatsText → List (List ℕ) → Type 0
IsDemultiplexing demux text taken = (phase : ℕ) × (header : LevelsHeader) × (text ≡ demultiplexed phase header) × DemuxStands demux header.precode phase taken
