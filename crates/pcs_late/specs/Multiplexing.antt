-- What `mux` writes: a file of levels with the period and the skew of the capture.
use Rattle.std.specs.Prelude.{◌≡◌, ℕ, Bool, true, List, ◌++◌}
use Rattle.std.specs.List.{flat_map}
use Rattle.pma_link.specs.Levels.{level_beats}
use Rattle.pma_link.specs.Histories.{MuxStands}
use Rattle.pma_link.specs.declared.mux.Mux.{Mux}
use Rattle.pcs_io.specs.LevelsHeaders.{levels_header_octets}
use Rattle.pcs_io.specs.declared.header.Header.{Header}
use Rattle.pcs_drive.specs.CaptureCommand.{BeatsText, CaptureText}

-- the header, and then the level beats
abbrev pub multiplexed_octets : Bool → Header → List (List ℕ) → List ℕ
multiplexed_octets precode header beats =
    levels_header_octets precode header.period header.skew ++ flat_map (λ beat. beat) (level_beats precode beats)

-- at every time the level beats of what was read are written, and no alignment is asked for
abbrev pub multiplexed : Bool → CaptureText
multiplexed precode header = record { so_far = multiplexed_octets precode header; whole = multiplexed_octets precode header; is_aligned = λ beats. true }

-- a multiplexer that took these beats, for this text
abbrev pub IsMultiplexing : Mux → BeatsText → List (List ℕ) → Type 0
IsMultiplexing mux text beats = (precode : Bool) × (header : Header) × (text ≡ multiplexed precode header) × MuxStands mux precode beats
