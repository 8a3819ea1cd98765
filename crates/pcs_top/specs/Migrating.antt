-- What `migrate` writes: a capture of version 2 with the same period and beats.
use Rattle.std.specs.Prelude.{ℕ, min, List, ◌++◌, true}
use Rattle.std.specs.List.{flat_map}
use Rattle.pcs_io.specs.Headers.{header2_octets}
use Rattle.pcs_io.specs.declared.header.Header.{Header}
use Rattle.pcs_drive.specs.CaptureCommand.{CaptureText}

-- the header of the capture that has the smaller of this skew and its own
abbrev pub migrated_header : ℕ → Header → List ℕ
migrated_header skew header = header2_octets header.period (min skew header.skew)

-- what that header tells
abbrev pub header_migrated : ℕ → Header → Header
header_migrated skew header = record { version = 2; period = header.period; skew = min skew header.skew }

-- the header, and then the same beats
abbrev pub migrated_octets : ℕ → Header → List (List ℕ) → List ℕ
migrated_octets skew header beats = migrated_header skew header ++ flat_map (λ beat. beat) beats

-- at every time what was read is written, and no alignment is asked for
abbrev pub migrated : ℕ → CaptureText
migrated skew header = record { so_far = migrated_octets skew header; whole = migrated_octets skew header; is_aligned = λ beats. true }
