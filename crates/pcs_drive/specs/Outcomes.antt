-- The outcome that a reader's fault brings.
use Rattle.pcs_io.specs.declared.fault.InFault.{InFault}
use Rattle.pcs_io.specs.declared.fault.InFault.TheVariants as fault
use Rattle.pcs_io.specs.declared.beats.CapFault.{CapFault}
use Rattle.pcs_io.specs.declared.beats.CapFault.TheVariants as cap
use Rattle.pcs_drive.specs.declared.outcome.Outcome.{Outcome}
use Rattle.pcs_drive.specs.declared.outcome.Outcome.TheVariants.{ReadFault, BadLine, BadHeader, TooLong}

-- of a reader of lines
abbrev pub outcome_of : InFault → Outcome
outcome_of fault.Read = ReadFault
outcome_of (fault.BadLine number kind) = BadLine number kind
outcome_of fault.TooLong = TooLong

-- of a reader of captures
abbrev pub outcome_of_capture : CapFault → Outcome
outcome_of_capture cap.Read = ReadFault
outcome_of_capture (cap.BadHeader bad) = BadHeader bad
outcome_of_capture cap.TooLong = TooLong
