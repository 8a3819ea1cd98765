-- The status of a run.
use Rattle.std.specs.Prelude.{◌≡◌, ℕ}
use Rattle.pcs_drive.specs.declared.outcome.Outcome.{Outcome}
use Rattle.pcs_drive.specs.declared.outcome.Outcome.TheVariants as outcome
use Rattle.pcs_late.specs.declared.pcap_outcome.PcapOutcome.{PcapOutcome}
use Rattle.pcs_late.specs.declared.pcap_outcome.PcapOutcome.TheVariants.{Usual, BadRecord as Refused}
use Rattle.pcs_top.specs.declared.status.Status.{Status}
use Rattle.pcs_top.specs.declared.status.Status.TheVariants.{Done, Usage, ReadFault, WriteFault, NoMemory, BadLine, BadHeader, TooTight, Cut, NotAligned, TooLong, NotesFault, BadRecord}

-- the exit status
abbrev pub number_of : Status → ℕ
number_of Done = 0
number_of (Usage cause) = 2
number_of ReadFault = 3
number_of WriteFault = 4
number_of NoMemory = 5
number_of (BadLine number kind) = 6
number_of (BadHeader bad) = 7
number_of (TooTight frame) = 8
number_of (Cut rest) = 9
number_of NotAligned = 10
number_of TooLong = 11
number_of (NotesFault instead) = 12
number_of (BadRecord number kind) = 13

-- the status that a command's outcome brings
abbrev pub status_of : Outcome → Status
status_of outcome.Done = Done
status_of outcome.ReadFault = ReadFault
status_of outcome.WriteFault = WriteFault
status_of outcome.NoMemory = NoMemory
status_of (outcome.BadLine number kind) = BadLine number kind
status_of (outcome.BadHeader bad) = BadHeader bad
status_of (outcome.TooTight frame) = TooTight frame
status_of (outcome.Cut rest) = Cut rest
status_of outcome.NotAligned = NotAligned
status_of outcome.TooLong = TooLong

-- the status is that of an outcome for which this holds
abbrev pub ByOutcome : (Outcome → Type 0) → Status → Type 0
ByOutcome Answers status = (outcome : Outcome) × (status ≡ status_of outcome) × Answers outcome

-- and the one that an outcome of `pcap` brings
abbrev pub status_of_pcap : PcapOutcome → Status
status_of_pcap (Usual outcome) = status_of outcome
status_of_pcap (Refused number kind) = BadRecord number kind

abbrev pub ByPcapOutcome : (PcapOutcome → Type 0) → Status → Type 0
ByPcapOutcome Answers status = (outcome : PcapOutcome) × (status ≡ status_of_pcap outcome) × Answers outcome
