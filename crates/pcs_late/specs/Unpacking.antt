-- What `pcap` makes of a pcap file: a frame line for each record.
use Rattle.std.specs.Prelude.{◌≡◌, ℕ, ◌+◌, ◌^◌, ◌<◌, ◌≤◌, ◌⊎◌, Bool, true, List, [], ◌∷◌, ◌++◌, length, codes, decimal, None, Result, Ok, Err}
use Rattle.std.specs.List.{flat_map}
use Rattle.hex.specs.Hex.{encode_lower}
use Rattle.pcs_io.specs.Octets.{AppendsFront}
use Rattle.pcs_io.specs.declared.source.Failed.{Failed}
use Rattle.pcs_io.specs.declared.header.BadHeader.{BadHeader as Refusal}
use Rattle.pcap_frames.specs.Pcap.{header_at, Wrong, Short, record_at, Refused, Open, Opens, Records}
use Rattle.pcap_frames.specs.Histories.{PcapState, Stands, EndOpen, opened}
use Rattle.pcap_frames.specs.declared.number.Order.{Order}
use Rattle.pcap_frames.specs.declared.fault.PcapFault.{PcapFault}
use Rattle.pcap_frames.specs.declared.fault.PcapFault.TheVariants as fault
use Rattle.pcap_frames.specs.declared.fault.RecordKind.{RecordKind}
use Rattle.pcap_frames.specs.declared.fault.RecordKind.TheVariants.{Ended}
use Rattle.pcap_frames.specs.declared.reader.Standing.TheVariants.{Going}
use Rattle.pcs_drive.specs.Seen.{Seen, Took, TookAll, Written, WrittenFirst, ReadFailed, WriteFailed}
use Rattle.pcs_drive.specs.declared.outcome.Outcome.TheVariants.{Done, ReadFault, WriteFault, BadHeader, TooLong}
use Rattle.pcs_late.specs.declared.pcap_outcome.PcapOutcome.{PcapOutcome}
use Rattle.pcs_late.specs.declared.pcap_outcome.PcapOutcome.TheVariants.{Usual, BadRecord}

-- the outcome that a fault of the reader brings
abbrev pub outcome_of_pcap : PcapFault → PcapOutcome
outcome_of_pcap fault.Read = Usual ReadFault
outcome_of_pcap (fault.BadHeader bad) = Usual (BadHeader bad)
outcome_of_pcap (fault.BadRecord number kind) = BadRecord number kind
outcome_of_pcap fault.TooLong = Usual TooLong

-- the reader was opened with the usual limit, and had no other call
pub record IsOpened (reader : PcapState) (short : Bool) : Type 0 where
  pub stands : Stands reader (opened (2 ^ 40) short)
  pub unread : reader.order ≡ None
  pub going : reader.standing ≡ Going

-- the gap, a space, the octets in lower-case hexadecimal digits, and a newline
abbrev pub frame_line : ℕ → List ℕ → List ℕ
frame_line gap frame = decimal gap ++ (codes " " ++ (encode_lower frame ++ 10 ∷ []))

unfoldable pub unpacked_text : ℕ → List (List ℕ) → List ℕ
unpacked_text gap frames = flat_map (frame_line gap) frames

-- The octets taken are no header: a field is wrong, and no more than a buffer was taken; or the input ended before they were whole.
abbrev pub IsNoHeader : Seen → Refusal → Type 0
IsNoHeader seen bad =
    (octets : List ℕ)
    × ((Took seen octets × (header_at octets ≡ Wrong bad) × (length octets < 65600))
    ⊎ ((bad ≡ record { place = length octets; cut = true }) × TookAll seen octets × (length octets < 2 ^ 40) × (header_at octets ≡ Short)))

-- The record behind these frames is refused by its lengths, and no more than a buffer was taken behind them; or the input ended in it.
abbrev pub IsBadRecord : Bool → Seen → List (List ℕ) → RecordKind → Type 0
IsBadRecord short seen frames kind =
    (octets : List ℕ) × (order : Order) × (rest : List ℕ) × Opens order short octets frames rest
    × ((Took seen octets × (length octets ≤ 2 ^ 40) × (record_at order short rest ≡ Refused kind) × (length rest < 65600))
    ⊎ ((kind ≡ Ended) × TookAll seen octets × (length octets < 2 ^ 40) × (record_at order short rest ≡ Open) × (0 < length rest)))

-- these octets were taken: a header, records of these frames, and no further record that is over
abbrev pub TookOpen : Bool → Seen → List ℕ → List (List ℕ) → Type 0
TookOpen short seen octets frames = Took seen octets × (order : Order) × EndOpen order short octets frames

-- Nothing was read, or when the source was read last the header wasn't whole, or all text of the records that had come was written.
abbrev pub KeptUp : ℕ → Bool → Seen → Type 0
KeptUp gap short seen =
    (seen.told_after ≡ seen.told_before)
    ⊎ ((early : List ℕ) × (seen.told_after.earlier ≡ seen.told_before.given ++ early)
    × ((header_at early ≡ Short)
    ⊎ ((order : Order) × (frames : List (List ℕ)) × EndOpen order short early frames × WrittenFirst seen (unpacked_text gap frames))))

-- Each answer has its own condition, of the octets taken, which are never more than the limit, and the records in front of them. No other
-- answer is given.
abbrev pub Unpacked : ℕ → Bool → Seen → PcapOutcome → Type 0
Unpacked gap short seen (Usual Done) =
    (octets : List ℕ) × (frames : List (List ℕ)) × TookAll seen octets × (length octets < 2 ^ 40) × Records octets short frames
    × Written seen (unpacked_text gap frames)
Unpacked gap short seen (Usual ReadFault) =
    ReadFailed seen × (octets : List ℕ)
    × ((Took seen octets × (header_at octets ≡ Short) × Written seen [])
    ⊎ ((frames : List (List ℕ)) × TookOpen short seen octets frames × (length octets ≤ 2 ^ 40) × Written seen (unpacked_text gap frames)))
Unpacked gap short seen (Usual WriteFault) =
    WriteFailed seen × (octets : List ℕ) × (frames : List (List ℕ)) × (order : Order) × (rest : List ℕ)
    × Took seen octets × (length octets ≤ 2 ^ 40) × Opens order short octets frames rest × AppendsFront seen.held_before seen.held_after (unpacked_text gap frames)
    × KeptUp gap short seen
Unpacked gap short seen (Usual (BadHeader bad)) = IsNoHeader seen bad × Written seen []
Unpacked gap short seen (Usual TooLong) =
    (octets : List ℕ) × (frames : List (List ℕ)) × TookOpen short seen octets frames × (length octets ≡ 2 ^ 40)
    × Written seen (unpacked_text gap frames)
Unpacked gap short seen (BadRecord number kind) =
    (frames : List (List ℕ)) × (number ≡ length frames + 1) × IsBadRecord short seen frames kind × Written seen (unpacked_text gap frames)
Unpacked gap short seen outcome = ⊥

-- where a write fails, the answer is that
abbrev pub Unpacks : ℕ → Bool → Seen → Result PcapOutcome Failed → Type 0
Unpacks gap short seen (Ok outcome) = Unpacked gap short seen outcome
Unpacks gap short seen (Err failed) = Unpacked gap short seen (Usual WriteFault)
