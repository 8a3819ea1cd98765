-- A command that turns a header and the beats behind it into octets: what it answers, when, and what stands written. It reads a capture or a
-- file of levels. A definition whose name ends in `By` takes what says which header some octets begin with.
use Rattle.std.specs.Prelude.{◌≡◌, ℕ, ◌^◌, ◌<◌, ◌≤◌, ◌⊎◌, Bool, true, false, nat_lt, if◌then◌else◌, List, [], ◌++◌, length, Result, Ok, Err}
use Rattle.pcs_io.specs.Octets.{Told, Gives, AppendsFront}
use Rattle.pcs_io.specs.Histories.{octets_ahead}
use Rattle.pcs_io.specs.Captures.{History, BeatsState, Stands, Going, FrontAt, header_at, levels_header_at, Whole, Wrong, Short, OpensBy, OpensWholeBy, IsReadShort}
use Rattle.pcs_io.specs.declared.source.Failed.{Failed}
use Rattle.pcs_io.specs.declared.header.Header.{Header}
use Rattle.pcs_io.specs.declared.header.BadHeader.{BadHeader as Refusal}
use Rattle.pcs_io.specs.declared.levels_header.LevelsHeader.{LevelsHeader}
use Rattle.pcs_io.specs.declared.beats.Front.{Front}
use Rattle.pcs_io.specs.declared.beats.Front.TheVariants as front
use Rattle.pcs_drive.specs.Seen.{Seen, Took, TookAll, Written, WrittenFirst, ReadFailed, WriteFailed}
use Rattle.pcs_drive.specs.declared.outcome.Outcome.{Outcome}
use Rattle.pcs_drive.specs.declared.outcome.Outcome.TheVariants.{Done, ReadFault, WriteFault, NoMemory, BadHeader, Cut, NotAligned, TooLong}

-- what a command makes of beats: the text so far, the whole text at the end of the input, and whether the lanes were aligned (true where
-- the command doesn't ask for that)
pub record BeatsText : Type 0 where
  pub so_far : List (List ℕ) → List ℕ
  pub whole : List (List ℕ) → List ℕ
  pub is_aligned : List (List ℕ) → Bool

-- what it makes of the beats behind each header of a kind
abbrev pub TextBehind : Type 0 → Type 0
TextBehind X = X → BeatsText

abbrev pub CaptureText : Type 0
CaptureText = TextBehind Header

abbrev pub LevelsText : Type 0
LevelsText = TextBehind LevelsHeader

-- Behind octets that the reader had taken before, these were taken: all of them are its header, these beats, and so many octets.
pub record TookBeatsBy {X : Type 0} (at : List ℕ → FrontAt X) (before : List ℕ) (header : X) (seen : Seen) (beats : List (List ℕ)) (over : ℕ) : Type 0 where
  pub got : List ℕ
  pub took : Took seen got
  pub whole : OpensWholeBy at (before ++ got) header beats over

-- the same, and the input ended behind them and before the limit
pub record TookAllBeatsBy {X : Type 0} (at : List ℕ → FrontAt X) (before : List ℕ) (limit : ℕ) (header : X) (seen : Seen) (beats : List (List ℕ)) (over : ℕ) : Type 0 where
  pub got : List ℕ
  pub took : TookAll seen got
  pub short : length (before ++ got) < limit
  pub whole : OpensWholeBy at (before ++ got) header beats over

-- A write failed: a front of the text so far is written, or of the whole text where the input has ended.
abbrev pub BrokeOffBy : {X : Type 0} → (List ℕ → FrontAt X) → BeatsText → List ℕ → ℕ → X → Seen → List (List ℕ) → Type 0
BrokeOffBy at text before limit header seen beats =
    ((got rest : List ℕ) × Took seen got × (length (before ++ got) ≤ limit)
    × OpensBy at (before ++ got) header beats rest × AppendsFront seen.held_before seen.held_after (text.so_far beats))
    ⊎ ((over : ℕ) × TookAllBeatsBy at before limit header seen beats over × AppendsFront seen.held_before seen.held_after (text.whole beats))

-- Nothing was read; or when the source was read last the header hadn't come, or all text of the beats that had come was written.
abbrev pub KeptUpBy : {X : Type 0} → (List ℕ → FrontAt X) → BeatsText → List ℕ → X → Seen → Type 0
KeptUpBy at text before header seen =
    (seen.told_after ≡ seen.told_before)
    ⊎ ((early : List ℕ) × (seen.told_after.earlier ≡ seen.told_before.given ++ early)
    × ((at (before ++ early) ≡ Short)
    ⊎ ((beats : List (List ℕ)) × (over : ℕ) × OpensWholeBy at (before ++ early) header beats over × WrittenFirst seen (text.so_far beats))))

-- Behind the header each answer has its own condition, of the octets taken and the beats in front of them. `before` was taken and not
-- answered before, the header among it, and `limit` is that of the reader, above which nothing is taken. No other answer is given.
abbrev pub FromBeatsBy : {X : Type 0} → (List ℕ → FrontAt X) → BeatsText → List ℕ → ℕ → X → Seen → Outcome → Type 0
FromBeatsBy at text before limit header seen Done =
    (beats : List (List ℕ)) × TookAllBeatsBy at before limit header seen beats 0 × (text.is_aligned beats ≡ true) × Written seen (text.whole beats)
FromBeatsBy at text before limit header seen ReadFault =
    (beats : List (List ℕ)) × (over : ℕ) × ReadFailed seen × (taken : TookBeatsBy at before header seen beats over) × (length (before ++ taken.got) ≤ limit)
    × Written seen (text.so_far beats)
FromBeatsBy at text before limit header seen WriteFault =
    (beats : List (List ℕ)) × WriteFailed seen × BrokeOffBy at text before limit header seen beats × KeptUpBy at text before header seen
FromBeatsBy at text before limit header seen (Cut rest) =
    (beats : List (List ℕ)) × (0 < rest) × TookAllBeatsBy at before limit header seen beats rest × Written seen (text.whole beats)
FromBeatsBy at text before limit header seen NotAligned =
    (beats : List (List ℕ)) × TookAllBeatsBy at before limit header seen beats 0 × (text.is_aligned beats ≡ false) × Written seen (text.whole beats)
FromBeatsBy at text before limit header seen TooLong =
    (beats : List (List ℕ)) × (over : ℕ) × (taken : TookBeatsBy at before header seen beats over) × (length (before ++ taken.got) ≡ limit)
    × Written seen (text.so_far beats)
FromBeatsBy at text before limit header seen outcome = ⊥

-- where a write fails, the answer is that
abbrev pub FromBeatsOrBy : {X : Type 0} → (List ℕ → FrontAt X) → BeatsText → List ℕ → ℕ → X → Seen → Result Outcome Failed → Type 0
FromBeatsOrBy at text before limit header seen (Ok outcome) = FromBeatsBy at text before limit header seen outcome
FromBeatsOrBy at text before limit header seen (Err failed) = FromBeatsBy at text before limit header seen WriteFault

-- of a capture, and of a file of levels
abbrev pub FromBeats : BeatsText → List ℕ → ℕ → Header → Seen → Outcome → Type 0
FromBeats text before limit header seen outcome = FromBeatsBy header_at text before limit header seen outcome

abbrev pub FromLevelBeats : BeatsText → List ℕ → ℕ → LevelsHeader → Seen → Outcome → Type 0
FromLevelBeats text before limit header seen outcome = FromBeatsBy levels_header_at text before limit header seen outcome

-- The octets taken are no header: a field is wrong, and no more than a buffer was taken; or the input ended before they were whole.
abbrev pub IsNoHeaderBy : {X : Type 0} → (List ℕ → FrontAt X) → Seen → Refusal → Type 0
IsNoHeaderBy at seen bad =
    (octets : List ℕ)
    × ((Took seen octets × (at octets ≡ Wrong bad) × (length octets < 65600))
    ⊎ ((bad ≡ record { place = length octets; cut = true }) × TookAll seen octets × (length octets < 2 ^ 40) × (at octets ≡ Short)))

-- behind some header, all of this from the first octet on
abbrev pub BehindHeaderBy : {X : Type 0} → (List ℕ → FrontAt X) → TextBehind X → Seen → Outcome → Type 0
BehindHeaderBy {X} at text seen outcome = (header : X) × FromBeatsBy at (text header) [] (2 ^ 40) header seen outcome

-- Nothing was taken, or a header and no more than a buffer behind it.
abbrev pub TookHeaderBy : {X : Type 0} → (List ℕ → FrontAt X) → Seen → Type 0
TookHeaderBy {X} at seen =
    (octets : List ℕ) × Took seen octets × (length octets < 65600) × ((octets ≡ []) ⊎ ((header : X) × (rest : List ℕ) × (at octets ≡ Whole header rest)))

-- The answers of a command on a whole file. Memory is taken before the first octet or right behind the header. No other answer is given.
abbrev pub FromFileBy : {X : Type 0} → (List ℕ → FrontAt X) → TextBehind X → Seen → Outcome → Type 0
FromFileBy at text seen Done = BehindHeaderBy at text seen Done
FromFileBy at text seen ReadFault =
    ((octets : List ℕ) × ReadFailed seen × Took seen octets × (at octets ≡ Short) × Written seen []) ⊎ BehindHeaderBy at text seen ReadFault
FromFileBy at text seen WriteFault = BehindHeaderBy at text seen WriteFault
FromFileBy at text seen NoMemory = TookHeaderBy at seen × (seen.held_after ≡ seen.held_before)
FromFileBy at text seen (BadHeader bad) = IsNoHeaderBy at seen bad × Written seen []
FromFileBy at text seen (Cut rest) = BehindHeaderBy at text seen (Cut rest)
FromFileBy at text seen NotAligned = BehindHeaderBy at text seen NotAligned
FromFileBy at text seen TooLong = BehindHeaderBy at text seen TooLong
FromFileBy at text seen outcome = ⊥

-- on a whole capture, and on a whole file of levels
abbrev pub FromCapture : CaptureText → Seen → Outcome → Type 0
FromCapture text seen outcome = FromFileBy header_at text seen outcome

abbrev pub FromLevels : LevelsText → Seen → Outcome → Type 0
FromLevels text seen outcome = FromFileBy levels_header_at text seen outcome

-- the answer at the end of the input, by the octets behind its last whole beat
abbrev pub outcome_at_end : ℕ → Bool → Outcome
outcome_at_end rest aligned = if nat_lt 0 rest then Cut rest else if aligned then Done else NotAligned

-- A reader has its header, which it keeps as this front, and no beat was asked for.
pub record HasHeaderBy {X : Type 0} (at : List ℕ → FrontAt X) (read_as : X → Front) (beats : BeatsState) (h : History) (header : X) : Type 0 where
  pub stands : Stands beats h
  pub read : beats.front ≡ read_as header
  pub none : h.beats ≡ []
  pub going : h.course ≡ Going
  pub begins : (rest : List ℕ) × OpensBy at h.octets header [] rest
  pub limit : h.limit ≤ 2 ^ 40
  pub ahead : octets_ahead beats.reader ≤ 2 ^ 40

abbrev pub HasHeader : BeatsState → History → Header → Type 0
HasHeader beats h header = HasHeaderBy header_at front.Read beats h header

abbrev pub HasLevelsHeader : BeatsState → History → LevelsHeader → Type 0
HasLevelsHeader beats h header = HasHeaderBy levels_header_at front.ReadLevels beats h header

-- A reader was opened with the usual limit, has taken these octets from a source, and has its header.
pub record HasOpenedBy {X : Type 0} (at : List ℕ → FrontAt X) (read_as : X → Front) (beats : BeatsState) (header : X) (told_before told_after : Told) : Type 0 where
  pub history : History
  pub has : HasHeaderBy at read_as beats history header
  pub limit : history.limit ≡ 2 ^ 40
  pub took : Gives told_before told_after history.octets
  pub asked : IsReadShort at told_before told_after
  pub few : length history.octets < 65600

abbrev pub HasOpened : BeatsState → Header → Told → Told → Type 0
HasOpened beats header told_before told_after = HasOpenedBy header_at front.Read beats header told_before told_after

abbrev pub HasOpenedLevels : BeatsState → LevelsHeader → Told → Told → Type 0
HasOpenedLevels beats header told_before told_after = HasOpenedBy levels_header_at front.ReadLevels beats header told_before told_after
