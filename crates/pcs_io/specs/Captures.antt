-- What a reader of captures was opened with, what it has taken and what it has answered. It reads captures and files of levels: these have
-- beats behind a header of another kind. A definition whose name ends in `By` takes what says which header some octets begin with.
use Rattle.std.specs.Prelude.{◌≡◌, ℕ, ◌*◌, ◌/◌, ◌%◌, ◌<◌, ◌⊎◌, Bool, nat_le, bytes_eq, if◌then◌else◌, List, [], ◌∷◌, ◌++◌, length, take, drop, codes, Option, Some, None, Result, Ok, Err, true, false}
use Rattle.std.specs.List.{flat_map}
use Rattle.std.proofs.Common.{inl, inr}
use Rattle.pcs_io.specs.Octets.{Gives, Told, TakesWhereTold}
use Rattle.pcs_io.specs.Grammars.{Begins}
use Rattle.pcs_io.specs.Beats.{beat_at, BeatParserState}
use Rattle.pcs_io.specs.Headers.{header_of, header2_of}
use Rattle.pcs_io.specs.LevelsHeaders.{levels_header_of}
use Rattle.pcs_io.specs.Histories.{ReaderState, Ends, octets_ahead}
use Rattle.pcs_io.specs.Histories as lines
use Rattle.pcs_io.specs.declared.fault.InFault.{InFault}
use Rattle.pcs_io.specs.declared.fault.InFault.TheVariants as fault
use Rattle.pcs_io.specs.declared.header.Header.{Header}
use Rattle.pcs_io.specs.declared.header.BadHeader.{BadHeader}
use Rattle.pcs_io.specs.declared.levels_header.LevelsHeader.{LevelsHeader}
use Rattle.pcs_io.specs.declared.reader.Standing.{Standing}
use Rattle.pcs_io.specs.declared.reader.Standing.TheVariants as reader
use Rattle.pcs_io.specs.declared.beats.BeatIn.{BeatIn}
use Rattle.pcs_io.specs.declared.beats.BeatIn.TheVariants.{Beat, End}
use Rattle.pcs_io.specs.declared.beats.CapFault.{CapFault}
use Rattle.pcs_io.specs.declared.beats.CapFault.TheVariants as cap
use Rattle.pcs_io.specs.declared.beats.Front.{Front}
use Rattle.pcs_io.specs.declared.beats.Front.TheVariants as front

-- what some octets begin with
pub data FrontAt (X : Type 0) : Type 0 where
  -- a header, and what comes after it
  Whole : (header : X) (rest : List ℕ) → FrontAt X
  -- sixteen or thirty-two octets that are no header
  Wrong : (bad : BadHeader) → FrontAt X
  -- the header isn't whole
  Short : FrontAt X

abbrev pub settled : {X : Type 0} → Result X BadHeader → List ℕ → FrontAt X
settled (Ok header) rest = Whole header rest
settled (Err bad) rest = Wrong bad

-- the magic and the version 2
abbrev pub is_version2 : List ℕ → Bool
is_version2 octets = bytes_eq (take 5 octets) (codes "P4LC" ++ 2 ∷ [])

-- a header of a capture has sixteen octets, and thirty-two behind the magic and 2
unfoldable pub header_at : List ℕ → FrontAt Header
header_at octets =
    if nat_le 16 (length octets) then
    (if is_version2 octets then (if nat_le 32 (length octets) then settled (header2_of (take 32 octets)) (drop 32 octets) else Short)
    else settled (header_of (take 16 octets)) (drop 16 octets))
    else Short

-- one of a file of levels always has thirty-two
unfoldable pub levels_header_at : List ℕ → FrontAt LevelsHeader
levels_header_at octets = if nat_le 32 (length octets) then settled (levels_header_of (take 32 octets)) (drop 32 octets) else Short

-- the octets are this header, these beats of sixteen octets, and then the rest
abbrev pub OpensBy : {X : Type 0} → (List ℕ → FrontAt X) → List ℕ → X → List (List ℕ) → List ℕ → Type 0
OpensBy at octets header beats rest = (behind : List ℕ) × (at octets ≡ Whole header behind) × Begins beat_at behind beats rest

abbrev pub Opens : List ℕ → Header → List (List ℕ) → List ℕ → Type 0
Opens octets header beats rest = OpensBy header_at octets header beats rest

-- the same, and the rest is no whole beat
abbrev pub OpensWholeBy : {X : Type 0} → (List ℕ → FrontAt X) → List ℕ → X → List (List ℕ) → ℕ → Type 0
OpensWholeBy at octets header beats over = (rest : List ℕ) × OpensBy at octets header beats rest × (length rest ≡ over) × (over < 16)

abbrev pub OpensWhole : List ℕ → Header → List (List ℕ) → ℕ → Type 0
OpensWhole octets header beats over = OpensWholeBy header_at octets header beats over

-- how the calls went: none was made, they go on, the input ended so many octets after its last whole beat, or a fault was answered
pub data Course : Type 0 where
  Unread : Course
  Going : Course
  Ended : ℕ → Course
  Failed : CapFault → Course

-- the limit, all octets taken, the beats answered, and how the calls went
pub record History : Type 0 where
  pub limit : ℕ
  pub octets : List ℕ
  pub beats : List (List ℕ)
  pub course : Course

-- nothing is taken or answered yet
abbrev pub opened : ℕ → History
opened limit = record { limit = limit; octets = []; beats = []; course = Unread }

-- the reader of pieces of sixteen octets, and whether the header was read
pub record BeatsState : Type 0 where
  pub reader : ReaderState BeatParserState
  pub front : Front

-- with a call of `header` or `levels_header`, which took these octets and answered so
abbrev pub header_told : {X : Type 0} → History → List ℕ → Result X CapFault → History
header_told h got (Ok header) = record h { octets = h.octets ++ got; course = Going }
header_told h got (Err fault) = record h { octets = h.octets ++ got; course = Failed fault }

-- with a call of `next`
abbrev pub beat_told : History → List ℕ → Result BeatIn CapFault → History
beat_told h got (Ok (Beat beat)) = record h { octets = h.octets ++ got; beats = h.beats ++ beat ∷ [] }
beat_told h got (Ok (End rest)) = record h { octets = h.octets ++ got; course = Ended rest }
beat_told h got (Err fault) = record h { octets = h.octets ++ got; course = Failed fault }

-- how the calls went, by where the reader of pieces stands and how many octets it took
abbrev pub course_of : Standing → ℕ → Course
course_of reader.Going taken = Going
course_of reader.Ended taken = Ended 0
course_of (reader.Failed fault.Read) taken = Failed cap.Read
course_of (reader.Failed (fault.BadLine number kind)) taken = Ended (taken % 16)
course_of (reader.Failed fault.TooLong) taken = Failed cap.TooLong

-- the pieces of the header are read as it, whatever follows them
abbrev pub IsHeaderBy : {X : Type 0} → (List ℕ → FrontAt X) → List (List ℕ) → X → Type 0
IsHeaderBy at pieces header = (rest : List ℕ) → at (flat_map (λ piece. piece) pieces ++ rest) ≡ Whole header rest

-- what the state says of the header and of the calls
abbrev pub StandsAt : Front → Standing → List (List ℕ) → History → Type 0
StandsAt front.Unread standing pieces h = (pieces ≡ []) × (standing ≡ reader.Going) × (h ≡ opened h.limit)
StandsAt front.Refused standing pieces h = Unit {0}
StandsAt (front.Read header) standing pieces h = IsHeaderBy header_at pieces header × (h.course ≡ course_of standing (length h.octets))
StandsAt (front.ReadLevels header) standing pieces h = IsHeaderBy levels_header_at pieces header × (h.course ≡ course_of standing (length h.octets))

-- the state is the one that the history leaves
pub record Stands (x : BeatsState) (h : History) : Type 0 where
  pub pieces : List (List ℕ)
  pub standing : Standing
  pub read : lines.Stands beat_at x.reader (record { limit = h.limit; octets = h.octets; lines = pieces ++ h.beats; standing = standing })
  pub at : StandsAt x.front standing pieces h

-- what `header` or `levels_header` answers, where it took these octets: `before` and `now` are what the source has left, and `ended` tells
-- whether its end was given
abbrev pub HeaderAnswersBy : {X : Type 0} → (List ℕ → FrontAt X) → ℕ → List ℕ → Told → Told → Bool → Result X CapFault → Type 0
HeaderAnswersBy at limit got before now ended (Ok header) = Gives before now got × (rest : List ℕ) × (at got ≡ Whole header rest)
HeaderAnswersBy at limit got before now ended (Err cap.Read) = TakesWhereTold before now got × (at got ≡ Short)
HeaderAnswersBy at limit got before now ended (Err (cap.BadHeader bad)) =
    (Gives before now got × (at got ≡ Wrong bad) × (length got < 65600))
    ⊎ ((bad ≡ record { place = length got; cut = true }) × Ends before now ended got × (length got < limit) × (at got ≡ Short))
HeaderAnswersBy at limit got before now ended (Err cap.TooLong) = Gives before now got × (length got ≡ limit) × (at got ≡ Short)

abbrev pub HeaderAnswers : ℕ → List ℕ → Told → Told → Bool → Result Header CapFault → Type 0
HeaderAnswers limit got before now ended answer = HeaderAnswersBy header_at limit got before now ended answer

-- what `next` answers, behind this header
abbrev pub BeatAnswersBy : {X : Type 0} → (List ℕ → FrontAt X) → History → X → List ℕ → Told → Told → Bool → Result BeatIn CapFault → Type 0
BeatAnswersBy at h header got before now ended (Ok (Beat beat)) =
    Gives before now got × (rest : List ℕ) × OpensBy at (h.octets ++ got) header (h.beats ++ beat ∷ []) rest
BeatAnswersBy at h header got before now ended (Ok (End over)) =
    Ends before now ended got × (length (h.octets ++ got) < h.limit) × OpensWholeBy at (h.octets ++ got) header h.beats over
BeatAnswersBy at h header got before now ended (Err cap.Read) =
    TakesWhereTold before now got × (over : ℕ) × OpensWholeBy at (h.octets ++ got) header h.beats over
BeatAnswersBy at h header got before now ended (Err (cap.BadHeader bad)) = ⊥
BeatAnswersBy at h header got before now ended (Err cap.TooLong) =
    Gives before now got × (length (h.octets ++ got) ≡ h.limit) × (over : ℕ) × OpensWholeBy at (h.octets ++ got) header h.beats over

abbrev pub BeatAnswers : History → Header → List ℕ → Told → Told → Bool → Result BeatIn CapFault → Type 0
BeatAnswers h header got before now ended answer = BeatAnswersBy header_at h header got before now ended answer

-- the source wasn't read, or when it was read last no header had come
abbrev pub IsReadShort : {X : Type 0} → (List ℕ → FrontAt X) → Told → Told → Type 0
IsReadShort at before now = (now ≡ before) ⊎ ((early : List ℕ) × (now.earlier ≡ before.given ++ early) × (at early ≡ Short))

-- the source wasn't read, or when it was read last the header and these beats had come, and no further beat
abbrev pub IsReadAfterBy : {X : Type 0} → (List ℕ → FrontAt X) → History → X → Told → Told → Type 0
IsReadAfterBy at h header before now =
    (now ≡ before)
    ⊎ ((early : List ℕ) × (now.earlier ≡ before.given ++ early) × (over : ℕ) × OpensWholeBy at (h.octets ++ early) header h.beats over)

-- a call of `next`: after the end or a fault it answers the same again, and does nothing
abbrev pub TellsBy : {X : Type 0} → (List ℕ → FrontAt X) → Course → History → X → BeatsState → BeatsState → Told → Told → Bool → Result BeatIn CapFault → Type 0
TellsBy at Unread h header old new before now ended answer = ⊥
TellsBy at Going h header old new before now ended answer =
    (got : List ℕ) × BeatAnswersBy at h header got before now ended answer × Stands new (beat_told h got answer)
TellsBy at (Ended over) h header old new before now ended answer = (answer ≡ Ok (End over)) × (new ≡ old) × (now ≡ before)
TellsBy at (Failed fault) h header old new before now ended answer = (answer ≡ Err fault) × (new ≡ old) × (now ≡ before)

abbrev pub Tells : Course → History → Header → BeatsState → BeatsState → Told → Told → Bool → Result BeatIn CapFault → Type 0
Tells course h header old new before now ended answer = TellsBy header_at course h header old new before now ended answer

-- the octets of the whole beats in front of some octets
abbrev pub whole_front : List ℕ → List ℕ
whole_front octets = take (length octets / 16 * 16) octets

-- all the beats among the unused octets are answered at once, and nothing is read
abbrev pub PassesBy : {X : Type 0} → (List ℕ → FrontAt X) → List ℕ → History → X → BeatsState → Type 0
PassesBy at unused h header new =
    (beats : List (List ℕ)) × (flat_map (λ beat. beat) beats ≡ whole_front unused)
    × ((rest : List ℕ) × OpensBy at h.octets header (h.beats ++ beats) rest) × Stands new (record h { beats = h.beats ++ beats })

abbrev pub Passes : List ℕ → History → Header → BeatsState → Type 0
Passes unused h header new = PassesBy header_at unused h header new

-- a beat brings the end nearer
abbrev pub IsNearerEnd : BeatsState → BeatsState → Result BeatIn CapFault → Type 0
IsNearerEnd old new (Ok (Beat beat)) = octets_ahead new.reader < octets_ahead old.reader
IsNearerEnd old new (Ok (End over)) = Unit {0}
IsNearerEnd old new (Err fault) = Unit {0}

-- the header that was read, and none before or where it was refused
abbrev pub header_read : Front → Option (Header ⊎ LevelsHeader)
header_read front.Unread = None
header_read front.Refused = None
header_read (front.Read header) = Some (inl header)
header_read (front.ReadLevels header) = Some (inr header)

-- what a piece of the header is, by the answer of the reader of pieces and the number of octets taken
abbrev pub piece_of : Result (Option (List ℕ)) InFault → ℕ → Result (List ℕ) CapFault
piece_of (Ok (Some piece)) taken = Ok piece
piece_of (Ok None) taken = Err (cap.BadHeader (record { place = taken % 32; cut = true }))
piece_of (Err fault.Read) taken = Err cap.Read
piece_of (Err (fault.BadLine number kind)) taken = Err (cap.BadHeader (record { place = taken % 32; cut = true }))
piece_of (Err fault.TooLong) taken = Err cap.TooLong

-- the same of what comes behind the header
abbrev pub beat_of : Result (Option (List ℕ)) InFault → ℕ → Result BeatIn CapFault
beat_of (Ok (Some beat)) taken = Ok (Beat beat)
beat_of (Ok None) taken = Ok (End 0)
beat_of (Err fault.Read) taken = Err cap.Read
beat_of (Err (fault.BadLine number kind)) taken = Ok (End (taken % 16))
beat_of (Err fault.TooLong) taken = Err cap.TooLong

abbrev pub refusal_of : {X : Type 0} → Result X BadHeader → Result X CapFault
refusal_of (Ok header) = Ok header
refusal_of (Err bad) = Err (cap.BadHeader bad)

-- a piece was read, or why there is none
abbrev pub ReadsPiece : ReaderState BeatParserState → ReaderState BeatParserState → Told → Told → Bool → Result (List ℕ) CapFault → Type 0
ReadsPiece old new before now ended result =
    (answer : Result (Option (List ℕ)) InFault) × lines.Nexts beat_at old new before now ended answer × (result ≡ piece_of answer new.buffer.taken)

-- the header of both pieces
abbrev pub by_both : {X : Type 0} → (List ℕ → Result X BadHeader) → List ℕ → Result (List ℕ) CapFault → Result X CapFault
by_both both_of front (Ok behind) = refusal_of (both_of (front ++ behind))
by_both both_of front (Err fault) = Err fault

-- nothing more was read
pub record Rests (old new : ReaderState BeatParserState) (before now : Told) (ended_before ended : Bool) : Type 0 where
  pub state : new ≡ old
  pub source : now ≡ before
  pub end : ended ≡ ended_before

-- a second piece is read behind the first one
abbrev pub ReadsSecond : {X : Type 0} → (List ℕ → Result X BadHeader) → ReaderState BeatParserState → ReaderState BeatParserState → Told → Told → Bool
    → List ℕ → Result X CapFault → Type 0
ReadsSecond both_of mid new between now ended front result =
    (second : Result (List ℕ) CapFault) × ReadsPiece mid new between now ended second × (result ≡ by_both both_of front second)

-- what comes behind the first piece: behind the magic and the version 2 a second one is read
abbrev pub ReadsOn : ReaderState BeatParserState → ReaderState BeatParserState → Told → Told → Bool → Bool → Result (List ℕ) CapFault → Result Header CapFault → Type 0
ReadsOn mid new between now soon ended (Ok front) result =
    ((is_version2 front ≡ false) × Rests mid new between now soon ended × (result ≡ refusal_of (header_of front)))
    ⊎ ((is_version2 front ≡ true) × ReadsSecond header2_of mid new between now ended front result)
ReadsOn mid new between now soon ended (Err fault) result = Rests mid new between now soon ended × (result ≡ Err fault)

-- the header of a capture is read by one piece or two
abbrev pub FrontReads : ReaderState BeatParserState → ReaderState BeatParserState → Told → Told → Bool → Result Header CapFault → Type 0
FrontReads old new before now ended result =
    (mid : ReaderState BeatParserState) × (between : Told) × (soon : Bool) × (first : Result (List ℕ) CapFault)
    × ReadsPiece old mid before between soon first × ReadsOn mid new between now soon ended first result

-- that of a file of levels by two
abbrev pub ReadsOnLevels : ReaderState BeatParserState → ReaderState BeatParserState → Told → Told → Bool → Bool → Result (List ℕ) CapFault → Result LevelsHeader CapFault
    → Type 0
ReadsOnLevels mid new between now soon ended (Ok front) result = ReadsSecond levels_header_of mid new between now ended front result
ReadsOnLevels mid new between now soon ended (Err fault) result = Rests mid new between now soon ended × (result ≡ Err fault)

abbrev pub LevelsFrontReads : ReaderState BeatParserState → ReaderState BeatParserState → Told → Told → Bool → Result LevelsHeader CapFault → Type 0
LevelsFrontReads old new before now ended result =
    (mid : ReaderState BeatParserState) × (between : Told) × (soon : Bool) × (first : Result (List ℕ) CapFault)
    × ReadsPiece old mid before between soon first × ReadsOnLevels mid new between now soon ended first result

-- a beat was read, or the end or a fault came
abbrev pub ReadsBeat : ReaderState BeatParserState → ReaderState BeatParserState → Told → Told → Bool → Result BeatIn CapFault → Type 0
ReadsBeat old new before now ended result =
    (answer : Result (Option (List ℕ)) InFault) × lines.Nexts beat_at old new before now ended answer × (result ≡ beat_of answer new.buffer.taken)
