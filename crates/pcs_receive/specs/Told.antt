-- What a receiver's calls gave, one after another.
--     Call                    a call, with what it took or answered
--     Does call old new       what the contract of the call says of the receiver before and after it
--     AreCalls c skew calls   all calls of a receiver of frames on the beats of a capture, up to a `next` that answered none
--     frames_lent calls       the frames that `frame` lent, in order
--     events_given calls      the events that `next` answered, in order
--     before_loss calls       the calls before the first loss
use Rattle.std.specs.Prelude.{◌≡◌, ℕ, ◌*◌, Bool, true, false, if◌then◌else◌, List, [], ◌∷◌, filter_map, Option, Some, None}
use Rattle.std.specs.List.{AllByRecursion, list_any}
use Rattle.mac_columns.specs.declared.column.Column.{Column}
use Rattle.mac_columns.specs.RunPlaces.{frames_of_runs, clear_frames}
use Rattle.pcs_bits.specs.Captures.{Capture}
use Rattle.pcs_send.specs.Transmission.{carried}
use Rattle.lane_deskew.specs.declared.Order.{Order}
use Rattle.lane_deskew.specs.Alignments.{align}
use Rattle.pcs_receive.specs.declared.event.Event.{Event as Answer}
use Rattle.pcs_receive.specs.declared.event.Event.TheVariants as answer
use Rattle.pcs_receive.specs.Events.{Event, failure, alignment, report, frame, frame_dropped, lost, group, column, events, good}
use Rattle.pcs_receive.specs.Hearings.{Hearing, begun, with_beat, with_event, next_event, last_event, Answers}
use Rattle.pcs_receive.specs.State.{State, Stands, IsDrained}
use Rattle.pcs_receive.specs.Images.{Image, HasTrueLock}
use Rattle.pcs_receive.specs.SentWords.{AreSentOrFar}
use Rattle.pcs_receive.specs.Unmarked.{stands_in_unmarked_wide}
use Rattle.pcs_receive.specs.Headline.{IsImageOf, AlignsAt, heard_pairs, IsTrueHunt, hunt_places, stands_in_alignment}

-- `take` of a beat; `next` with an answer that is no frame; `next` with a frame, and `frame` that lent these octets; `next` that
-- answered none.
pub data Call : Type 0 where
  took : List ℕ → Call
  answered : Answer → Call
  lent : List ℕ → Call
  ended : Call

unfoldable pub Does : Call → State → State → Type 0
Does (took beat) old new = (h : Hearing) → Stands old h → Stands new (with_beat h beat)
Does (answered a) old new =
    (¬ (a ≡ answer.Frame)) × ((h : Hearing) → Stands old h → Answers (Some a) (next_event h) × Stands new (with_event h))
Does (lent octets) old new =
    ((h : Hearing) → Stands old h → Stands new (with_event h)) × ((h : Hearing) → Stands new h → last_event h ≡ Some (frame octets))
Does ended old new = IsDrained new × ((h : Hearing) → Stands old h → Stands new h)

-- these calls, one after another
unfoldable pub Did : List Call → State → State → Type 0
Did [] old new = old ≡ new
Did (call ∷ calls) old new = (between : State) × Does call old between × Did calls between new

abbrev pub beat_of : Call → Option (List ℕ)
beat_of (took beat) = Some beat
beat_of call = None

abbrev pub frame_of : Call → Option (List ℕ)
frame_of (lent octets) = Some octets
frame_of call = None

abbrev pub event_of_answer : Answer → Option Event
event_of_answer (answer.Failed fault) = Some (failure fault)
event_of_answer (answer.Aligned order) = Some (alignment order)
event_of_answer (answer.Report r) = Some (report r)
event_of_answer answer.Frame = None
event_of_answer (answer.Dropped why) = Some (frame_dropped why)
event_of_answer (answer.Lost at) = Some (lost at)
event_of_answer answer.Group = Some group
event_of_answer (answer.Column c) = Some (column c)

abbrev pub event_of : Call → Option Event
event_of (took beat) = None
event_of (answered a) = event_of_answer a
event_of (lent octets) = Some (frame octets)
event_of ended = None

unfoldable pub beats_taken : List Call → List (List ℕ)
beats_taken calls = filter_map beat_of calls

unfoldable pub frames_lent : List Call → List (List ℕ)
frames_lent calls = filter_map frame_of calls

unfoldable pub events_given : List Call → List Event
events_given calls = filter_map event_of calls

abbrev pub is_loss : Call → Bool
is_loss (answered (answer.Lost at)) = true
is_loss call = false

-- the calls before the first loss that `next` answered, or all
unfoldable pub before_loss : List Call → List Call
before_loss [] = []
before_loss (call ∷ calls) = if is_loss call then [] else call ∷ before_loss calls

-- The receiver was opened with the capture's period and this skew limit, it took the capture's beats, and `next` answered none at last.
pub record AreCalls (c : Capture) (skew : ℕ) (calls : List Call) : Type 0 where
  pub first : State
  pub last : State
  pub opened : Stands first (begun c.period skew false)
  pub did : Did calls first last
  pub drained : IsDrained last
  pub beats : beats_taken calls ≡ c.beats

-- The calls give all events of the capture, and lend its frames.
pub record CallsTell : Type 0 where
  pub all : (c : Capture) (skew : ℕ) (calls : List Call) → AreCalls c skew calls → events_given calls ≡ events c skew 0
  pub frames : (c : Capture) (skew : ℕ) (calls : List Call) → AreCalls c skew calls → frames_lent calls ≡ good c skew

-- Where an image locks truly from its begin on, and each word of the pairs of the alignment, up to its loss or the end, is near the
-- codeword that was sent or near none, the frames lent before the first loss are exactly the sent frames all of whose columns stand in
-- unmarked wides of these pairs, in order, once each.
abbrev pub CallsLendAlignment : Type 0
CallsLendAlignment =
    (columns : List Column) (c : Capture) (image : Image) (skew : ℕ) (calls : List Call) → AreCalls c skew calls
    → IsImageOf columns c image skew → HasTrueLock c (carried c.period columns) image 0
    → (o : Order) × (g : ℕ) × AlignsAt c skew image 0 o g
    × (AreSentOrFar c.period columns (g * c.period) (heard_pairs c o)
    → frames_lent (before_loss calls) ≡ clear_frames (stands_in_unmarked_wide c.period (g * c.period) (heard_pairs c o)) columns)

-- Over a whole capture whose hunts are true, the frames that the calls lend are exactly the sent frames all of whose columns stand in
-- unmarked wides of one alignment, in the order in which they were sent, once each.
abbrev pub CallsLendCapture : Type 0
CallsLendCapture =
    (columns : List Column) (c : Capture) (image : Image) (skew : ℕ) (calls : List Call) → AreCalls c skew calls
    → IsImageOf columns c image skew → AllByRecursion (IsTrueHunt columns c image skew) (hunt_places c skew)
    → frames_lent calls ≡ frames_of_runs (λ run. list_any (λ from. stands_in_alignment c image run (align c skew from)) (hunt_places c skew)) columns
