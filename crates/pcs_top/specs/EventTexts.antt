-- What a command makes of the events of a receiver, one after the other. `Keeps` is the teller's own meaning: it makes this text, and stands
-- for these events.
use Rattle.std.specs.Prelude.{◌≡◌, ℕ, ◌≤◌, Bool, true, false, List, [], ◌∷◌, ◌++◌, length, take, Option}
use Rattle.std.specs.List.{list_any}
use Rattle.pcs_bits.specs.Captures.{Capture}
use Rattle.pcs_io.specs.Octets.{AppendsFront}
use Rattle.pcs_drive.specs.CaptureCommand.{BeatsText}
use Rattle.pcs_drive.specs.Writing.{Wrote}
use Rattle.pcs_receive.specs.Events.{Event, alignment}
use Rattle.pcs_receive.specs.Hearings.{Hearing, begun, events_by}
use Rattle.pcs_receive.specs.State.{State, IsDrained, Stands}

-- the event is an alignment
abbrev pub is_alignment : Event → Bool
is_alignment (alignment order) = true
is_alignment event = false

-- the lanes were aligned
unfoldable pub has_alignment : List Event → Bool
has_alignment es = list_any is_alignment es

-- the text of the events so far, and the whole text where no further event comes
pub record EventText : Type 0 where
  pub so_far : List Event → List ℕ
  pub whole : List Event → List ℕ

-- these beats, of a capture with this period
abbrev pub capture : ℕ → List (List ℕ) → Capture
capture period beats = record { period = period; beats = beats }

-- The text of the events of beats, for a period and a limit of the skew. `columns` tells whether columns are told in place of frames.
abbrev pub listening : EventText → Bool → ℕ → ℕ → BeatsText
listening text columns period skew = record {
  so_far = λ beats. text.so_far (events_by columns (capture period beats) skew);
  whole = λ beats. text.whole (events_by columns (capture period beats) skew);
  is_aligned = λ beats. has_alignment (events_by columns (capture period beats) skew);
}

abbrev pub Meaning : Type 0 → Type 1
Meaning T = T → EventText → List Event → Type 0

-- with more events the text so far only grows
abbrev pub Grows : EventText → Type 0
Grows text = (es more : List Event) → (rest : List ℕ) × (text.so_far (es ++ more) ≡ text.so_far es ++ rest)

-- the teller stands for these events, and the text so far is put
pub record HasTold {T : Type 0} (Keeps : Meaning T) (teller : T) (text : EventText) (es : List Event) (start held : Option (List ℕ)) (pending : List ℕ) : Type 0 where
  pub keeps : Keeps teller text es
  pub grows : Grows text
  pub wrote : Wrote start held (text.so_far es) pending

-- an event is told, and its text is put
abbrev pub TellsEvent : {T : Type 0} → Meaning T → T → T → Event → Option (List ℕ) → List ℕ → Option (List ℕ) → List ℕ → Type 0
TellsEvent Keeps old new event held_old pending_old held_new pending_new =
    (text : EventText) (es : List Event) (start : Option (List ℕ))
    → HasTold Keeps old text es start held_old pending_old → HasTold Keeps new text (es ++ event ∷ []) start held_new pending_new

-- a write failed there
abbrev pub BreaksAtEvent : {T : Type 0} → Meaning T → T → Event → Option (List ℕ) → List ℕ → Option (List ℕ) → Type 0
BreaksAtEvent Keeps old event held_old pending_old held_new =
    (text : EventText) (es : List Event) (start : Option (List ℕ))
    → HasTold Keeps old text es start held_old pending_old → AppendsFront start held_new (text.so_far (es ++ event ∷ []))

-- no further event comes, and the rest of the text is put
abbrev pub EndsEvents : {T : Type 0} → Meaning T → T → Option (List ℕ) → List ℕ → Option (List ℕ) → List ℕ → Type 0
EndsEvents Keeps old held_old pending_old held_new pending_new =
    (text : EventText) (es : List Event) (start : Option (List ℕ))
    → HasTold Keeps old text es start held_old pending_old → Wrote start held_new (text.whole es) pending_new

-- a write failed there
abbrev pub BreaksAfterEvents : {T : Type 0} → Meaning T → T → Option (List ℕ) → List ℕ → Option (List ℕ) → Type 0
BreaksAfterEvents Keeps old held_old pending_old held_new =
    (text : EventText) (es : List Event) (start : Option (List ℕ))
    → HasTold Keeps old text es start held_old pending_old → AppendsFront start held_new (text.whole es)

-- a receiver that has taken these beats and given so many events
abbrev pub hearing : Bool → ℕ → ℕ → List (List ℕ) → ℕ → Hearing
hearing columns period skew beats told = record { skew = skew; columns = columns; heard = capture period beats; told = told }

-- All events of these beats were given and told. `aligned` tells whether an alignment was among them.
pub record IsListening {T : Type 0} (Keeps : Meaning T) (x : State) (teller : T) (aligned : Bool) (text : BeatsText) (beats : List (List ℕ)) : Type 0 where
  pub told : EventText
  pub columns : Bool
  pub period : ℕ
  pub skew : ℕ
  pub is : text ≡ listening told columns period skew
  pub stands : Stands x (hearing columns period skew beats (length (events_by columns (capture period beats) skew)))
  pub keeps : Keeps teller told (events_by columns (capture period beats) skew)
  pub grows : Grows told
  pub aligned_yet : aligned ≡ has_alignment (events_by columns (capture period beats) skew)

-- Some events of these beats were given and told.
pub record IsTelling {T : Type 0} (Keeps : Meaning T) (x : State) (teller : T) (aligned : Bool) (text : BeatsText) (beats : List (List ℕ))
    (start held : Option (List ℕ)) (pending : List ℕ) : Type 0 where
  pub told : EventText
  pub columns : Bool
  pub period : ℕ
  pub skew : ℕ
  pub count : ℕ
  pub is : text ≡ listening told columns period skew
  pub stands : Stands x (hearing columns period skew beats count)
  pub within : count ≤ length (events_by columns (capture period beats) skew)
  pub aligned_yet : aligned ≡ has_alignment (take count (events_by columns (capture period beats) skew))
  pub put : HasTold Keeps teller told (take count (events_by columns (capture period beats) skew)) start held pending

-- A receiver was opened, and had no other call.
pub record HasBegun (x : State) (period skew : ℕ) (columns : Bool) : Type 0 where
  pub stands : Stands x (begun period skew columns)
  pub drained : IsDrained x
  pub none : x.aligner.beats ≡ 0
