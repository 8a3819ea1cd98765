-- What a receiver's calls gave is what is told of the beats that they took.
use Rattle.std.proofs.Common.{◌≡◌, ℕ, zero, suc, ◌+◌, Bool, true, false, List, [], ◌∷◌, ◌++◌, take, drop, refl, sym, ap, ap₂, ◌∙◌, arith, append_assoc, Option, Some, None, subst}
use Rattle.std.specs.Prelude.{slice_get, filter_map}
use Rattle.std.proofs.lemmas.List.{take-append-drop, take-append-le, append-nil}
use Rattle.pcs_bits.specs.Captures.{Capture, longer}
use Rattle.pcs_receive.specs.declared.event.Event.{Event as Answer}
use Rattle.pcs_receive.specs.declared.event.Event.TheVariants as answer
use Rattle.pcs_receive.specs.Events.{Event, frame, events, good, frame_of_event}
use Rattle.pcs_receive.specs.Hearings.{Hearing, begun, with_beat, with_event, events_by, events_of, next_event, IsAnswer, Answers}
use Rattle.pcs_receive.specs.State.{State, Stands, IsDrained}
use Rattle.pcs_receive.specs.Told.{Call, took, answered, lent, ended, Does, Did, AreCalls, CallsTell, CallsLendCapture, event_of, event_of_answer, beats_taken, frames_lent, events_given}
use Rattle.pcs_receive.proofs.Prefix.{events-longer, column_events-longer}
use Rattle.pcs_receive.proofs.Prefixes.{IsPrefix}
use Rattle.pcs_receive.proofs.Taking.{drained-left}
use Rattle.pcs_receive.proofs.Given.{last-is}
use Rattle.pcs_receive.proofs.WholeCapture.{any_damage_overall}

-- the history after a call
after : Hearing → Call → Hearing
after h (took beat) = with_beat h beat
after h (answered a) = with_event h
after h (lent octets) = with_event h
after h ended = h

after_all : Hearing → List Call → Hearing
after_all h [] = h
after_all h (call ∷ calls) = after_all (after h call) calls

-- the events given so far
given : Hearing → List Event
given h = take h.told (events_of h)

listed : Option Event → List Event
listed None = []
listed (Some e) = e ∷ []

by-longer : (columns : Bool) (c : Capture) (more : List (List ℕ)) (skew : ℕ) → IsPrefix (events_by columns c skew) (events_by columns (longer c more) skew)
by-longer true c more skew = column_events-longer c more skew 0
by-longer false c more skew = events-longer c more skew 0

-- no event is given by a beat
given-beat : (s : State) (h : Hearing) (beat : List ℕ) → Stands s h → given (with_beat h beat) ≡ given h
unfolding given Stands events_of
given-beat s h beat x =
    let (rest, e) = by-longer h.columns h.heard (beat ∷ []) h.skew in
    ap (take h.told) e ∙ take-append-le h.told (events_by h.columns h.heard h.skew) rest x.left.within

take-one : {X : Type 0} (xs : List X) (k : ℕ) (x : X) → slice_get xs k ≡ Some x → take (k + 1) xs ≡ take k xs ++ x ∷ []
take-one [] zero x e = let bad : None ≡ Some x = e in absurd cc
take-one [] (suc k) x e = let bad : None ≡ Some x = e in absurd cc
take-one (y ∷ xs) zero x e = let same : Some y ≡ Some x = e in let one : y ≡ x = cc in ap (λ z. z ∷ []) one
take-one (y ∷ xs) (suc k) x e =
    let one : suc k + 1 ≡ suc (k + 1) = omega arith in
    ap (λ n. take n (y ∷ xs)) one ∙ ap (λ zs. y ∷ zs) (take-one xs k x e)

given-event : (h : Hearing) (e : Event) → next_event h ≡ Some e → given (with_event h) ≡ given h ++ e ∷ []
unfolding given next_event events_of
given-event h e is = take-one (events_by h.columns h.heard h.skew) h.told e is

answer-event : (a : Answer) (e : Event) → ¬ (a ≡ answer.Frame) → IsAnswer a e → event_of_answer a ≡ Some e
unfolding IsAnswer
answer-event (answer.Failed fault) e other is = ap Some (sym is)
answer-event (answer.Aligned order) e other is = ap Some (sym is)
answer-event (answer.Report r) e other is = ap Some (sym is)
answer-event answer.Frame e other is = absurd (other refl)
answer-event (answer.Dropped why) e other is = ap Some (sym is)
answer-event (answer.Lost at) e other is = ap Some (sym is)
answer-event answer.Group e other is = ap Some (sym is)
answer-event (answer.Column c) e other is = ap Some (sym is)

-- after a call
one-call : (call : Call) (s t : State) (h : Hearing) → Stands s h → Does call s t
    → Stands t (after h call) × (given (after h call) ≡ given h ++ listed (event_of call))
unfolding Does Answers after listed
one-call (took beat) s t h x d = (d h x, given-beat s h beat x ∙ sym (append-nil (given h)))
one-call (answered a) s t h x d =
    let (other, does) = d in
    let (next, stands) = does h x in
    let (e, is, means) = next in
    (stands, given-event h e is ∙ ap (λ o. given h ++ listed o) (sym (answer-event a e other means)))
one-call (lent octets) s t h x d =
    let (stands, lends) = d in
    (stands h x, given-event h (frame octets) (sym (last-is h) ∙ lends (with_event h) (stands h x)))
one-call ended s t h x d = (d.1 h x, sym (append-nil (given h)))

listed-given : (call : Call) (calls : List Call) → events_given (call ∷ calls) ≡ listed (event_of call) ++ events_given calls
unfolding events_given listed
listed-given (took beat) calls = refl
listed-given (answered (answer.Failed fault)) calls = refl
listed-given (answered (answer.Aligned order)) calls = refl
listed-given (answered (answer.Report r)) calls = refl
listed-given (answered answer.Frame) calls = refl
listed-given (answered (answer.Dropped why)) calls = refl
listed-given (answered (answer.Lost at)) calls = refl
listed-given (answered answer.Group) calls = refl
listed-given (answered (answer.Column c)) calls = refl
listed-given (lent octets) calls = refl
listed-given ended calls = refl

all-calls : (calls : List Call) (s t : State) (h : Hearing) → Stands s h → Did calls s t
    → Stands t (after_all h calls) × (given (after_all h calls) ≡ given h ++ events_given calls)
unfolding Did after_all events_given
all-calls [] s t h x d = (subst (λ y. Stands y h) d x, sym (append-nil (given h)))
all-calls (call ∷ calls) s t h x d =
    let (between, does, did) = d in
    let one = one-call call s between h x does in
    let rest = all-calls calls between t (after h call) one.0 did in (
      rest.0,
      rest.1 ∙ ap (λ es. es ++ events_given calls) one.1 ∙ append_assoc (given h) (listed (event_of call)) (events_given calls)
          ∙ ap (λ es. given h ++ es) (sym (listed-given call calls)),
    )

-- the beats, the period, the skew limit and the wants that the calls leave
record Leaves (h : Hearing) (calls : List Call) : Type 0 where
  beats : (after_all h calls).heard.beats ≡ h.heard.beats ++ beats_taken calls
  period : (after_all h calls).heard.period ≡ h.heard.period
  skew : (after_all h calls).skew ≡ h.skew
  columns : (after_all h calls).columns ≡ h.columns

leaves : (calls : List Call) (h : Hearing) → Leaves h calls
unfolding after_all after beats_taken
leaves [] h = record { beats = sym (append-nil h.heard.beats); period = refl; skew = refl; columns = refl }
leaves (took beat ∷ calls) h =
    let on = leaves calls (with_beat h beat) in
    record {
      beats = on.beats ∙ append_assoc h.heard.beats (beat ∷ []) (beats_taken calls);
      period = on.period;
      skew = on.skew;
      columns = on.columns;
    }
leaves (answered a ∷ calls) h =
    let on = leaves calls (with_event h) in record { beats = on.beats; period = on.period; skew = on.skew; columns = on.columns }
leaves (lent octets ∷ calls) h =
    let on = leaves calls (with_event h) in record { beats = on.beats; period = on.period; skew = on.skew; columns = on.columns }
leaves (ended ∷ calls) h =
    let on = leaves calls h in record { beats = on.beats; period = on.period; skew = on.skew; columns = on.columns }

-- all events of a drained receiver were given
drained-given : (s : State) (h : Hearing) → Stands s h → IsDrained s → given h ≡ events_of h
unfolding Stands given
drained-given s h x d =
    let none : drop h.told (events_of h) ≡ [] = x.left.rest ∙ drained-left s d in
    sym (append-nil (take h.told (events_of h))) ∙ ap (λ es. take h.told (events_of h) ++ es) (sym none)
    ∙ take-append-drop h.told (events_of h)

pub calls-events : (c : Capture) (skew : ℕ) (calls : List Call) → AreCalls c skew calls → events_given calls ≡ events c skew 0
unfolding events_of given after_all
calls-events c skew calls a =
    let h = begun c.period skew false in
    let all = all-calls calls a.first a.last h a.opened a.did in
    let now = after_all h calls in
    let left = leaves calls h in
    let beats : now.heard.beats ≡ c.beats = left.beats ∙ a.beats in
    let period : now.heard.period ≡ c.period = left.period in
    let heard : now.heard ≡ c = ap₂ (λ p bs. record { period = p; beats = bs }) period beats in
    sym all.1 ∙ drained-given a.last now all.0 a.drained
    ∙ ap (λ b. events_by b now.heard now.skew) left.columns
    ∙ ap (λ d. events d now.skew 0) heard ∙ ap (λ n. events c n 0) left.skew

-- the frames of the events
lent-frames : (calls : List Call) → frames_lent calls ≡ filter_map frame_of_event (events_given calls)
unfolding frames_lent events_given
lent-frames [] = refl
lent-frames (took beat ∷ calls) = lent-frames calls
lent-frames (answered (answer.Failed fault) ∷ calls) = lent-frames calls
lent-frames (answered (answer.Aligned order) ∷ calls) = lent-frames calls
lent-frames (answered (answer.Report r) ∷ calls) = lent-frames calls
lent-frames (answered answer.Frame ∷ calls) = lent-frames calls
lent-frames (answered (answer.Dropped why) ∷ calls) = lent-frames calls
lent-frames (answered (answer.Lost at) ∷ calls) = lent-frames calls
lent-frames (answered answer.Group ∷ calls) = lent-frames calls
lent-frames (answered (answer.Column c) ∷ calls) = lent-frames calls
lent-frames (lent octets ∷ calls) = ap (λ fs. octets ∷ fs) (lent-frames calls)
lent-frames (ended ∷ calls) = lent-frames calls

calls-frames : (c : Capture) (skew : ℕ) (calls : List Call) → AreCalls c skew calls → frames_lent calls ≡ good c skew
unfolding good
calls-frames c skew calls a = lent-frames calls ∙ ap (filter_map frame_of_event) (calls-events c skew calls a)

pub calls_tell : CallsTell
calls_tell = record { all = calls-events; frames = calls-frames }

pub calls_lend_capture : CallsLendCapture
calls_lend_capture columns c image skew calls a is hunts =
    calls-frames c skew calls a ∙ any_damage_overall columns c image skew is hunts
