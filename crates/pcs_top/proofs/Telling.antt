-- The events of a receiver are told, one after the other.
use Rattle.std.proofs.Common.{◌≡◌, ℕ, zero, suc, ◌+◌, ◌-◌, ◌≤◌, Bool, true, false, ◌||◌, List, [], ◌∷◌, ◌++◌, length, take, drop, Option, Some, None, refl, sym, ◌∙◌, ap, subst, arith, add-one, length-append}
use Rattle.std.specs.Prelude.{◌≢◌, slice_get}
use Rattle.std.specs.List.{list_any}
use Rattle.std.proofs.lemmas.Bool.{ne_eqb}
use Rattle.std.proofs.lemmas.List.{take_all, take-append-le, take-append-drop}
use Rattle.std.proofs.lemmas.List.Folds.{list_any-append}
use Rattle.std.proofs.lemmas.Option.{slice_get_within}
use Rattle.pcs_bits.specs.Captures.{Capture, longer}
use Rattle.pcs_io.specs.Octets.{AppendsFront}
use Rattle.pcs_receive.specs.Events.{Event}
use Rattle.pcs_receive.specs.declared.event.Event.TheVariants as answer
use Rattle.pcs_receive.specs.declared.event.Event.{Event as Answer}
use Rattle.lane_deskew.specs.declared.Order.{Order}
use Rattle.pcs_receive.specs.Hearings.{Hearing, with_beat, with_event, next_event, last_event, events_of, events_by, IsAnswer, Answers}
use Rattle.pcs_receive.specs.State.{State, Stands}
use Rattle.pcs_receive.proofs.Prefix.{events-longer, column_events-longer}
use Rattle.pcs_receive.proofs.Taking.{drained-left}
use Rattle.pcs_drive.specs.CaptureCommand.{BeatsText}
use Rattle.pcs_drive.specs.Writing.{Wrote}
use Rattle.pcs_drive.proofs.WritingLemmas.{front-more}
use Rattle.pcs_top.specs.EventTexts.{is_alignment, has_alignment, EventText, capture, listening, Meaning, Grows, HasTold, TellsEvent, BreaksAtEvent, hearing, IsListening, IsTelling, HasBegun}

pub one-more : (es : List Event) (n : ℕ) (e : Event) → slice_get es n ≡ Some e → take (n + 1) es ≡ take n es ++ e ∷ []
one-more es n e at = ap (λ k. take k es) (add-one n) ∙ next es n e at
  where
    next : (es : List Event) (n : ℕ) (e : Event) → slice_get es n ≡ Some e → take (suc n) es ≡ take n es ++ e ∷ []
    next [] zero e at = absurd (cc)
    next [] (suc n) e at = absurd (cc)
    next (x ∷ es) zero e at = cc
    next (x ∷ es) (suc n) e at = ap (λ ts. x ∷ ts) (next es n e at)

pub all-given : (es : List Event) (n : ℕ) → slice_get es n ≡ None → length es ≤ n
all-given [] n at = omega arith
all-given (x ∷ es) zero at = absurd (cc)
all-given (x ∷ es) (suc n) at = omega (arith, all-given es n at)

alignment-more : (es : List Event) (e : Event) → has_alignment (es ++ e ∷ []) ≡ (has_alignment es || is_alignment e)
unfolding has_alignment
alignment-more es e = list_any-append is_alignment es (e ∷ []) ∙ ap (λ b. list_any is_alignment es || b) (or-false (is_alignment e))
  where
    or-false : (b : Bool) → (b || false) ≡ b
    or-false true = refl
    or-false false = refl

no-alignment : false ≡ has_alignment []
unfolding has_alignment
no-alignment = refl

-- with more beats there are more events
pub more-events : (columns : Bool) (c : Capture) (more : List (List ℕ)) (skew : ℕ)
    → (rest : List Event) × (events_by columns (longer c more) skew ≡ events_by columns c skew ++ rest)
more-events true c more skew = column_events-longer c more skew 0
more-events false c more skew = events-longer c more skew 0

-- no beats have no events
pub no-events : (columns : Bool) (x : State) (period skew : ℕ) → HasBegun x period skew columns → events_by columns (capture period []) skew ≡ []
unfolding Stands events_of
no-events columns x period skew b = b.stands.left.rest ∙ drained-left x b.drained

-- the text of more beats goes on
pub listening-grows : (told : EventText) (columns : Bool) (period skew : ℕ) → Grows told → (beats more : List (List ℕ))
    → (rest : List ℕ) × (told.so_far (events_by columns (capture period (beats ++ more)) skew) ≡ told.so_far (events_by columns (capture period beats) skew) ++ rest)
listening-grows told columns period skew grows beats more =
    let es = events_by columns (capture period beats) skew in
    let (later, is) = more-events columns (capture period beats) more skew in
    let (rest, goes) = grows es later in (rest, ap told.so_far is ∙ goes)

module _ {T : Type 0} (Keeps : Meaning T) where
  -- a receiver that was just opened, and a teller that was told nothing
  pub listening-start : (x : State) (teller : T) (told : EventText) (columns : Bool) (period skew : ℕ) → HasBegun x period skew columns
      → Keeps teller told [] → Grows told → IsListening Keeps x teller false (listening told columns period skew) []
  listening-start x teller told columns period skew b keeps grows =
      let none = no-events columns x period skew b in
      record {
        told = told;
        columns = columns;
        period = period;
        skew = skew;
        is = refl;
        stands = subst (λ n. Stands x (hearing columns period skew [] n)) (sym (ap length none)) b.stands;
        keeps = subst (Keeps teller told) (sym none) keeps;
        grows = grows;
        aligned_yet = no-alignment ∙ sym (ap has_alignment none);
      }

  -- a beat comes behind those whose events were all told
  pub telling-start : (old new : State) (beat : List ℕ) (teller : T) (aligned : Bool) (text : BeatsText) (beats : List (List ℕ)) (start held : Option (List ℕ)) (pending : List ℕ)
      (header-text : List ℕ) → (l : IsListening Keeps old teller aligned text beats)
      → header-text ≡ l.told.so_far (events_by l.columns (capture l.period beats) l.skew) → Wrote start held header-text pending
      → ((h : Hearing) → Stands old h → Stands new (with_beat h beat))
      → IsTelling Keeps new teller aligned text (beats ++ beat ∷ []) start held pending
  telling-start old new beat teller aligned text beats start held pending header-text l same wrote takes =
      let es = events_by l.columns (capture l.period beats) l.skew in
      let (rest, is) = more-events l.columns (capture l.period beats) (beat ∷ []) l.skew in
      let longer_events = events_by l.columns (capture l.period (beats ++ beat ∷ [])) l.skew in
      let first : take (length es) longer_events ≡ es =
      ap (take (length es)) is ∙ take-append-le (length es) es rest (omega arith) ∙ take_all (length es) es (omega arith) in
      record {
        told = l.told;
        columns = l.columns;
        period = l.period;
        skew = l.skew;
        count = length es;
        is = l.is;
        stands = takes (hearing l.columns l.period l.skew beats (length es)) l.stands;
        within = subst (λ n. length es ≤ n) (sym (ap length is)) (omega (arith, length-append es rest));
        aligned_yet = l.aligned_yet ∙ ap has_alignment (sym first);
        put = subst (λ ts. HasTold Keeps teller l.told ts start held pending) (sym first)
            (record { keeps = l.keeps; grows = l.grows; wrote = subst (λ t. Wrote start held t pending) same wrote });
      }

  module _ (old new : State) (teller : T) (event : Answer) (aligned : Bool) (text : BeatsText) (beats : List (List ℕ)) (start held : Option (List ℕ)) (pending : List ℕ)
      (t : IsTelling Keeps old teller aligned text beats start held pending)
      (answers : (h : Hearing) → Stands old h → Answers (Some event) (next_event h))
      (stands : (h : Hearing) → Stands old h → Stands new (with_event h)) where
    abbrev es : List Event
    es = events_by t.columns (capture t.period beats) t.skew

    abbrev now : Hearing
    now = hearing t.columns t.period t.skew beats t.count

    -- the event, its place, and that it is answered
    given : (e : Event) × (slice_get es t.count ≡ Some e) × IsAnswer event e
    unfolding Answers next_event events_of
    given = answers now t.stands

    is-last : last_event (with_event now) ≡ Some (given.0)
    unfolding last_event events_of
    is-last =
        let more = ne_eqb (t.count + 1) 0 (λ none. omega (arith, none)) in
        let back : t.count + 1 - 1 ≡ t.count = omega arith in
        rw (more, back) given.1

    next : take (t.count + 1) es ≡ take t.count es ++ given.0 ∷ []
    next = one-more es t.count given.0 given.1

    -- the event is told
    pub telling-next : (teller_now : T) (aligned_now : Bool) (held_now : Option (List ℕ)) (pending_now : List ℕ)
        → ((h : Hearing) (e : Event) → Stands new h → IsAnswer event e → last_event h ≡ Some e → TellsEvent Keeps teller teller_now e held pending held_now pending_now)
        → ((e : Event) → IsAnswer event e → aligned_now ≡ (aligned || is_alignment e))
        → IsTelling Keeps new teller_now aligned_now text beats start held_now pending_now
    telling-next teller_now aligned_now held_now pending_now put notes =
        let e = given.0 in
        record {
          told = t.told;
          columns = t.columns;
          period = t.period;
          skew = t.skew;
          count = t.count + 1;
          is = t.is;
          stands = stands now t.stands;
          within = omega (arith, slice_get_within es t.count e given.1);
          aligned_yet = notes e given.2 ∙ ap (λ b. b || is_alignment e) t.aligned_yet ∙ sym (alignment-more (take t.count es) e) ∙ ap has_alignment (sym next);
          put = subst (λ ts. HasTold Keeps teller_now t.told ts start held_now pending_now) (sym next)
              (put (with_event now) e (stands now t.stands) given.2 is-last t.told (take t.count es) start t.put);
        }

    -- a write failed there
    pub telling-failed : (header_text : List ℕ) (held_now : Option (List ℕ)) → header_text ≡ t.told.so_far es
        → ((h : Hearing) (e : Event) → Stands new h → IsAnswer event e → last_event h ≡ Some e → BreaksAtEvent Keeps teller e held pending held_now)
        → AppendsFront start held_now header_text
    telling-failed header_text held_now same breaks =
        let e = given.0 in
        let front = breaks (with_event now) e (stands now t.stands) given.2 is-last t.told (take t.count es) start t.put in
        let told = take (t.count + 1) es in
        let (rest, goes) = t.put.grows told (drop (t.count + 1) es) in
        subst (AppendsFront start held_now) (sym (same ∙ ap t.told.so_far (sym (take-append-drop (t.count + 1) es)) ∙ goes))
        (front-more start held_now (t.told.so_far told) rest (subst (λ ts. AppendsFront start held_now (t.told.so_far ts)) (sym next) front))

  -- no event is left
  pub telling-all : (old new : State) (teller : T) (aligned : Bool) (text : BeatsText) (beats : List (List ℕ)) (start held : Option (List ℕ)) (pending : List ℕ)
      → IsTelling Keeps old teller aligned text beats start held pending
      → ((h : Hearing) → Stands old h → Answers None (next_event h)) → ((h : Hearing) → Stands old h → Stands new h)
      → IsListening Keeps new teller aligned text beats
  unfolding Answers next_event events_of
  telling-all old new teller aligned text beats start held pending t answers stands =
      let es = events_by t.columns (capture t.period beats) t.skew in
      let now = hearing t.columns t.period t.skew beats t.count in
      let past : length es ≤ t.count = all-given es t.count (answers now t.stands) in
      let count : t.count ≡ length es = omega (arith, past, t.within) in
      let whole : take t.count es ≡ es = take_all t.count es past in
      record {
        told = t.told;
        columns = t.columns;
        period = t.period;
        skew = t.skew;
        is = t.is;
        stands = subst (λ n. Stands new (hearing t.columns t.period t.skew beats n)) count (stands now t.stands);
        keeps = subst (Keeps teller t.told) whole t.put.keeps;
        grows = t.put.grows;
        aligned_yet = t.aligned_yet ∙ ap has_alignment whole;
      }

  -- all text is put then
  pub telling-wrote : (old : State) (teller : T) (aligned : Bool) (text : BeatsText) (beats : List (List ℕ)) (start held : Option (List ℕ)) (pending : List ℕ)
      → IsTelling Keeps old teller aligned text beats start held pending
      → ((h : Hearing) → Stands old h → Answers None (next_event h)) → Wrote start held (text.so_far beats) pending
  unfolding Answers next_event events_of
  telling-wrote old teller aligned text beats start held pending t answers =
      let es = events_by t.columns (capture t.period beats) t.skew in
      let past : length es ≤ t.count = all-given es t.count (answers (hearing t.columns t.period t.skew beats t.count) t.stands) in
      let whole : take t.count es ≡ es = take_all t.count es past in
      subst (λ x. Wrote start held x pending) (ap t.told.so_far whole ∙ sym (ap (λ (c : BeatsText). c.so_far beats) t.is)) t.put.wrote

-- the answer is an alignment
abbrev pub is_aligned : Answer → Bool
is_aligned (answer.Aligned order) = true
is_aligned a = false

pub answered-alignment : (a : Answer) (told : Event) → IsAnswer a told → is_aligned a ≡ is_alignment told
unfolding IsAnswer
answered-alignment (answer.Failed fault) told is = rw is refl
answered-alignment (answer.Aligned order) told is = rw is refl
answered-alignment (answer.Report r) told is = rw is refl
answered-alignment answer.Frame told is = rw is.1 refl
answered-alignment (answer.Dropped why) told is = rw is refl
answered-alignment (answer.Lost at) told is = rw is refl
answered-alignment answer.Group told is = rw is refl
answered-alignment (answer.Column c) told is = rw is refl

pub not-aligned : (a : Answer) → ((o : Order) → a ≢ answer.Aligned o) → is_aligned a ≡ false
not-aligned (answer.Failed fault) other = refl
not-aligned (answer.Aligned order) other = absurd (other order refl)
not-aligned (answer.Report r) other = refl
not-aligned answer.Frame other = refl
not-aligned (answer.Dropped why) other = refl
not-aligned (answer.Lost at) other = refl
not-aligned answer.Group other = refl
not-aligned (answer.Column c) other = refl

pub aligned-by : (a : Answer) (told : Event) (aligned : Bool) → IsAnswer a told
    → (is_aligned a ≡ true → true ≡ (aligned || is_alignment told)) × (is_aligned a ≡ false → aligned ≡ (aligned || is_alignment told))
aligned-by a told aligned is =
    let same = answered-alignment a told is in
    (λ found. sym (ap (λ b. aligned || b) (sym same ∙ found) ∙ or-true aligned), λ other. sym (ap (λ b. aligned || b) (sym same ∙ other) ∙ or-false aligned))
  where
    or-true : (b : Bool) → (b || true) ≡ true
    or-true true = refl
    or-true false = refl

    or-false : (b : Bool) → (b || false) ≡ b
    or-false true = refl
    or-false false = refl
