-- The events of a beat are counted, one after the other.
use Rattle.std.proofs.Common.{◌≡◌, ℕ, ◌+◌, ◌-◌, ◌≤◌, false, List, [], ◌∷◌, ◌++◌, length, take, Option, Some, None, refl, sym, ◌∙◌, ap, subst, arith, length-append}
use Rattle.std.specs.Prelude.{◌≢◌, slice_get}
use Rattle.std.proofs.lemmas.Bool.{ne_eqb}
use Rattle.std.proofs.lemmas.List.{take_all, take-append-le}
use Rattle.std.proofs.lemmas.Option.{slice_get_within}
use Rattle.pcs_watch.specs.declared.Report.{Report}
use Rattle.pcs_receive.specs.Events.{Event, report, frame, frame_of_event}
use Rattle.pcs_receive.specs.declared.event.Event.TheVariants as answer
use Rattle.pcs_receive.specs.declared.event.Event.{Event as Answer}
use Rattle.pcs_receive.specs.Hearings.{Hearing, with_beat, with_event, next_event, last_event, events_of, IsAnswer, Answers, begun}
use Rattle.pcs_receive.specs.State.{State, Stands, IsDrained}
use Rattle.pcs_words.specs.declared.command.TrialOptions.{TrialOptions}
use Rattle.trial_laws.specs.Counting.{Counted}
use Rattle.trial_laws.specs.Trial.{limit_of, corrected_of}
use Rattle.trial_laws.specs.declared.counts.Counts.{Counts}
use Rattle.trial_laws.proofs.Comparing.{other-counted}
use Rattle.pcs_top.specs.EventTexts.{capture, hearing}
use Rattle.pcs_top.specs.Channels.{events_heard, IsHearing, HasHeard}
use Rattle.pcs_top.proofs.Telling.{one-more, all-given, more-events, no-events}

-- Some events of these beats were given and counted.
pub record Counting (options : TrialOptions) (x : State) (counts : Counts) (beats : List (List ℕ)) : Type 0 where
  pub count : ℕ
  pub stands : Stands x (hearing false options.period (limit_of options.period) beats count)
  pub within : count ≤ length (events_heard options beats)
  pub counted : Counted options.seed options.count counts (take count (events_heard options beats))

-- a receiver that was just opened
pub nothing-heard : (options : TrialOptions) (x : State) (counts : Counts) → Stands x (begun options.period (limit_of options.period) false) → IsDrained x
    → x.aligner.beats ≡ 0 → Counted options.seed options.count counts [] → HasHeard options x counts []
nothing-heard options x counts stands drained none counted =
    let skew = limit_of options.period in
    let no = no-events false x options.period skew (record { stands = stands; drained = drained; none = none }) in
    record {
      stands = subst (λ n. Stands x (hearing false options.period skew [] n)) (sym (ap length no)) stands;
      counted = subst (Counted options.seed options.count counts) (sym no) counted;
      taken = none;
      waits = record { drained = drained; corrected = omega (arith, counted.corrected); back = omega (arith, counted.back) };
    }

-- a beat comes behind those whose events were all counted
pub counting-start : (options : TrialOptions) (old new : State) (counts : Counts) (beat : List ℕ) (beats : List (List ℕ)) → HasHeard options old counts beats
    → ((h : Hearing) → Stands old h → Stands new (with_beat h beat)) → Counting options new counts (beats ++ beat ∷ [])
counting-start options old new counts beat beats has takes =
    let es = events_heard options beats in
    let (rest, is) = more-events false (capture options.period beats) (beat ∷ []) (limit_of options.period) in
    let first : take (length es) (events_heard options (beats ++ beat ∷ [])) ≡ es =
    ap (take (length es)) is ∙ take-append-le (length es) es rest (omega arith) ∙ take_all (length es) es (omega arith) in
    record {
      count = length es;
      stands = takes (hearing false options.period (limit_of options.period) beats (length es)) has.stands;
      within = subst (λ n. length es ≤ n) (sym (ap length is)) (omega (arith, length-append es rest));
      counted = subst (Counted options.seed options.count counts) (sym first) has.counted;
    }

module _ (options : TrialOptions) (old new : State) (counts : Counts) (event : Answer) (beats : List (List ℕ)) (t : Counting options old counts beats)
    (answers : (h : Hearing) → Stands old h → Answers (Some event) (next_event h)) (stands : (h : Hearing) → Stands old h → Stands new (with_event h)) where
  abbrev es : List Event
  es = events_heard options beats

  abbrev now : Hearing
  now = hearing false options.period (limit_of options.period) beats t.count

  -- the event, its place, and that it is answered
  given : (e : Event) × (slice_get es t.count ≡ Some e) × IsAnswer event e
  unfolding Answers next_event events_of
  given = answers now t.stands

  is-last : last_event (with_event now) ≡ Some (given.0)
  unfolding last_event events_of
  is-last =
      let more = ne_eqb (t.count + 1) 0 (λ none. omega (arith, none)) in
      let back : t.count + 1 - 1 ≡ t.count = omega arith in
      rw (more, back) given.1

  -- the event is counted
  pub counting-next : (later : Counts)
      → ((h : Hearing) (told : Event) → Stands new h → IsAnswer event told → last_event h ≡ Some told
      → (seed count : ℕ) (before : List Event) → Counted seed count counts before → Counted seed count later (before ++ told ∷ []))
      → Counting options new later beats
  counting-next later counted = record {
    count = t.count + 1;
    stands = stands now t.stands;
    within = omega (arith, slice_get_within es t.count given.0 given.1);
    counted = subst (Counted options.seed options.count later) (sym (one-more es t.count given.0 given.1))
        (counted (with_event now) given.0 (stands now t.stands) given.2 is-last options.seed options.count (take t.count es) t.counted);
  }

-- no event is left
pub counting-all : (options : TrialOptions) (old new : State) (counts : Counts) (beats : List (List ℕ)) → Counting options old counts beats
    → ((h : Hearing) → Stands old h → Answers None (next_event h)) → ((h : Hearing) → Stands old h → Stands new h)
    → new.aligner.beats ≡ length beats → IsHearing new counts → HasHeard options new counts beats
unfolding Answers next_event events_of
counting-all options old new counts beats t answers stands taken waits =
    let es = events_heard options beats in
    let now = hearing false options.period (limit_of options.period) beats t.count in
    let past : length es ≤ t.count = all-given es t.count (answers now t.stands) in
    let count : t.count ≡ length es = omega (arith, past, t.within) in
    record {
      stands = subst (λ n. Stands new (hearing false options.period (limit_of options.period) beats n)) count (stands now t.stands);
      counted = subst (Counted options.seed options.count counts) (take_all t.count es past) t.counted;
      taken = taken;
      waits = waits;
    }

-- ---- what an event adds
module _ (seed count : ℕ) (new : Counts) (told : Event) (es : List Event) where
  pub report-counted : (r : Report) → IsAnswer (answer.Report r) told → Counted seed count new (es ++ report r ∷ []) → Counted seed count new (es ++ told ∷ [])
  unfolding IsAnswer
  report-counted r is c = subst (λ e. Counted seed count new (es ++ e ∷ [])) (sym is) c

  pub frame-counted : (octets : List ℕ) (last : Option Event) → last ≡ Some told → last ≡ Some (frame octets)
      → Counted seed count new (es ++ frame octets ∷ []) → Counted seed count new (es ++ told ∷ [])
  frame-counted octets last is lent c =
      let same : Some told ≡ Some (frame octets) = sym is ∙ lent in
      let event : told ≡ frame octets = cc in subst (λ e. Counted seed count new (es ++ e ∷ [])) (sym event) c

quiet : (a : Answer) (told : Event) → ((r : Report) → a ≢ answer.Report r) → a ≢ answer.Frame → IsAnswer a told
    → (corrected_of told ≡ 0) × (frame_of_event told ≡ None)
unfolding IsAnswer
quiet (answer.Failed fault) told no_report no_frame is = (ap corrected_of is, ap frame_of_event is)
quiet (answer.Aligned order) told no_report no_frame is = (ap corrected_of is, ap frame_of_event is)
quiet (answer.Report r) told no_report no_frame is = absurd (no_report r refl)
quiet answer.Frame told no_report no_frame is = absurd (no_frame refl)
quiet (answer.Dropped why) told no_report no_frame is = (ap corrected_of is, ap frame_of_event is)
quiet (answer.Lost at) told no_report no_frame is = (ap corrected_of is, ap frame_of_event is)
quiet answer.Group told no_report no_frame is = (ap corrected_of is, ap frame_of_event is)
quiet (answer.Column c) told no_report no_frame is = (ap corrected_of is, ap frame_of_event is)

pub other-told : (a : Answer) (told : Event) → ((r : Report) → a ≢ answer.Report r) → a ≢ answer.Frame → IsAnswer a told
    → (seed count : ℕ) (x : Counts) (es : List Event) → Counted seed count x es → Counted seed count x (es ++ told ∷ [])
other-told a told no_report no_frame is seed count x es c =
    let none = quiet a told no_report no_frame is in other-counted seed count x es told none.0 none.1 c
