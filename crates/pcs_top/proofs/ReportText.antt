-- The text of a report, event by event.
use Rattle.std.proofs.Common.{◌≡◌, ℕ, Bool, false, List, [], ◌∷◌, ◌++◌, Option, None, refl, sym, ◌∙◌, ap, subst, append-nil}
use Rattle.std.specs.Prelude.{◌≢◌}
use Rattle.std.proofs.lemmas.List.Concat.{flat_map-append}
use Rattle.std.proofs.lemmas.List.Elements.{filter_map-append}
use Rattle.pcs_io.specs.Octets.{AppendsFront}
use Rattle.pcs_watch.specs.declared.Report.{Report}
use Rattle.pcs_watch.specs.Watching.{Seen as Watched, told_all, left_after}
use Rattle.pcs_watch.proofs.Reports.{told_reports}
use Rattle.pcs_receive.specs.Events.{Event, report, failure, alignment, frame, frame_dropped, lost, group, column}
use Rattle.pcs_receive.specs.declared.event.Event.TheVariants as answer
use Rattle.pcs_receive.specs.declared.event.Event.{Event as Answer}
use Rattle.pcs_receive.specs.Hearings.{IsAnswer}
use Rattle.pcs_receive.specs.State.{State}
use Rattle.pcs_drive.specs.Writing.{Wrote, Puts, BreaksOff, BreaksOffBefore}
use Rattle.pcs_drive.proofs.WritingLemmas.{front-more, wrote-none}
use Rattle.pcs_top.specs.EventTexts.{EventText, Meaning, Grows, HasTold, IsListening, HasBegun}
use Rattle.pcs_top.specs.Reporting.{event_line, event_lines, report_of_event, reports_of, told_event, tally_text, told_report, report_text}
use Rattle.pcs_top.proofs.Telling.{listening-start, listening-grows, no-events}

lines-append : (es more : List Event) → event_lines (es ++ more) ≡ event_lines es ++ event_lines more
unfolding event_lines
lines-append es more = flat_map-append event_line es more

no-lines : event_lines [] ≡ []
unfolding event_lines
no-lines = refl

one-line : (e : Event) → event_lines (e ∷ []) ≡ event_line e
unfolding event_lines
one-line e = append-nil (event_line e)

one-more-line : (es : List Event) (e : Event) → event_lines (es ++ e ∷ []) ≡ event_lines es ++ event_line e
one-more-line es e = lines-append es (e ∷ []) ∙ ap (λ t. event_lines es ++ t) (one-line e)

pub report-grows : (first : List Watched) → Grows (told_report first)
report-grows first es more = (event_lines more, lines-append es more)

-- what one event more makes of the watchers that are left
left-more : (es : List Event) (e : Event) (first : List Watched) → left_after (reports_of (es ++ e ∷ [])) first ≡ told_event e (left_after (reports_of es) first)
unfolding reports_of
left-more es e first = ap (λ rs. left_after rs first) (filter_map-append report_of_event es (e ∷ [])) ∙ by e
  where
    same : (e : Event) → report_of_event e ≡ None → left_after (reports_of es ++ reports_of (e ∷ [])) first ≡ left_after (reports_of es) first
    same e none = ap (λ rs. left_after (reports_of es ++ rs) first) (rw none refl) ∙ ap (λ rs. left_after rs first) (append-nil (reports_of es))

    by : (e : Event) → left_after (reports_of es ++ reports_of (e ∷ [])) first ≡ told_event e (left_after (reports_of es) first)
    by (failure fault) = same (failure fault) refl
    by (alignment order) = same (alignment order) refl
    by (report r) = (told_reports (reports_of es) r first).one_more
    by (frame octets) = same (frame octets) refl
    by (frame_dropped why) = same (frame_dropped why) refl
    by (lost place) = same (lost place) refl
    by group = same group refl
    by (column c) = same (column c) refl

module _ {T : Type 0} (watchers : T → List Watched) where
  -- tellers of reports keep their text, and the watchers that are left
  abbrev pub TellsReport : Meaning T
  TellsReport teller text es = (first : List Watched) × (text ≡ told_report first) × (watchers teller ≡ left_after (reports_of es) first)

  pub tells-event : (old new : T) (e : Event) (line : List ℕ) (held held_now : Option (List ℕ)) (pending pending_now : List ℕ)
      → watchers new ≡ told_event e (watchers old) → line ≡ event_line e → Puts held pending line held_now pending_now
      → (text : EventText) (es : List Event) (start : Option (List ℕ)) → HasTold TellsReport old text es start held pending
      → HasTold TellsReport new text (es ++ e ∷ []) start held_now pending_now
  tells-event old new e line held held_now pending pending_now told is puts text es start t =
      let first = t.keeps.0 in
      record {
        keeps = (first, t.keeps.1, told ∙ ap (told_event e) t.keeps.2 ∙ sym (left-more es e first));
        grows = t.grows;
        wrote =
            let before = subst (λ (x : EventText). Wrote start held (x.so_far es) pending) t.keeps.1 t.wrote in
            subst (λ (x : EventText). Wrote start held_now (x.so_far (es ++ e ∷ [])) pending_now) (sym t.keeps.1)
            (subst (λ o. Wrote start held_now o pending_now) (ap (λ l. event_lines es ++ l) is ∙ sym (one-more-line es e))
            (puts start (event_lines es) before));
      }

  pub breaks-at-event : (old : T) (e : Event) (held held_now : Option (List ℕ)) (pending : List ℕ) → BreaksOffBefore held pending held_now
      → (text : EventText) (es : List Event) (start : Option (List ℕ)) → HasTold TellsReport old text es start held pending
      → AppendsFront start held_now (text.so_far (es ++ e ∷ []))
  breaks-at-event old e held held_now pending breaks text es start t =
      let before = subst (λ (x : EventText). Wrote start held (x.so_far es) pending) t.keeps.1 t.wrote in
      subst (λ (x : EventText). AppendsFront start held_now (x.so_far (es ++ e ∷ []))) (sym t.keeps.1)
      (subst (AppendsFront start held_now) (sym (one-more-line es e))
      (front-more start held_now (event_lines es) (event_line e) (breaks start (event_lines es) before)))

  -- the tallies of those that are left stand behind all events
  pub ends-report : (old : T) (left : List Watched) (held held_now : Option (List ℕ)) (pending pending_now : List ℕ) → left ≡ watchers old
      → Puts held pending (tally_text left) held_now pending_now
      → (text : EventText) (es : List Event) (start : Option (List ℕ)) → HasTold TellsReport old text es start held pending
      → Wrote start held_now (text.whole es) pending_now
  ends-report old left held held_now pending pending_now are puts text es start t =
      let before = subst (λ (x : EventText). Wrote start held (x.so_far es) pending) t.keeps.1 t.wrote in
      subst (λ (x : EventText). Wrote start held_now (x.whole es) pending_now) (sym t.keeps.1)
      (subst (λ ws. Wrote start held_now (event_lines es ++ tally_text ws) pending_now) (are ∙ t.keeps.2) (puts start (event_lines es) before))

  pub breaks-after-events : (old : T) (left : List Watched) (held held_now : Option (List ℕ)) (pending : List ℕ) → left ≡ watchers old
      → BreaksOff held pending (tally_text left) held_now
      → (text : EventText) (es : List Event) (start : Option (List ℕ)) → HasTold TellsReport old text es start held pending
      → AppendsFront start held_now (text.whole es)
  breaks-after-events old left held held_now pending are breaks text es start t =
      let before = subst (λ (x : EventText). Wrote start held (x.so_far es) pending) t.keeps.1 t.wrote in
      subst (λ (x : EventText). AppendsFront start held_now (x.whole es)) (sym t.keeps.1)
      (subst (λ ws. AppendsFront start held_now (event_lines es ++ tally_text ws)) (are ∙ t.keeps.2) (breaks start (event_lines es) before))

-- a receiver that was just opened
pub report-start : {T : Type 0} (teller : T) (watchers : T → List Watched) (first : List Watched) (x : State) (period skew : ℕ) (aligned : Bool)
    → watchers teller ≡ first → HasBegun x period skew false → aligned ≡ false
    → IsListening (TellsReport watchers) x teller aligned (report_text first period skew) []
unfolding reports_of
report-start teller watchers first x period skew aligned same b none_yet =
    subst (λ a. IsListening (TellsReport watchers) x teller a (report_text first period skew) []) (sym none_yet)
    (listening-start (TellsReport watchers) x teller (told_report first) false period skew b (first, refl, same ∙ sym ((told_reports [] none first).first)) (report-grows first))
  where
    none : Report
    none = record { pair = 0; a = None; b = None; wrong = [] }

pub reports-grow : (first : List Watched) (period skew : ℕ) (beats more : List (List ℕ))
    → (rest : List ℕ) × ((report_text first period skew).so_far (beats ++ more) ≡ (report_text first period skew).so_far beats ++ rest)
reports-grow first period skew beats more = listening-grows (told_report first) false period skew (report-grows first) beats more

pub report-none : (first : List Watched) (period skew : ℕ) (x : State) (start : Option (List ℕ)) (pending : List ℕ)
    → HasBegun x period skew false → pending ≡ [] → Wrote start start ((report_text first period skew).so_far []) pending
report-none first period skew x start pending b empty = wrote-none start _ pending (ap event_lines (no-events false x period skew b) ∙ no-lines) empty

-- an answer other than a report changes no watchers
pub other-told : (a : Answer) (e : Event) (ws : List Watched) → ((r : Report) → a ≢ answer.Report r) → IsAnswer a e → ws ≡ told_event e ws
unfolding IsAnswer
other-told (answer.Failed fault) e ws other is = rw is refl
other-told (answer.Aligned order) e ws other is = rw is refl
other-told (answer.Report r) e ws other is = absurd (other r refl)
other-told answer.Frame e ws other is = rw is.1 refl
other-told (answer.Dropped why) e ws other is = rw is refl
other-told (answer.Lost at) e ws other is = rw is refl
other-told answer.Group e ws other is = rw is refl
other-told (answer.Column c) e ws other is = rw is refl

pub report-told : (a : Answer) (e : Event) (r : Report) (old new : List Watched) → a ≡ answer.Report r → IsAnswer a e → new ≡ told_all r old → new ≡ told_event e old
unfolding IsAnswer
report-told a e r old new same is told =
    let event : e ≡ report r = subst (λ x. IsAnswer x e) same is in
    told ∙ sym (ap (λ x. told_event x old) event)
