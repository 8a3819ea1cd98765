use Rattle.std.proofs.Common.{rules, true, false, length, ◌≡◌, ◌+◌, ◌<◌, sym, ap, ◌∙◌, drop, ◌∷◌, inl, inr, refl, subst, Some}
use Rattle.std.proofs.lemmas.Bool.{cases_lt, false≢true}
use Rattle.pcs_receive.specs.contracts.receiver.Receiver.{the_view}
use Rattle.pcs_receive.specs.declared.event.Event.TheVariants as answer
use Rattle.pcs_receive.specs.declared.receiver.Lead.TheVariants as lead
use Rattle.pcs_receive.specs.Hearings.{wants_columns}
use Rattle.pcs_receive.specs.State.{State, Stands}
use Rattle.pcs_receive.specs.Steps.{TakesEvent}
use Rattle.pcs_receive.proofs.Searching.{column-at, past-end}
use Rattle.pcs_receive.proofs.Given.{takes-answer, some-clause, no-column}
use Rattle.pcs_receive.proofs.Giving.{column-given, unframed-given}
use Rattle.pcs_receive.proofs.receiver.Receiver.next_column.Goals as goal
use Rattle.pcs_receive.proofs.receiver.Receiver.next_column.Goals.{then-not-is_nothing-via-then-not-is_nothing, then-not-is_nothing-via-else-not-is_nothing+then-is_past}

taken : (c : goal.After-self-in-Columns-1) → TakesEvent (Some (answer.Column c.index-column.result.now)) (the_view c.self.inside)
    (record (the_view c.self.inside) { framed = false; rest = drop (c.self.inside.given + 1) c.self.inside.columns.items })
taken c =
    let s : State = the_view c.self.inside in
    let no_lead : s.lead ≡ lead.Nothing = search rules in
    let items = c.self.inside.columns.items in
    let i = c.self.inside.given in
    let column = c.index-column.result.now in
    let inside : i < length items = elim (cases_lt i (length items)) [
      | inl less ↦ less
      | inr past ↦ absurd (false≢true (sym c.if-is_past.false
          ∙ c.is_past.ensures.1 (ap (drop i) c.deref.ensures.value ∙ past-end items i past)))
    ] in
    let rest = column-at items i column inside ∙ ap (λ x. x ∷ drop (i + 1) items) (sym (c.index-column.ensures)) in
    unframed-given _ s _
    (column-given (record s { framed = false }) column (drop (i + 1) items) no_lead refl (ap wants_columns c.in-Columns.is) rest)

pub returns-in-Columns-clause-answer : goal.returns-in-Columns-clause-answer
returns-in-Columns-clause-answer c = λ h x. takes-answer _ _ _ h (taken c) (subst (λ s. Stands s h) (sym c.self.view_is) x)

pub returns-in-Columns-clause-some : goal.returns-in-Columns-clause-some
returns-in-Columns-clause-some c = λ is h x. some-clause _ _ _ (taken c) refl h (subst (λ s. Stands s h) (sym c.self.view_is) x)

pub returns-in-Columns-clause-fewer : goal.returns-in-Columns-clause-fewer
returns-in-Columns-clause-fewer c = λ is. let t = taken c in rw (← c.self.view_is) (t.fewer refl)

pub returns-then-not-is_nothing-clause-when : goal.returns-then-not-is_nothing-clause-when
returns-then-not-is_nothing-clause-when c = λ h column x.
    let s : State = the_view c.self.inside in
    no-column s h column
    (λ columns no_lead. elim c.then-not-is_nothing.branch [
      | then-not-is_nothing-via-then-not-is_nothing w ↦
          let nothing : c.is_nothing.result ≡ true = c.is_nothing.ensures.1 no_lead in let not_so = w.if-not-is_nothing.true in cc
      | then-not-is_nothing-via-else-not-is_nothing+then-is_past w ↦
          sym (ap (drop c.self.inside.given) w.deref.ensures.value) ∙ w.is_past.ensures.0 w.if-is_past.true
    ])
    (subst (λ s. Stands s h) (sym c.self.view_is) x)

pub returns-in-Frames-clause-when : goal.returns-in-Frames-clause-when
returns-in-Frames-clause-when c = λ h column x.
    let s : State = the_view c.self.inside in
    let frames : s.columns ≡ false = ap wants_columns c.in-Frames.is in
    no-column s h column (λ columns no_lead. absurd (false≢true (sym frames ∙ columns))) (subst (λ s. Stands s h) (sym c.self.view_is) x)
