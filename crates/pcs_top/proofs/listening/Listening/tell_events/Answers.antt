use Rattle.std.proofs.Common.{ap, refl, ◌∙◌, arith}
use Rattle.std.proofs.lemmas.Result.{err_from_is_err_and}
use Rattle.pcs_receive.specs.State.{left_count}
use Rattle.pcs_drive.specs.CaptureCommand.{BeatsText}
use Rattle.pcs_receive.specs.declared.event.Event.TheVariants as event
use Rattle.pcs_drive.proofs.WritingLemmas.{longer-none, longer-then}
use Rattle.pcs_top.proofs.Telling.{aligned-by, telling-next, telling-failed, telling-all, telling-wrote}
use Rattle.pcs_top.proofs.listening.Listening.tell_events.Goals as goal

pub loop-event-init : goal.loop-event-init
loop-event-init g c = record { telling = λ text beats start begun. begun; weight = c.requires.ready; beats = refl; later = omega arith; grows = longer-none _ }

pub loop-column-init : goal.loop-column-init
loop-column-init g c =
    let answer = rw c.in-Some.is at c.next.ensures.answer in
    let some = rw c.in-Some.is at c.next.ensures.some in
    let fewer = rw c.in-Some.is at c.next.ensures.fewer in
    record {
      telling = λ text beats start begun.
          telling-next g.T.Teller.Keeps _ _ _ c.in-Some.event _ text beats start _ _
          (c.loop-event.invariant.telling text beats start begun) answer (some refl) _ _ _ _
          c.in_ok-tell.ensures.ok c.aligned_after-self.ensures;
      weight = omega (arith, c.loop-event.invariant.weight, c.tell.ensures.weight, fewer refl, ap (λ a. a.beats) c.next.ensures.same);
      beats = ap (λ a. a.beats) c.next.ensures.same ∙ c.loop-event.invariant.beats;
      later = omega (arith, c.loop-event.invariant.later, c.tell.ensures.cause.later);
      grows = longer-then _ _ _ c.loop-event.invariant.grows c.in_ok-tell.ensures.grows;
      fewer = omega arith;
    }

pub loop-column-preserved : goal.loop-column-preserved
loop-column-preserved g c =
    let column = c.in-Some-next_column.column in
    let answer = rw c.in-Some-next_column.is at c.next_column.ensures.answer in
    let some = rw c.in-Some-next_column.is at c.next_column.ensures.some in
    let fewer = rw c.in-Some-next_column.is at c.next_column.ensures.fewer in
    record {
      telling = λ text beats start begun.
          telling-next g.T.Teller.Keeps _ _ _ (event.Column column) _ text beats start _ _
          (c.loop-column.invariant.telling text beats start begun) answer (some refl) _ _ _ _
          c.in_ok-tell_column.ensures.ok (λ e is. (aligned-by (event.Column column) e _ is).1 refl);
      weight = omega (arith, c.loop-column.invariant.weight, c.tell_column.ensures.weight, fewer refl, ap (λ a. a.beats) c.next_column.ensures.same);
      beats = ap (λ a. a.beats) c.next_column.ensures.same ∙ c.loop-column.invariant.beats;
      later = omega (arith, c.loop-column.invariant.later, c.tell_column.ensures.cause.later);
      grows = longer-then _ _ _ c.loop-column.invariant.grows c.in_ok-tell_column.ensures.grows;
      fewer = omega (arith, c.loop-column.invariant.fewer, fewer refl);
    }

pub loop-event-smaller : goal.loop-event-smaller
loop-event-smaller g c =
    let fewer = rw c.in-Some.is at c.next.ensures.fewer in
    let none = rw c.in_default-next_column.is at c.next_column.ensures.none in
    omega (arith, fewer refl, c.loop-column.invariant.fewer, ap left_count none)

pub returns-in_err-tell-clause-err : goal.returns-in_err-tell-clause-err
returns-in_err-tell-clause-err g c =
    let exit = err_from_is_err_and c.from_residual.result c.from_residual.ensures.1 in
    let answer = rw c.in-Some.is at c.next.ensures.answer in
    let some = rw c.in-Some.is at c.next.ensures.some in
    rw exit.1 (λ text beats start begun.
    let t = c.loop-event.invariant.telling text beats start begun in
    telling-failed g.T.Teller.Keeps _ _ _ c.in-Some.event _ text beats start _ _ t answer (some refl)
    _ _ (ap (λ (x : BeatsText). x.so_far beats) t.is) c.in_err-tell.ensures.err)

pub returns-in_err-tell_column-clause-err : goal.returns-in_err-tell_column-clause-err
returns-in_err-tell_column-clause-err g c =
    let column = c.in-Some-next_column.column in
    let exit = err_from_is_err_and c.from_residual-in_err-tell_column.result c.from_residual-in_err-tell_column.ensures.1 in
    let answer = rw c.in-Some-next_column.is at c.next_column.ensures.answer in
    let some = rw c.in-Some-next_column.is at c.next_column.ensures.some in
    rw exit.1 (λ text beats start begun.
    let t = c.loop-column.invariant.telling text beats start begun in
    telling-failed g.T.Teller.Keeps _ _ _ (event.Column column) _ text beats start _ _ t answer (some refl)
    _ _ (ap (λ (x : BeatsText). x.so_far beats) t.is) c.in_err-tell_column.ensures.err)

pub returns-clause-ok : goal.returns-clause-ok
returns-clause-ok g c =
    let answer = rw c.in_default.is at c.next.ensures.answer in
    let none = rw c.in_default.is at c.next.ensures.none in λ text beats start begun.
    let t = c.loop-event.invariant.telling text beats start begun in
    (telling-all g.T.Teller.Keeps _ _ _ _ text beats start _ _ t answer none, telling-wrote g.T.Teller.Keeps _ _ _ text beats start _ _ t answer)
