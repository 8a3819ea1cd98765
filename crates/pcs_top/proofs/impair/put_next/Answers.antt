use Rattle.std.proofs.Common.{◌+◌, refl, ◌∙◌, arith}
use Rattle.std.proofs.lemmas.Result.{err_from_is_err_and}
use Rattle.pcs_drive.proofs.WritingLemmas.{longer-none, longer-then}
use Rattle.pcs_top.specs.Giving.{with_given}
use Rattle.pcs_top.proofs.GivingBeats.{gives-beat, beat-breaks, gives-none}
use Rattle.pcs_top.proofs.impair.put_next.Goals as goal

pub loop-beat-init : goal.loop-beat-init
loop-beat-init g c = record {
  gives = λ h front start has. (h.given, has);
  taken = refl;
  finished = refl;
  later = omega arith;
  grows = longer-none _;
}

pub loop-beat-preserved : goal.loop-beat-preserved
loop-beat-preserved g c = record {
  gives = λ h front start has.
      let (given, now) = c.loop-beat.invariant.gives h front start has in
      (given + 1, gives-beat _ _ (with_given h given) front start _ _ now _ c.in-Some.ensures.answer c.in-Some.ensures.stands c.in-Some.beat _ _ refl c.in_ok-put.ensures.ok);
  taken = c.next.ensures.state.0 ∙ c.loop-beat.invariant.taken;
  finished = c.next.ensures.state.1 ∙ c.loop-beat.invariant.finished;
  later = omega (arith, c.loop-beat.invariant.later, c.put.ensures.cause.later);
  grows = longer-then _ _ _ c.loop-beat.invariant.grows c.in_ok-put.ensures.grows;
}

pub returns-in_err-put-clause-err : goal.returns-in_err-put-clause-err
returns-in_err-put-clause-err g c =
    let exit = err_from_is_err_and c.from_residual.result c.from_residual.ensures.1 in
    rw exit.1 (λ h front start has.
    let (given, now) = c.loop-beat.invariant.gives h front start has in
    (given, now.come, beat-breaks _ _ (with_given h given) front start _ _ now _ c.in-Some.ensures.answer c.in-Some.ensures.stands _ c.in_err-put.ensures.err))

pub returns-clause-ok : goal.returns-clause-ok
returns-clause-ok g c = λ h front start has.
    let (given, now) = c.loop-beat.invariant.gives h front start has in
    let done = gives-none _ _ (with_given h given) front start _ _ now _ c.in_default.ensures.answer c.in_default.ensures.stands refl in
    (given, done.0, done.1)
