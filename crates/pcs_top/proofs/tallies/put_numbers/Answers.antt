use Rattle.std.proofs.Common.{arith}
use Rattle.std.proofs.lemmas.Result.{err_from_is_err_and}
use Rattle.pcs_drive.proofs.WritingLemmas.{longer-none, longer-then}
use Rattle.pcs_top.proofs.TallyLines.{no-numbers, puts-number, breaks-number, puts-numbers, at-within, at-smaller}
use Rattle.pcs_top.proofs.tallies.put_numbers.Goals as goal

pub loop-number-init : goal.loop-number-init
loop-number-init g c = record { within = omega arith; put = no-numbers _ _; later = omega arith; grows = longer-none _ }

pub overflow_add-i : goal.overflow_add-i
overflow_add-i g c =
    let tally = (goal.Watcher-dyn g (c.args.watcher.now.vtable, c.args.watcher.now.value)).tally c.args.watcher.now.value in
    omega (arith, at-within tally c.loop-number.i c.in-Some.number c.in-Some.ensures.number, c.in-Some.ensures.count)

pub loop-number-smaller : goal.loop-number-smaller
loop-number-smaller g c = at-smaller _ _ _ c.in-Some.ensures.number

pub loop-number-preserved : goal.loop-number-preserved
loop-number-preserved g c = record {
  within = at-within _ _ _ c.in-Some.ensures.number;
  put = puts-number _ _ _ _ _ _ _ _ _ c.in-Some.ensures.number c.loop-number.invariant.put c.in_ok-put_number.ensures.ok;
  later = omega (arith, c.loop-number.invariant.later, c.put_number.ensures.cause.later);
  grows = longer-then _ _ _ c.loop-number.invariant.grows c.in_ok-put_number.ensures.grows;
}

pub returns-in_err-put_number-clause-err : goal.returns-in_err-put_number-clause-err
returns-in_err-put_number-clause-err g c =
    let exit = err_from_is_err_and c.from_residual.result c.from_residual.ensures.1 in
    rw exit.1 (breaks-number _ _ _ _ _ _ _ _ c.in-Some.ensures.number c.loop-number.invariant.put c.in_err-put_number.ensures.err)

pub returns-clause-ok : goal.returns-clause-ok
returns-clause-ok g c = puts-numbers _ _ _ _ _ _ c.in_default.ensures.number c.loop-number.invariant.put
