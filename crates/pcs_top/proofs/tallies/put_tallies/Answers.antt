use Rattle.std.proofs.Common.{arith}
use Rattle.std.proofs.lemmas.Result.{err_from_is_err_and}
use Rattle.pcs_drive.proofs.WritingLemmas.{longer-none, longer-then}
use Rattle.pcs_top.proofs.TallyLines.{no-tallies, puts-tally, breaks-tally, puts-tallies}
use Rattle.pcs_top.proofs.tallies.put_tallies.Goals as goal

pub loop-i-init : goal.loop-i-init
loop-i-init g c = record { put = no-tallies _ _; later = omega arith; grows = longer-none _ }

pub returns-in_err-put_tally-clause-err : goal.returns-in_err-put_tally-clause-err
returns-in_err-put_tally-clause-err g c =
    let exit = err_from_is_err_and c.from_residual.result c.from_residual.ensures.1 in
    rw exit.1 (breaks-tally c.args.watchers.now _ _ _ _ _ _ c.loop-i.i c.index-watchers-i.result c.loop-i-test.true c.index-watchers-i.is c.loop-i.invariant.put c.in_err-put_tally.ensures.err)

pub loop-i-preserved : goal.loop-i-preserved
loop-i-preserved g c = record {
  put = puts-tally c.args.watchers.now _ _ _ _ _ _ _ c.loop-i.i c.index-watchers-i.result c.loop-i-test.true c.index-watchers-i.is c.loop-i.invariant.put c.in_ok-put_tally.ensures.ok;
  later = omega (arith, c.loop-i.invariant.later, c.put_tally.ensures.cause.later);
  grows = longer-then _ _ _ c.loop-i.invariant.grows c.in_ok-put_tally.ensures.grows;
}

pub returns-clause-ok : goal.returns-clause-ok
returns-clause-ok g c = puts-tallies c.args.watchers.now _ _ _ _ _ _ (omega (arith, c.loop-i-test.false, c.loop-i.auto.i-end)) c.loop-i.invariant.put
