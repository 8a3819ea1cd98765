use Rattle.std.proofs.Common.{arith}
use Rattle.std.proofs.lemmas.Result.{err_from_is_err_and}
use Rattle.pcs_drive.proofs.WritingLemmas.{longer-none, longer-then}
use Rattle.pcs_top.proofs.ColumnText.{no-idles, puts-idle, breaks-idle, all-idles}
use Rattle.pcs_top.proofs.columns.put_idles.Goals as goal

pub loop-i-init : goal.loop-i-init
loop-i-init g c = record { put = no-idles _ _; later = omega arith; grows = longer-none _ }

pub returns-in_err-put-clause-err : goal.returns-in_err-put-clause-err
returns-in_err-put-clause-err g c =
    let exit = err_from_is_err_and c.from_residual.result c.from_residual.ensures.1 in
    rw exit.1 (breaks-idle _ _ c.line_of-line.ensures c.encode.ensures.block _ _ _ _ _ c.loop-i.i c.args.count (omega arith) c.loop-i.invariant.put c.in_err-put.ensures.err)

pub loop-i-preserved : goal.loop-i-preserved
loop-i-preserved g c = record {
  put = puts-idle _ _ c.line_of-line.ensures c.encode.ensures.block _ _ _ _ _ _ c.loop-i.i c.loop-i.invariant.put c.in_ok-put.ensures.ok;
  later = omega (arith, c.loop-i.invariant.later, c.put.ensures.cause.later);
  grows = longer-then _ _ _ c.loop-i.invariant.grows c.in_ok-put.ensures.grows;
}

pub returns-clause-ok : goal.returns-clause-ok
returns-clause-ok g c = all-idles _ _ _ _ c.loop-i.i c.args.count (omega arith) c.loop-i.invariant.put
