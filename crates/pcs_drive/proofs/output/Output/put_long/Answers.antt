use Rattle.std.proofs.lemmas.Result.{err_from_is_err_and}
use Rattle.pcs_drive.proofs.WritingLemmas.{longer-then}
use Rattle.pcs_drive.proofs.PuttingLong.{puts-long, breaks-long, breaks-before}
use Rattle.pcs_drive.proofs.output.Output.put_long.Goals as goal

pub returns-in_err-flush-clause-err : goal.returns-in_err-flush-clause-err
returns-in_err-flush-clause-err g c =
    let exit = err_from_is_err_and c.from_residual.result c.from_residual.ensures.1 in
    rw exit.1 (breaks-before _ _ _ _ c.in_err-flush.ensures.err)

pub returns-in_err-put_all-clause-err : goal.returns-in_err-put_all-clause-err
returns-in_err-put_all-clause-err g c =
    let exit = err_from_is_err_and c.from_residual-in_err-put_all.result c.from_residual-in_err-put_all.ensures.1 in
    rw exit.1 (breaks-long _ _ _ _ _ c.in_ok-flush.ensures.ok c.in_err-put_all.ensures.err)

pub returns-clause-ok : goal.returns-clause-ok
returns-clause-ok g c = puts-long _ _ _ _ _ _ c.in_ok-flush.ensures.ok c.in_ok-put_all.ensures.ok c.in_ok-flush.ensures.empty

pub returns-clause-grows : goal.returns-clause-grows
returns-clause-grows g c = longer-then _ _ _ c.in_ok-flush.ensures.grows (_, c.in_ok-put_all.ensures.ok)
