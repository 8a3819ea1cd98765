use Rattle.std.proofs.lemmas.Result.{err_from_is_err_and}
use Rattle.pcs_drive.proofs.WritingLemmas.{longer-then}
use Rattle.pcs_drive.proofs.PuttingLong.{breaks-before}
use Rattle.pcs_drive.proofs.PuttingMore.{breaks-within}
use Rattle.pcs_top.proofs.tallies.put_number.Goals as goal

pub returns-in_err-put-clause-err : goal.returns-in_err-put-clause-err
returns-in_err-put-clause-err g c =
    let exit = err_from_is_err_and c.from_residual.result c.from_residual.ensures.1 in
    rw exit.1 (breaks-before _ _ _ _ c.in_err-put.ensures.err)

pub returns-in_err-put-2-clause-err : goal.returns-in_err-put-2-clause-err
returns-in_err-put-2-clause-err g c =
    let exit = err_from_is_err_and c.from_residual-in_err-put-2.result c.from_residual-in_err-put-2.ensures.1 in
    rw exit.1 (breaks-within _ _ _ _ _ _ _ c.in_ok-put.ensures.ok c.in_err-put-2.ensures.err)

pub returns-clause-grows : goal.returns-clause-grows
returns-clause-grows g c = longer-then _ _ _ c.in_ok-put.ensures.grows c.in_ok-put-2.ensures.grows
