use Rattle.std.proofs.Common.{None, []}
use Rattle.std.proofs.lemmas.Result.{err_from_is_err_and}
use Rattle.pcs_drive.proofs.WritingLemmas.{longer-then}
use Rattle.pcs_drive.proofs.PuttingLong.{breaks-before}
use Rattle.pcs_top.proofs.TallyLines.{line-put, line-breaks-name, line-breaks-numbers, line-breaks-end}
use Rattle.pcs_top.proofs.tallies.put_tally.Goals as goal

pub returns-in_err-put-clause-err : goal.returns-in_err-put-clause-err
returns-in_err-put-clause-err g c =
    let exit = err_from_is_err_and c.from_residual.result c.from_residual.ensures.1 in
    rw exit.1 (breaks-before _ _ _ _ c.in_err-put.ensures.err)

pub returns-in_err-put_long-clause-err : goal.returns-in_err-put_long-clause-err
returns-in_err-put_long-clause-err g c =
    let exit = err_from_is_err_and c.from_residual-in_err-put_long.result c.from_residual-in_err-put_long.ensures.1 in
    let failed = rw (c.name_of.ensures) at c.in_err-put_long.ensures.err in
    rw exit.1 (line-breaks-name _ _ None None _ _ _ [] [] [] _ _ _ _ c.in_ok-put.ensures.ok failed)

pub returns-in_err-put_numbers-clause-err : goal.returns-in_err-put_numbers-clause-err
returns-in_err-put_numbers-clause-err g c =
    let exit = err_from_is_err_and c.from_residual-in_err-put_numbers.result c.from_residual-in_err-put_numbers.ensures.1 in
    let name = rw (c.name_of.ensures) at c.in_ok-put_long.ensures.ok in
    rw exit.1 (line-breaks-numbers _ _ _ None _ _ _ _ [] [] _ _ _ _ c.in_ok-put.ensures.ok name c.in_err-put_numbers.ensures.err)

pub returns-in_err-put-2-clause-err : goal.returns-in_err-put-2-clause-err
returns-in_err-put-2-clause-err g c =
    let exit = err_from_is_err_and c.from_residual-in_err-put-2.result c.from_residual-in_err-put-2.ensures.1 in
    let name = rw (c.name_of.ensures) at c.in_ok-put_long.ensures.ok in
    rw exit.1 (line-breaks-end _ _ _ _ _ _ _ _ _ [] _ _ _ _ c.in_ok-put.ensures.ok name c.in_ok-put_numbers.ensures.ok c.in_err-put-2.ensures.err)

pub returns-clause-ok : goal.returns-clause-ok
returns-clause-ok g c =
    let name = rw (c.name_of.ensures) at c.in_ok-put_long.ensures.ok in
    line-put _ _ _ _ _ _ _ _ _ _ _ _ _ _ c.in_ok-put.ensures.ok name c.in_ok-put_numbers.ensures.ok c.in_ok-put-2.ensures.ok

pub returns-clause-grows : goal.returns-clause-grows
returns-clause-grows g c =
    longer-then _ _ _ c.in_ok-put.ensures.grows
    (longer-then _ _ _ c.in_ok-put_long.ensures.grows (longer-then _ _ _ c.in_ok-put_numbers.ensures.grows c.in_ok-put-2.ensures.grows))
