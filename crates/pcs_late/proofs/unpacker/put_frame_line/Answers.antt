use Rattle.std.proofs.lemmas.Result.{err_from_is_err_and}
use Rattle.pcs_drive.proofs.WritingLemmas.{longer-then}
use Rattle.pcs_drive.proofs.PuttingLong.{breaks-before}
use Rattle.pcs_drive.proofs.PuttingMore.{puts-both, breaks-within, breaks-later}
use Rattle.pcs_late.proofs.unpacker.put_frame_line.Goals as goal

pub returns-in_err-put_gap-clause-err : goal.returns-in_err-put_gap-clause-err
returns-in_err-put_gap-clause-err g c =
    let exit = err_from_is_err_and c.from_residual.result c.from_residual.ensures.1 in
    rw exit.1 (breaks-before _ _ _ _ c.in_err-put_gap.ensures.err)

pub returns-in_err-put-clause-err : goal.returns-in_err-put-clause-err
returns-in_err-put-clause-err g c =
    let exit = err_from_is_err_and c.from_residual-in_err-put.result c.from_residual-in_err-put.ensures.1 in
    rw exit.1 (breaks-within _ _ _ _ _ _ _ c.in_ok-put_gap.ensures.ok c.in_err-put.ensures.err)

pub returns-in_err-put_hex_line-clause-err : goal.returns-in_err-put_hex_line-clause-err
returns-in_err-put_hex_line-clause-err g c =
    let exit = err_from_is_err_and c.from_residual-in_err-put_hex_line.result c.from_residual-in_err-put_hex_line.ensures.1 in
    rw exit.1 (breaks-later _ _ _ _ _ _ _ c.in_ok-put_gap.ensures.ok (breaks-within _ _ _ _ _ _ _ c.in_ok-put.ensures.ok c.in_err-put_hex_line.ensures.err))

pub returns-clause-ok : goal.returns-clause-ok
returns-clause-ok g c = puts-both _ _ _ _ _ _ _ _ c.in_ok-put_gap.ensures.ok (puts-both _ _ _ _ _ _ _ _ c.in_ok-put.ensures.ok c.in_ok-put_hex_line.ensures.ok)

pub returns-clause-grows : goal.returns-clause-grows
returns-clause-grows g c =
    longer-then _ _ _ c.in_ok-put_gap.ensures.grows (longer-then _ _ _ c.in_ok-put.ensures.grows c.in_ok-put_hex_line.ensures.grows)
