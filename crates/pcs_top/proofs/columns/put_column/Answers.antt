use Rattle.std.proofs.lemmas.Result.{err_from_is_err_and}
use Rattle.pcs_drive.proofs.WritingLemmas.{longer-then}
use Rattle.pcs_drive.proofs.PuttingLong.{breaks-before}
use Rattle.pcs_top.proofs.ColumnText.{puts-column, breaks-behind}
use Rattle.pcs_top.proofs.columns.put_column.Goals as goal

pub returns-in_err-put-clause-err : goal.returns-in_err-put-clause-err
returns-in_err-put-clause-err g c =
    let exit = err_from_is_err_and c.from_residual.result c.from_residual.ensures.1 in
    rw exit.1 (breaks-before _ _ _ _ c.in_err-put.ensures.err)

pub returns-in_err-put_idles-clause-err : goal.returns-in_err-put_idles-clause-err
returns-in_err-put_idles-clause-err g c =
    let exit = err_from_is_err_and c.from_residual-in_err-put_idles.result c.from_residual-in_err-put_idles.ensures.1 in
    rw exit.1 (breaks-behind c.args.column.now _ _ c.line_of.ensures c.encode.ensures.block c.args.idles _ _ _ _ _ c.in_ok-put.ensures.ok c.in_err-put_idles.ensures.err)

pub returns-clause-ok : goal.returns-clause-ok
returns-clause-ok g c =
    puts-column c.args.column.now _ _ c.line_of.ensures c.encode.ensures.block c.args.idles _ _ _ _ _ _ c.in_ok-put.ensures.ok c.in_ok-put_idles.ensures.ok

pub returns-clause-grows : goal.returns-clause-grows
returns-clause-grows g c = longer-then _ _ _ c.in_ok-put.ensures.grows c.in_ok-put_idles.ensures.grows
