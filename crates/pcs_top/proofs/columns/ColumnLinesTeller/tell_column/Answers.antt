use Rattle.std.proofs.Common.{refl}
use Rattle.std.proofs.lemmas.Result.{on_ok_weaker, on_err_weaker}
use Rattle.pcs_top.proofs.ColumnText.{tells-column, breaks-at-column}
use Rattle.pcs_top.proofs.columns.ColumnLinesTeller.tell_column.Goals as goal

pub returns-clause-ok : goal.returns-clause-ok
returns-clause-ok g c =
    on_ok_weaker c.put_column.result (λ puts h told stands is last. tells-column (λ t. t.refill) _ _ _ told is _ _ c.args.column.now refl
    c.take-idles.result c.take-idles.ensures.answer _ _ c.take-idles.ensures.stands puts) c.put_column.ensures.ok

pub returns-clause-err : goal.returns-clause-err
returns-clause-err g c =
    on_err_weaker c.put_column.result (λ breaks h told stands is last. breaks-at-column (λ t. t.refill) c.args.self.now c.args.self.now _ told is _ _ c.args.column.now refl
    c.take-idles.result c.take-idles.ensures.answer _ breaks) c.put_column.ensures.err
