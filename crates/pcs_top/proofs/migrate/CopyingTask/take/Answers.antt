use Rattle.std.proofs.Common.{[], ◌∷◌, append-nil}
use Rattle.std.proofs.lemmas.Result.{on_ok_weaker, on_err_weaker}
use Rattle.pcs_top.proofs.Migrating.{copies, breaks-copying}
use Rattle.pcs_top.proofs.migrate.CopyingTask.take.Goals as goal

pub returns-clause-ok : goal.returns-clause-ok
returns-clause-ok g c =
    on_ok_weaker c.put.result (λ puts text beats start p. copies _ _ c.args.beat _ _ _ _ puts text beats (c.args.beat ∷ []) start (append-nil c.args.beat) p) c.put.ensures.ok

pub returns-clause-err : goal.returns-clause-err
returns-clause-err g c =
    on_err_weaker c.put.result (λ breaks text beats start p. breaks-copying _ c.args.beat _ _ _ breaks text beats (c.args.beat ∷ []) start (append-nil c.args.beat) p) c.put.ensures.err
