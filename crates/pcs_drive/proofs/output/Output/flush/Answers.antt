use Rattle.std.proofs.lemmas.Result.{err_from_is_err_and}
use Rattle.pcs_drive.proofs.WritingLemmas.{wrote-front, wrote-flushed}
use Rattle.pcs_drive.proofs.output.Output.flush.Goals as goal

pub returns-in_err-put_all-clause-err : goal.returns-in_err-put_all-clause-err
returns-in_err-put_all-clause-err g c =
    let exit = err_from_is_err_and c.from_residual.result c.from_residual.ensures.1 in
    rw (exit.1, ← c.self.view_is) (λ start text wrote. wrote-front start _ _ text _ wrote c.in_err-put_all.ensures.err)

pub returns-clause-ok : goal.returns-clause-ok
returns-clause-ok g c = rw (← c.self.view_is) (λ start text wrote. wrote-flushed start _ _ text _ wrote c.in_ok-put_all.ensures.ok)
