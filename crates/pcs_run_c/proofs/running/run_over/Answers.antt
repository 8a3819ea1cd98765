use Rattle.std.proofs.Common.{subst}
use Rattle.std.proofs.lemmas.Result.{IfOk-weaker}
use Rattle.pcs_run_c.specs.Running.{four_watchers, HasRun}
use Rattle.pcs_run_c.proofs.running.run_over.Goals as goal

pub returns : goal.returns
returns c =
    IfOk-weaker c.run_watched.result _ _
    (λ ran run. subst (λ ws. HasRun four_watchers ws c.args.input.now ran.sink.held ran.notes.held ran.status) c.in_ok-words.ensures run)
    c.run_watched.ensures
