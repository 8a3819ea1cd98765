use Rattle.pcs_top.proofs.top.perform_command.Goals as goal

pub returns-in-Trial : goal.returns-in-Trial
returns-in-Trial g c =
    rw c.in-Trial.is
    (c.trial.result, c.from-in-Trial.ensures, c.trial.ensures (g.R.Source.told c.args.source.now) (g.R.Source.ended c.args.source.now) (g.R.Source.faults c.args.source.now))
