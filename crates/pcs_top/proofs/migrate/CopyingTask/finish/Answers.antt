use Rattle.pcs_top.proofs.Migrating.{copied}
use Rattle.pcs_top.proofs.migrate.CopyingTask.finish.Goals as goal

pub returns-clause-ok : goal.returns-clause-ok
returns-clause-ok g c = λ text beats start p. copied _ _ _ text beats start p
