use Rattle.pcs_top.proofs.Migrated.{is-migrated}
use Rattle.pcs_top.proofs.laws.captures_are_migrated.Goals as goal

pub returns : goal.returns
returns c = is-migrated
