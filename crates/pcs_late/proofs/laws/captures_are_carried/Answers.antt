use Rattle.pcs_late.proofs.Carried.{captures_are_carried}
use Rattle.pcs_late.proofs.laws.captures_are_carried.Goals as goal

pub returns : goal.returns
returns c = captures_are_carried
