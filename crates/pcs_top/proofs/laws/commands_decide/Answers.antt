use Rattle.pcs_top.proofs.Completeness.{encode-decides, commands-decide}
use Rattle.pcs_top.proofs.laws.commands_decide.Goals as goal

pub returns-clause-encode : goal.returns-clause-encode
returns-clause-encode c = encode-decides

pub returns-clause-all : goal.returns-clause-all
returns-clause-all c = commands-decide
