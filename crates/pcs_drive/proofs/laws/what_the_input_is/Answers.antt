use Rattle.pcs_drive.proofs.Deciding.{gave-input, left-input}
use Rattle.pcs_drive.proofs.laws.what_the_input_is.Goals as goal

pub returns-clause-gave : goal.returns-clause-gave
returns-clause-gave c = gave-input

pub returns-clause-left : goal.returns-clause-left
returns-clause-left c = left-input
