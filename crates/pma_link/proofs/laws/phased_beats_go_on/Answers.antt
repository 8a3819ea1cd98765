use Rattle.pma_link.proofs.PhasedBeats.{given_beats_go_on, phased_beats_end, given_beats_stay}
use Rattle.pma_link.proofs.laws.phased_beats_go_on.Goals as goal

pub returns-clause-all : goal.returns-clause-all
returns-clause-all c = given_beats_go_on

pub returns-clause-end : goal.returns-clause-end
returns-clause-end c = phased_beats_end

pub returns-clause-stay : goal.returns-clause-stay
returns-clause-stay c = given_beats_stay
