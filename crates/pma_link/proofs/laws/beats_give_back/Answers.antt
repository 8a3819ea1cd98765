use Rattle.pma_link.proofs.PhasedBeats.{beats_give_back}
use Rattle.pma_link.proofs.laws.beats_give_back.Goals as goal

pub returns : goal.returns
returns c = beats_give_back
