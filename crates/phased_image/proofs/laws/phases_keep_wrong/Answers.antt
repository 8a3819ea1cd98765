use Rattle.phased_image.proofs.PhasedWrong.{phases_keep_wrong}
use Rattle.phased_image.proofs.laws.phases_keep_wrong.Goals as goal

pub returns : goal.returns
returns c = phases_keep_wrong
