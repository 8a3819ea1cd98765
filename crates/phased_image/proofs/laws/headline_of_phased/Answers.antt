use Rattle.phased_image.proofs.PhasedImage.{headline_of_phased}
use Rattle.phased_image.proofs.laws.headline_of_phased.Goals as goal

pub returns : goal.returns
returns c = headline_of_phased
