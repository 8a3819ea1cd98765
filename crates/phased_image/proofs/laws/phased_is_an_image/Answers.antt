use Rattle.phased_image.proofs.PhasedImage.{phased_is_an_image}
use Rattle.phased_image.proofs.laws.phased_is_an_image.Goals as goal

pub returns : goal.returns
returns c = phased_is_an_image
