use Rattle.impaired_image.proofs.ImpairedImage.{impaired_is_an_image}
use Rattle.impaired_image.proofs.laws.impaired_is_an_image.Goals as goal

pub returns : goal.returns
returns c = impaired_is_an_image
