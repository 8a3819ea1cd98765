use Rattle.pcs_io.proofs.BlockLaws.{refuses-blocks}
use Rattle.pcs_io.proofs.laws.the_first_bad_octet_of_blocks.Goals as goal

pub returns : goal.returns
returns c = refuses-blocks
