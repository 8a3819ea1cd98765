use Rattle.pcs_io.proofs.BlockLaws.{reads-blocks}
use Rattle.pcs_io.proofs.laws.the_form_of_a_block_line.Goals as goal

pub returns : goal.returns
returns c = reads-blocks
