use Rattle.pcs_receive.proofs.BadPairs.{bad_bits_do_not_count}
use Rattle.pcs_receive.proofs.laws.bad_bits_do_not_count.Goals as goal

pub returns : goal.returns
returns c = bad_bits_do_not_count
