use Rattle.pcs_receive.proofs.BadPairs.{bad_pairs_close_frames}
use Rattle.pcs_receive.proofs.laws.bad_pairs_close_frames.Goals as goal

pub returns : goal.returns
returns c = bad_pairs_close_frames
