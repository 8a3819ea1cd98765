use Rattle.pcs_send.proofs.CarriedBeats.{lanes-back}
use Rattle.pcs_send.proofs.laws.lanes_come_back.Goals as goal

pub returns : goal.returns
returns c = lanes-back
