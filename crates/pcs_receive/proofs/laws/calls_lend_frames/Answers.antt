use Rattle.pcs_receive.proofs.Told.{calls_tell, calls_lend_capture}
use Rattle.pcs_receive.proofs.BeforeLoss.{calls_lend_alignment}
use Rattle.pcs_receive.proofs.laws.calls_lend_frames.Goals as goal

pub returns : goal.returns
returns c = record { told = calls_tell; alignment = calls_lend_alignment; capture = calls_lend_capture }
