use Rattle.pcs_receive.proofs.Hunts.{frames_by_hunts, columns_by_hunts}
use Rattle.pcs_receive.proofs.laws.events_go_by_hunts.Goals as goal

pub returns : goal.returns
returns c = record { with_frames = frames_by_hunts; with_columns = columns_by_hunts }
