use Rattle.std.proofs.Common.{None, ap}
use Rattle.std.specs.Prelude.{slice_index_or}
use Rattle.lane_deskew.specs.Lanes.{shifted}
use Rattle.lane_deskew.proofs.AllOf.{one_missing}
use Rattle.lane_deskew.proofs.each_lane.have_found.Goals as goal

pub returns-in-None : goal.returns-in-None
returns-in-None c = λ no s.
    one_missing (λ k. shifted s (slice_index_or c.args.founds.now k None)) 16 c.loop-lane.lane c.loop-lane-test.true (ap (shifted s) c.in-None.is)
