use Rattle.std.proofs.Common.{◌*◌, None, sym, ap, arith}
use Rattle.std.specs.Prelude.{slice_index_or}
use Rattle.lane_deskew.specs.Lanes.{shifted}
use Rattle.lane_deskew.proofs.AllOf.{all_there, one_missing}
use Rattle.lane_deskew.proofs.each_lane.founds_of.Goals as goal

pub returns-in-None-clause-founds : goal.returns-in-None-clause-founds
returns-in-None-clause-founds c =
    sym (one_missing (λ k. shifted (8 * c.args.start) (slice_index_or c.args.founds.now k None)) 16 c.loop-lane.lane c.loop-lane-test.true
    (ap (shifted (8 * c.args.start)) c.in-None.is))

pub returns-clause-founds : goal.returns-clause-founds
returns-clause-founds c =
    sym (all_there (λ k. shifted (8 * c.args.start) (slice_index_or c.args.founds.now k None)) c.loop-lane.all 16 c.loop-lane.invariant.size
    (λ k d low. c.loop-lane.invariant.done k d (omega arith)))
