use Rattle.std.proofs.Common.{[], arith}
use Rattle.bit_lists.proofs.ByPlaces.{by_places}
use Rattle.lane_deskew.specs.State.{kept_row}
use Rattle.lane_deskew.proofs.pair.cut_rows.Goals as goal

pub returns : goal.returns
returns c =
    let most = c.loop-k-test.false in
    by_places 68 (kept_row c.args.octets.now c.args.shifts.now) c.loop-k.rows [] c.loop-k.invariant.size (λ k low. c.loop-k.invariant.done k (omega arith))
