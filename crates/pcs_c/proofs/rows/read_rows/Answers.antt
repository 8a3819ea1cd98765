use Rattle.std.proofs.Common.{[], arith}
use Rattle.bit_lists.proofs.ByPlaces.{by_places}
use Rattle.pcs_c.specs.Pairs.{row_in, rows_in}
use Rattle.pcs_c.proofs.rows.read_rows.Goals as goal

pub returns : goal.returns
unfolding rows_in
returns c =
    by_places 68 (row_in c.args.beats.now) c.loop-k.rows [] c.loop-k.invariant.size
    (λ i low. c.loop-k.invariant.each i (omega arith))
