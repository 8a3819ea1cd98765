use Rattle.std.proofs.Common.{arith}
use Rattle.bit_lists.proofs.ByPlaces.{by_places}
use Rattle.gf1024.specs.Symbol.{zero_symbol}
use Rattle.pcs_c.specs.Pairs.{row_in, symbol_in}
use Rattle.pcs_c.proofs.rows.row_in.Goals as goal

pub returns : goal.returns
unfolding row_in
returns c =
    by_places 16 (symbol_in c.args.beats.now c.args.k) c.loop-lane.row zero_symbol c.loop-lane.invariant.size
    (λ i low. c.loop-lane.invariant.each i (omega arith))
