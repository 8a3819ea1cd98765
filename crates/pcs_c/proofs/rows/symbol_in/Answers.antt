use Rattle.std.proofs.Common.{◌+◌, ◌*◌, ◌/◌, ◌∙◌, ℕ, List, [], arith, slice_index}
use Rattle.std.proofs.lemmas.List.{get_or-map, length-map}
use Rattle.pcs_send.specs.Lanes.{lane_octets}
use Rattle.pcs_c.specs.Pairs.{symbol_in}
use Rattle.pcs_c.proofs.SymbolsIn.{symbol_is}
use Rattle.pcs_c.proofs.rows.symbol_in.Goals as goal

pub returns : goal.returns
unfolding symbol_in lane_octets
returns c =
    let beats = c.args.beats.now in
    let octet : List ℕ → ℕ = λ beat. slice_index beat c.args.lane in
    let k = c.args.k in
    c.ten_bits.ensures.symbol
    ∙ symbol_is (lane_octets beats c.args.lane) k _ _ (omega (arith, length-map beats octet, c.told-beats, c.requires.0))
    (get_or-map octet beats (10 * k / 8) [] 0 (omega (arith, c.told-beats, c.requires.0)))
    (get_or-map octet beats (10 * k / 8 + 1) [] 0 (omega (arith, c.told-beats, c.requires.0)))
    c.ten_bits.ensures.octet
