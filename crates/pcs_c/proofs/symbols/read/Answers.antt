use Rattle.std.proofs.Common.{◌<◌, ◌∙◌, sym, length, map, arith}
use Rattle.std.proofs.lemmas.List.{ext_get_or, get_or-map, length-map}
use Rattle.gf1024.specs.Symbol.{symbol, zero_symbol}
use Rattle.pcs_c.proofs.symbols.read.Goals as goal

pub returns : goal.returns
returns c =
    let inv = c.loop-i.invariant in
    let numbers = c.args.numbers.now in
    ext_get_or zero_symbol c.loop-i.symbols (map symbol numbers) (inv.long ∙ sym (length-map numbers symbol))
    (λ k low.
    let less : k < length numbers = omega (arith, inv.long) in
    inv.each k (omega (arith, inv.long)) ∙ sym (get_or-map symbol numbers k 0 zero_symbol less))
