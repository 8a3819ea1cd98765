use Rattle.std.proofs.Common.{◌<◌, [], ◌∙◌, sym, length, map, arith}
use Rattle.std.proofs.lemmas.List.{ext_get_or, get_or-map, length-map}
use Rattle.pcs_c.specs.Blocks.{wide_meant}
use Rattle.pcs_c.proofs.pair.wides_meant.Goals as goal

pub returns : goal.returns
returns c =
    let inv = c.loop-i.invariant in
    let wides = c.args.wides.now in
    ext_get_or [] c.loop-i.all (map wide_meant wides) (inv.long ∙ sym (length-map wides wide_meant ∙ c.told-wides))
    (λ k low.
    let less : k < length wides = omega (arith, inv.long, c.told-wides) in
    inv.each k (omega (arith, inv.long)) ∙ sym (get_or-map wide_meant wides k [] [] less))
