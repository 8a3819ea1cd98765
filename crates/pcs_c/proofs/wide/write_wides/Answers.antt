use Rattle.std.proofs.Common.{◌<◌, [], ◌∙◌, length, map, arith}
use Rattle.std.proofs.lemmas.List.{ext_get_or, get_or-map, length-map}
use Rattle.pcs_bits.specs.Wides.{wide_bits}
use Rattle.pcs_c.proofs.wide.write_wides.Goals as goal

pub returns-clause-wides : goal.returns-clause-wides
returns-clause-wides c =
    let inv = c.loop-i.invariant in
    let words = c.loop-i.words in
    ext_get_or [] (map wide_bits words) c.args.wides.now (length-map words wide_bits ∙ inv.long)
    (λ k low.
    let less : k < length words = omega (arith, length-map words wide_bits, low) in
    get_or-map wide_bits words k [] [] less ∙ inv.each k (omega (arith, inv.long)))
