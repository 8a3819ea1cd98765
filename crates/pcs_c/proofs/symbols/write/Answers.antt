use Rattle.std.proofs.Common.{◌<◌, ◌∙◌, ap, inl, inr, length, map, arith, length-set, get_or-set_same, get_or-set_other}
use Rattle.std.proofs.lemmas.Bool.{cases_eq}
use Rattle.std.proofs.lemmas.List.{ext_get_or, get_or_default, get_or-map, length-map}
use Rattle.gf1024.specs.Symbol.{symbol, zero_symbol}
use Rattle.gf1024.proofs.Views.{symbol_of_value}
use Rattle.pcs_c.proofs.symbols.write.Goals as goal

pub loop-i-preserved : goal.loop-i-preserved
loop-i-preserved c =
    let inv = c.loop-i.invariant in
    let i = c.loop-i.i in
    let low : i < length c.loop-i.numbers = omega (arith, inv.long) in
    record {
      long = length-set _ _ _ ∙ inv.long;
      each = λ k less. elim (cases_eq k i) [
        | inl is ↦ rw is (rw get_or-set_same (ap symbol c.value.ensures.same ∙ symbol_of_value c.index-symbols-i.result
            ∙ c.index-symbols-i.is ∙ get_or_default c.args.symbols.now i c.index-symbols-i.result zero_symbol c.loop-i-test.true))
        | inr ne ↦ rw get_or-set_other (inv.each k (omega arith))
      ];
      small = λ k less. elim (cases_eq k i) [
        | inl is ↦ rw is (rw get_or-set_same c.value.ensures.small)
        | inr ne ↦ rw get_or-set_other (inv.small k (omega arith))
      ];
    }

pub returns-clause-symbols : goal.returns-clause-symbols
returns-clause-symbols c =
    let inv = c.loop-i.invariant in
    let numbers = c.loop-i.numbers in
    ext_get_or zero_symbol (map symbol numbers) c.args.symbols.now (length-map numbers symbol ∙ inv.long)
    (λ k low.
    let less : k < length numbers = omega (arith, length-map numbers symbol) in
    get_or-map symbol numbers k 0 zero_symbol less ∙ inv.each k (omega (arith, inv.long)))

pub returns-clause-small : goal.returns-clause-small
returns-clause-small c = λ k low. c.loop-i.invariant.small k (omega (arith, c.loop-i.invariant.long))
