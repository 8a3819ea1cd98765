use Rattle.std.proofs.Common.{◌≡◌, ◌-◌, length, take, drop, sym, ap, ap₂, ◌∙◌, arith}
use Rattle.std.proofs.lemmas.List.{length-drop, length-take, take-append-drop, take_all}
use Rattle.gf1024.specs.Symbol.{gf, sum_of, product_of, alpha}
use Rattle.field_base.specs.Field.{power}
use Rattle.field_base.specs.Poly.{value}
use Rattle.rs_code.proofs.Generator.{value_append}
use Rattle.rs_code.proofs.Powers.{power_times, powers_of_one}
use Rattle.rs_code.proofs.code.rest_values.Goals as goal

pub returns : goal.returns
returns c = λ j less.
    let r = c.args.rest.now in
    let x = power gf alpha j in
    let long : length (take 15 r) ≡ 15 = omega (arith, length-take 15 r, c.told-rest) in
    let rest : take (length r - 15) (drop 15 r) ≡ drop 15 r = take_all (length r - 15) (drop 15 r) (omega (arith, length-drop 15 r)) in
    let raised = powers_of_one 15 j _ _ c.low.ensures (c.by_powers.ensures j less) ∙ sym (power_times j 15) ∙ ap (power gf x) (sym long) in
    c.add.ensures.each j less
    ∙ ap₂ sum_of (c.short_values-2.ensures j less)
    (c.mul-high.ensures.each j less ∙ ap₂ product_of raised (c.short_values.ensures j less ∙ ap (λ l. value gf l x) rest))
    ∙ sym (value_append (take 15 r) (drop 15 r) x) ∙ ap (λ l. value gf l x) (take-append-drop 15 r)
