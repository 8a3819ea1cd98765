use Rattle.std.proofs.Common.{◌≤◌, ap, ◌∙◌, arith, length}
use Rattle.std.proofs.lemmas.List.{get_or_default, take_all}
use Rattle.gf1024.specs.Symbol.{gf, zero_symbol, alpha}
use Rattle.field_base.specs.Field.{power}
use Rattle.field_base.specs.Poly.{value}
use Rattle.rs_code.proofs.Powers.{values_first, values_next}
use Rattle.rs_code.proofs.rows.powers.short_values.Goals as goal

pub loop-j-init : goal.loop-j-init
loop-j-init c = record {
  so_far = c.requires.some;
  each = λ k less.
      values_first c.args.coefficients.now c.new-values.result (power gf alpha k) c.index-coefficients-0.result k less
      (c.index-coefficients-0.is ∙ get_or_default c.args.coefficients.now 0 c.index-coefficients-0.result zero_symbol c.requires.some)
      c.new-values.ensures;
}

pub loop-j-preserved : goal.loop-j-preserved
loop-j-preserved c = record {
  so_far = omega (arith, c.loop-j-test.true);
  each = λ k less.
      values_next c.args.coefficients.now c.loop-j.values c.by_powers.result c.add-values.result c.index-coefficients-j.result c.loop-j.j k less
      (c.index-coefficients-j.is
      ∙ get_or_default c.args.coefficients.now c.loop-j.j c.index-coefficients-j.result zero_symbol c.loop-j-test.true)
      (c.by_powers.ensures k less) c.add-values.ensures (c.loop-j.invariant.each k less);
}

pub returns : goal.returns
returns c = λ k less.
    let all : length c.args.coefficients.now ≤ c.loop-j.j = omega (arith, c.loop-j-test.false) in
    c.loop-j.invariant.each k less ∙ ap (λ l. value gf l (power gf alpha k)) (take_all c.loop-j.j c.args.coefficients.now all)
