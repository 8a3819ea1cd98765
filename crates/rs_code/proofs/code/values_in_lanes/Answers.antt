use Rattle.std.proofs.Common.{◌≡◌, ◌*◌, ◌-◌, ◌∙◌, ap, arith, drop, length}
use Rattle.gf1024.specs.Symbol.{gf, alpha}
use Rattle.field_base.specs.Field.{power}
use Rattle.field_base.specs.Poly.{value}
use Rattle.rs_code.proofs.Powers.{powers_of_one}
use Rattle.rs_code.proofs.Row.{sums_first, sums_next}
use Rattle.rs_code.proofs.code.values_in_lanes.Goals as goal

pub loop-i-init : goal.loop-i-init
loop-i-init c = λ j less.
    sums_first c.args.word.now c.new-sums.result c.low-2.result j less c.low-2.ensures c.new-sums.ensures

pub loop-i-preserved : goal.loop-i-preserved
loop-i-preserved c =
    sums_next c.args.word.now c.loop-i.sums c.by_powers-steps.result c.horner-sums.result c.loop-i.i
    c.index-word-count.result c.loop-i-test.true c.index-word-count.is c.horner-sums.ensures
    (λ j less. let same : j * 1 ≡ j = omega arith in
    powers_of_one 1 j _ _ c.low.ensures (c.by_powers-steps.ensures j less) ∙ ap (power gf alpha) same) c.loop-i.invariant

pub returns : goal.returns
returns c = λ j less.
    let all : length c.args.word.now - c.loop-i.i ≡ 0 = omega arith in
    c.loop-i.invariant j less ∙ ap (λ z. value gf (drop z c.args.word.now) (power gf alpha j)) all
