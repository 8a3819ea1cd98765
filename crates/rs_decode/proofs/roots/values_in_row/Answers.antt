use Rattle.std.proofs.Common.{◌≡◌, ap, ◌∙◌, arith, take}
use Rattle.gf1024.specs.Symbol.{gf}
use Rattle.field_base.specs.Poly.{value}
use Rattle.rs_decode.specs.Repair.{place}
use Rattle.rs_code.proofs.Powers.{values_first, values_next}
use Rattle.rs_decode.proofs.roots.values_in_row.Goals as goal

pub loop-j-init : goal.loop-j-init
loop-j-init c = record {
  so_far = c.requires.some;
  each = λ k less. values_first c.args.coefficients c.new-values.result (place k) c.lane.result k less c.lane.ensures c.new-values.ensures;
}

pub loop-j-preserved : goal.loop-j-preserved
loop-j-preserved c = record {
  so_far = omega (arith, c.loop-j-test.true);
  each = λ k less.
      values_next c.args.coefficients c.loop-j.values c.by_powers.result c.add-values.result c.lane-in-loop-j.result c.loop-j.j k less
      c.lane-in-loop-j.ensures (c.by_powers.ensures k less) c.add-values.ensures (c.loop-j.invariant.each k less);
}

pub returns : goal.returns
returns c = λ k less.
    let all : c.loop-j.j ≡ c.args.count = omega (arith, c.loop-j-test.false, c.loop-j.invariant.so_far) in
    c.loop-j.invariant.each k less ∙ ap (λ n. value gf (take n c.args.coefficients) (place k)) all
