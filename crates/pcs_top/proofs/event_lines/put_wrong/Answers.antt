use Rattle.std.proofs.Common.{◌≡◌, ◌∙◌, ap, refl, rules, arith, length, codes, subst, take, ◌++◌}
use Rattle.pcs_top.proofs.EventLines.{none-yet, one-comma-more, all-commas, with_commas}
use Rattle.pcs_top.proofs.event_lines.put_wrong.Goals as goal

pub loop-lane-init : goal.loop-lane-init
loop-lane-init c = record { text = none-yet _ _ refl; size = omega arith }

pub loop-lane-preserved : goal.loop-lane-preserved
loop-lane-preserved c =
    let long : length c.args.wrong.now ≡ 16 = search rules in
    record {
      text = c.put.ensures.text ∙ ap (λ t. t ++ codes ",") c.put_count.ensures.text
          ∙ one-comma-more _ c.args.line.now.bytes c.args.wrong.now c.loop-lane.lane _ (omega arith) c.loop-lane.invariant.text;
      size = omega (arith, c.put.ensures.size, c.put_count.ensures.size, c.loop-lane.invariant.size);
    }

pub returns-clause-text : goal.returns-clause-text
returns-clause-text c =
    let long : length c.args.wrong.now ≡ 16 = search rules in
    let end : c.loop-lane.lane ≡ 15 = omega (arith, c.loop-lane-test.false, c.loop-lane.auto.lane-end) in
    c.put_count-2.ensures.text ∙ all-commas _ c.args.line.now.bytes c.args.wrong.now _ long
    (subst (λ n. c.loop-lane.line.bytes ≡ c.args.line.now.bytes ++ with_commas (take n c.args.wrong.now)) end c.loop-lane.invariant.text)
