use Rattle.std.proofs.Common.{◌≡◌, ◌+◌, ◌*◌, ◌/◌, [], false, get_or, sym, ap, subst, arith}
use Rattle.std.specs.Prelude.{if◌then◌else◌}
use Rattle.std.proofs.lemmas.Bool.{eq-eqb, ne_eqb}
use Rattle.bit_lists.specs.Bits.{bits}
use Rattle.lane_impair.specs.Holding.{is_at}
use Rattle.lane_impair.proofs.GrowthFacts.{GrowsBelow, grows_next, grows_past}
use Rattle.lane_impair.proofs.GroupFacts.{then_more, AreSteady, steady_next, grows_both}
use Rattle.lane_impair.proofs.growing.put_whole.Goals.{then-lengths-l, else-lengths-l}
use Rattle.lane_impair.proofs.growing.put_whole.Goals as goal

pub loop-l-preserved : goal.loop-l-preserved
loop-l-preserved c =
    let start = c.put_group.new.self in
    let lengths = c.lengths.result.now in
    let number = c.common_length-number.result / 8 in
    let octets = c.args.octets.now in
    let l = c.loop-l.l in
    let more = then_more lengths number octets in
    elim c.if-lengths-l.branch [
      | then-lengths-l w ↦
          let outside : is_at lengths number l ≡ false = ne_eqb (get_or lengths l 0) (8 * number) w.if-lengths-l.true in
          record {
            grows = subst (λ rows. GrowsBelow start rows more (l + 1)) (sym w.rows-is)
                (grows_next start c.loop-l.rows w.put.new.self more l 8 (get_or octets l 0) c.loop-l.invariant.grows (omega arith)
                (sym (ap (λ b. if b then [] else bits 8 (get_or octets l 0)) outside))
                w.put.ensures.lane (λ k xs other h. w.put.ensures.others k xs other h) w.put.ensures.rows w.put.ensures.rest);
            steady = subst (AreSteady lengths number start) (sym w.rows-is)
                (steady_next lengths number start c.loop-l.rows w.put.new.self l 8 outside w.put.ensures.rest c.loop-l.invariant.steady);
          }
      | else-lengths-l w ↦
          record {
            grows = subst (λ rows. GrowsBelow start rows more (l + 1)) (sym w.rows-is)
                (grows_past start c.loop-l.rows more l c.loop-l.invariant.grows
                (ap (λ b. if b then [] else bits 8 (get_or octets l 0)) (eq-eqb (get_or lengths l 0) (8 * number) w.if-lengths-l.false)));
            steady = subst (AreSteady lengths number start) (sym w.rows-is) c.loop-l.invariant.steady;
          }
    ]

pub returns : goal.returns
returns c =
    let start = c.put_group.new.self in
    let number = c.common_length-number.result / 8 in
    let octets = c.args.octets.now in
    grows_both c.args.rows.now start c.loop-l.rows octets number c.loop-l.l (omega (arith, c.loop-l.auto.l-end))
    c.put_group.ensures.grows c.put_group.ensures.others
    (subst (λ lengths. GrowsBelow start c.loop-l.rows (then_more lengths number octets) c.loop-l.l) c.lengths.ensures c.loop-l.invariant.grows)
    (subst (λ lengths. AreSteady lengths number start c.loop-l.rows) c.lengths.ensures c.loop-l.invariant.steady)
