use Rattle.std.proofs.Common.{◌≡◌, ◌+◌, ◌%◌, ◌∙◌, [], ap, arith, get_or-set_other}
use Rattle.std.proofs.lemmas.List.{length-set}
use Rattle.rand_xoshiro.specs.SplitMix64.{next_state}
use Rattle.lane_impair.specs.Noise.{state_after, word_of}
use Rattle.lane_impair.specs.declared.item.Item.TheVariants.{Order, Skew}
use Rattle.trial_laws.proofs.FrameWords.{next_word_state}
use Rattle.trial_laws.proofs.DrawnItems.{drawn-items, one-more-skew}
use Rattle.trial_laws.proofs.damage.draw_items.Goals as goal

pub loop-l-preserved : goal.loop-l-preserved
loop-l-preserved c =
    let seed = c.args.words.now in
    let limit = c.args.limit in
    let v = c.loop-l.invariant in
    let n = c.loop-l.l in
    let more : 15 + n + 1 ≡ 15 + (n + 1) = omega arith in
    let drawn = c.draw.ensures.word ∙ ap word_of v.words in
    let bits = c.draw.result % (limit + 1) in
    rw (c.from-in-loop-l.ensures, c.from.ensures) (record {
      words = c.draw.ensures.state ∙ ap next_state v.words ∙ next_word_state (15 + n) seed ∙ ap (λ k. state_after k seed) more;
      size = length-set c.loop-l.items (n + 1) (Skew n bits) ∙ v.size;
      order = get_or-set_other c.loop-l.items (n + 1) 0 (Skew n bits) (Order []) (λ same. omega (arith, same)) ∙ v.order;
      skews = one-more-skew seed limit n bits c.loop-l.items v.size c.loop-l-test.true v.skews (ap (λ w. w % (limit + 1)) drawn);
    })

pub returns-clause-items : goal.returns-clause-items
returns-clause-items c =
    let v = c.loop-l.invariant in
    drawn-items c.args.words.now c.args.limit c.loop-l.items v.size v.order (λ l low. v.skews l (omega (arith, low, c.loop-l-test.false)))
