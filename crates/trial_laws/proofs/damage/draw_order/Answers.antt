use Rattle.std.proofs.Common.{◌≡◌, ◌∙◌, length, sym, ap, arith}
use Rattle.rand_xoshiro.specs.SplitMix64.{next_state}
use Rattle.lane_impair.specs.Noise.{state_after, word_of}
use Rattle.trial_laws.specs.Damage.{order_after}
use Rattle.trial_laws.proofs.FrameWords.{first_state, next_word_state}
use Rattle.trial_laws.proofs.DrawnItems.{begins-order, next-order, length-order}
use Rattle.trial_laws.proofs.damage.draw_order.Goals as goal

pub loop-n-init : goal.loop-n-init
loop-n-init c = record { words = sym (first_state c.args.words.now); order = begins-order c.args.words.now }

pub loop-n-preserved : goal.loop-n-preserved
loop-n-preserved c =
    let seed = c.args.words.now in
    let v = c.loop-n.invariant in
    record {
      words = c.draw.ensures.state ∙ ap next_state v.words ∙ next_word_state c.loop-n.n seed;
      order = next-order seed c.loop-n.n c.draw.result c.loop-n.order c.swap.new.self c.loop-n-test.true c.loop-n-test.array_long
          (c.swap.ensures.len ∙ c.loop-n-test.array_long) v.order (c.draw.ensures.word ∙ ap word_of v.words) c.swap.ensures.after;
    }

pub returns : goal.returns
returns c =
    let all : c.loop-n.n ≡ 15 = omega (arith, c.loop-n-test.false, c.loop-n.auto.n-end) in
    let v = c.loop-n.invariant in
    record {
      order = v.order ∙ ap (order_after c.args.words.now) all;
      state = v.words ∙ ap (λ n. state_after n c.args.words.now) all;
      size = ap length v.order ∙ length-order c.args.words.now c.loop-n.n;
    }
