use Rattle.std.proofs.Common.{◌≡◌, ◌+◌, ◌-◌, ◌*◌, ◌/◌, ◌%◌, ◌<◌, ◌≤◌, ◌++◌, length, sym, ◌∙◌, ap, ap₂, subst, arith}
use Rattle.std.specs.Int.{div_ceil, to_le_bytes, w64}
use Rattle.std.proofs.lemmas.Slice.{take-put_mid}
use Rattle.std.proofs.lemmas.Grind.{common_steps}
use Rattle.rand_xoshiro.specs.SplitMix64.{next_state}
use Rattle.lane_impair.specs.Noise.{state_after, word_of}
use Rattle.trial_laws.specs.TrialFrames.{words_of, gap_of, behind_frame}
use Rattle.trial_laws.proofs.FrameWords.{first_state, first-next, next_word_state, no-words, one-word, size-first, ceil-room, made-frame}
use Rattle.trial_laws.proofs.frames.FrameMaker.make.Goals as goal

pub loop-k-init : goal.loop-k-init
loop-k-init c =
    let seed = c.args.self.now.state in
    let same : c.self.inside.words ≡ seed = ap (λ m. m.state) c.self.view_is in
    let first = c.draw-word.ensures.word ∙ ap word_of (same ∙ sym (first_state seed)) in
    record {
      words = c.draw-word.ensures.state ∙ ap next_state same ∙ first-next seed;
      octets = no-words seed;
      long = c.self.told;
      size = size-first seed c.draw-word.result first;
      first = first;
      count = c.div_ceil-k-end.ensures ∙ ap (λ n. div_ceil n 8) (size-first seed c.draw-word.result first);
    }

pub loop-k-preserved : goal.loop-k-preserved
loop-k-preserved c =
    let seed = c.args.self.now.state in
    let v = c.loop-k.invariant in
    let k = c.loop-k.k in
    let room : 8 * k + 8 ≤ 1088 = ceil-room c.draw-word.result k (subst (λ n. k < n) c.div_ceil-k-end.ensures c.loop-k-test.true) in
    let eight : length c.copy_from_slice.new.self ≡ 8 = ap length (c.copy_from_slice.ensures.after ∙ c.to_le_bytes-octets.ensures) in
    let drawn = c.draw.ensures.word ∙ ap word_of v.words in
    record {
      words = c.draw.ensures.state ∙ ap next_state v.words ∙ next_word_state (k + 1) seed;
      octets =
          take-put_mid (8 * k) (8 * k + 8 - 8 * k) c.loop-k.self-inside.octets c.copy_from_slice.new.self (8 * (k + 1)) (omega (arith, eight)) (omega (arith, room, v.long))
          ∙ ap₂ (λ xs ys. xs ++ ys) v.octets (c.copy_from_slice.ensures.after ∙ c.to_le_bytes-octets.ensures ∙ ap (to_le_bytes w64) drawn) ∙ sym (one-word seed k);
      long = grind (arith, common_steps);
      size = v.size;
      first = v.first;
      count = v.count;
    }

-- the last word was drawn
pub returns-clause-gap : goal.returns-clause-gap
unfolding gap_of
returns-clause-gap c =
    let v = c.loop-k.invariant in ap₂ (λ s w. (2 + s / 8) / 4 + 1 + w / 1024 % 8) v.size v.first

pub returns-clause-frame : goal.returns-clause-frame
returns-clause-frame c =
    let seed = c.args.self.now.state in
    let v = c.loop-k.invariant in
    let all : c.loop-k.k ≡ words_of seed = omega (arith, v.count, c.loop-k-test.false, c.loop-k.auto.k-end) in
    made-frame seed c.loop-k.k c.loop-k.self-inside.size c.loop-k.self-inside.octets all v.size v.octets

pub returns-clause-state : goal.returns-clause-state
unfolding behind_frame
returns-clause-state c =
    let seed = c.args.self.now.state in
    let v = c.loop-k.invariant in
    let all : c.loop-k.k + 1 ≡ 1 + words_of seed = omega (arith, v.count, c.loop-k-test.false, c.loop-k.auto.k-end) in
    v.words ∙ ap (λ n. state_after n seed) all
