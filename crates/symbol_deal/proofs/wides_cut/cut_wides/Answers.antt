use Rattle.std.proofs.Common.{◌≡◌, ◌≢◌, ◌<◌, ◌+◌, ◌-◌, ◌*◌, ◌∙◌, [], rules, sym, ap, length, arith, length-set, get_or-set_same, get_or-set_other, below_more}
use Rattle.bit_lists.specs.Bits.{all_bits}
use Rattle.bit_lists.proofs.Facts.{length-all_bits}
use Rattle.bit_lists.proofs.ByPlaces.{flat-nil}
use Rattle.symbol_deal.specs.Left.{bits_left}
use Rattle.symbol_deal.proofs.Taking.{one_more, wide_taken, all_taken, length-bits_left}
use Rattle.symbol_deal.proofs.wides_cut.cut_wides.Goals as goal

pub loop-i-init : goal.loop-i-init
loop-i-init c =
    let words = c.args.words.now in
    record {
      count = search rules;
      size = omega (arith, c.push.ensures.size, ap length c.new-rest.ensures);
      bits = rw flat-nil (one_more words 0 [] c.push.new.self (omega (arith, c.told-words)) (c.push.ensures.bits ∙ rw c.new-rest.ensures));
      each = λ n low. absurd (omega arith);
    }

pub loop-i-preserved : goal.loop-i-preserved
loop-i-preserved c =
    let here = c.loop-i in
    let words = c.args.words.now in
    let at = 4 * here.i + 1 in
    let up : 4 * (here.i + 1) + 1 ≡ at + 4 = omega arith in
    let wide = c.cut_wide.result in
    let low : here.i < length here.wides = omega (arith, here.invariant.count) in
    record {
      count = length-set here.wides here.i wide ∙ here.invariant.count;
      size = omega (arith, here.invariant.size, c.cut_wide.ensures.size);
      bits = rw up (sym (wide_taken here.wides here.i wide (bits_left words at here.rest) (bits_left words (at + 4) c.cut_wide.new.rest) low
          c.cut_wide.ensures.front) ∙ here.invariant.bits);
      each = below_more _ _
          (λ n h. let other : n ≢ here.i = omega arith in
          ap length (get_or-set_other here.wides here.i n wide [] other) ∙ here.invariant.each n h)
          (ap length (get_or-set_same here.wides here.i wide [] low) ∙ c.cut_wide.ensures.length);
    }

pub returns-clause-bits : goal.returns-clause-bits
returns-clause-bits c =
    let here = c.loop-i in
    let words = c.args.words.now in
    let left = bits_left words (4 * here.i + 1) here.rest in
    let end : 4 * here.i + 1 ≡ 161 = omega arith in
    let none : (length words - (4 * here.i + 1)) * 64 ≡ 0 = omega (arith, c.told-words) in
    all_taken here.wides left (all_bits 64 words) here.i (omega arith) here.invariant.count
    (omega (arith, here.invariant.size, length-bits_left words (4 * here.i + 1) here.rest, none, length-all_bits 64 words, c.told-words))
    here.invariant.bits

pub returns-clause-each : goal.returns-clause-each
returns-clause-each c = λ n low. c.loop-i.invariant.each n (omega arith)
