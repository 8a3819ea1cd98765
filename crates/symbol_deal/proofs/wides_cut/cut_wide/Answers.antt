use Rattle.std.proofs.Common.{◌≡◌, ◌+◌, ◌∙◌, refl, sym, ap, length, set, arith, rules, length-set}
use Rattle.bit_lists.specs.Bits.{bits}
use Rattle.bit_lists.proofs.Facts.{all_bits-nil}
use Rattle.pcs_bits.proofs.WideFacts.{length-wide_bits}
use Rattle.symbol_deal.specs.Left.{bits_left}
use Rattle.symbol_deal.proofs.Taking.{one_more, popped, word_taken, last_taken}
use Rattle.symbol_deal.proofs.wides_cut.cut_wide.Goals as goal

pub loop-j-init : goal.loop-j-init
loop-j-init c =
    let none : c.args.at + 0 ≡ c.args.at = omega arith in
    record { five = search rules; size = refl; bits = rw (none, all_bits-nil) refl }

pub loop-j-preserved : goal.loop-j-preserved
loop-j-preserved c =
    let here = c.loop-j in
    let words = c.args.words.now in
    let at = c.args.at + here.j in
    let up : c.args.at + (here.j + 1) ≡ at + 1 = omega arith in
    let word = c.pop.result in
    let left = c.pop.new.self in
    let moved = one_more words at here.rest c.push.new.self (omega (arith, c.told-words, c.loop-j-test.true)) c.push.ensures.bits in
    let taken = popped words (at + 1) c.push.new.self (bits 64 word) left c.pop.ensures.front in
    record {
      five = length-set here.five here.j word ∙ here.invariant.five;
      size = omega (arith, here.invariant.size, c.push.ensures.size, c.pop.ensures.size);
      bits = rw up (here.invariant.bits
          ∙ word_taken here.five here.j word (bits_left words at here.rest) (bits_left words (at + 1) left)
          (omega (arith, here.invariant.five)) (sym moved ∙ taken));
    }

pub returns-clause-front : goal.returns-clause-front
returns-clause-front c =
    let here = c.loop-j in
    let words = c.args.words.now in
    let end : here.j ≡ 4 = omega arith in
    let taken = popped words (c.args.at + 4) here.rest (bits 1 c.pop-2.result) c.pop-2.new.self c.pop-2.ensures.front in
    (rw end at here.invariant.bits)
    ∙ last_taken here.five c.pop-2.result (bits_left words (c.args.at + 4) here.rest) (bits_left words (c.args.at + 4) c.pop-2.new.self)
    here.invariant.five taken ∙ rw c.new.ensures

pub returns-clause-length : goal.returns-clause-length
returns-clause-length c =
    let five = set c.loop-j.five 4 c.pop-2.result in
    ap length c.new.ensures ∙ length-wide_bits five (length-set c.loop-j.five 4 c.pop-2.result ∙ c.loop-j.invariant.five)
