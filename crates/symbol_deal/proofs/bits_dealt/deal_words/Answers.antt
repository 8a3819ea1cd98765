use Rattle.std.proofs.Common.{◌≡◌, ◌+◌, ◌*◌, ◌++◌, ◌∷◌, [], ◌∙◌, rules, sym, ap, get_or, arith}
use Rattle.bit_lists.specs.Bits.{bits, all_bits}
use Rattle.bit_lists.proofs.Facts.{all_bits-nil}
use Rattle.symbol_deal.specs.Messages.{message_bits}
use Rattle.symbol_deal.proofs.Dealing.{nothing_dealt}
use Rattle.symbol_deal.proofs.Packing.{five_more}
use Rattle.symbol_deal.proofs.bits_dealt.deal_words.Goals as goal

pub loop-q-init : goal.loop-q-init
loop-q-init c = record { a_size = search rules; b_size = search rules; bits = nothing_dealt _ ∙ sym (all_bits-nil 64) }

pub loop-q-preserved : goal.loop-q-preserved
loop-q-preserved c =
    let words = c.args.words.now in
    let n = 5 * c.loop-q.q in
    let up : 16 * (c.loop-q.q + 1) ≡ 16 * c.loop-q.q + 16 = omega arith in
    let up5 : 5 * (c.loop-q.q + 1) ≡ n + 5 = omega arith in
    let five = get_or words n 0 ∷ get_or words (n + 1) 0 ∷ get_or words (n + 2) 0 ∷ get_or words (n + 3) 0 ∷ get_or words (n + 4) 0 ∷ [] in
    record {
      a_size = c.deal_five.ensures.a_size;
      b_size = c.deal_five.ensures.b_size;
      bits = rw (up, up5) (c.deal_five.ensures.bits ∙ ap (λ t. t ++ all_bits 64 five) c.loop-q.invariant.bits
          ∙ sym (five_more words n (omega (arith, c.told-words, c.loop-q-test.true))));
    }

pub returns-clause-bits : goal.returns-clause-bits
unfolding message_bits
returns-clause-bits c =
    let end : 16 * c.loop-q.q ≡ 512 = omega arith in
    let end5 : 5 * c.loop-q.q ≡ 160 = omega arith in
    c.deal_forty.ensures.bits
    ∙ ap (λ t. t ++ bits 40 (get_or c.args.words.now 160 0)) (rw (end, end5) at c.loop-q.invariant.bits)
