use Rattle.std.proofs.Common.{◌≡◌, ◌+◌, ◌*◌, ◌++◌, ◌∙◌, refl, sym, ap, arith, get_or-set_same}
use Rattle.std.proofs.lemmas.List.{take-set}
use Rattle.bit_lists.specs.Bits.{bits}
use Rattle.bit_lists.specs.Places.{joined}
use Rattle.bit_lists.proofs.Facts.{all_bits-nil}
use Rattle.symbol_deal.specs.Messages.{message_bits, twenty_bits}
use Rattle.symbol_deal.proofs.Dealing.{nothing_dealt}
use Rattle.symbol_deal.proofs.Gathering.{joined-two}
use Rattle.symbol_deal.proofs.bits_gathered.gather_words.Goals as goal

pub loop-q-init : goal.loop-q-init
loop-q-init c = record { long = refl; bits = all_bits-nil 64 ∙ sym (nothing_dealt _) }

pub loop-q-preserved : goal.loop-q-preserved
loop-q-preserved c =
    let up : 16 * (c.loop-q.q + 1) ≡ 16 * c.loop-q.q + 16 = omega arith in
    let up5 : 5 * (c.loop-q.q + 1) ≡ 5 * c.loop-q.q + 5 = omega arith in
    record { long = c.gather_five.array_long; bits = rw (up, up5) c.gather_five.ensures.bits }

pub returns : goal.returns
unfolding message_bits
returns c =
    let words = c.loop-q.words in
    let end : 16 * c.loop-q.q ≡ 512 = omega arith in
    let end5 : 5 * c.loop-q.q ≡ 160 = omega arith in
    rw (take-set words 160 c.forty.result, get_or-set_same words 160 c.forty.result 0 (omega (arith, c.loop-q.invariant.long)))
    (ap (λ t. t ++ bits 40 c.forty.result) (rw (end, end5) at c.loop-q.invariant.bits)
    ∙ ap (λ t. joined 512 (twenty_bits c.args.a.now c.args.b.now) ++ t) c.forty.ensures.bits ∙ sym (joined-two (twenty_bits c.args.a.now c.args.b.now) 512))
