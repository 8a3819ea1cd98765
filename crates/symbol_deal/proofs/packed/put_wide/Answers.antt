use Rattle.std.proofs.Common.{◌≡◌, ◌+◌, ◌∙◌, refl, length, length-set, take, arith, rules, append-nil}
use Rattle.bit_lists.specs.Bits.{all_bits}
use Rattle.bit_lists.proofs.Facts.{all_bits-nil}
use Rattle.symbol_deal.proofs.Packing.{word_packed, wide_packed}
use Rattle.symbol_deal.proofs.packed.put_wide.Goals as goal

pub loop-j-init : goal.loop-j-init
loop-j-init c =
    let none : c.args.at + 0 ≡ c.args.at = omega arith in
    record { long = c.told-words; size = refl; bits = rw (none, all_bits-nil, append-nil) refl }

pub loop-j-preserved : goal.loop-j-preserved
loop-j-preserved c =
    let here = c.loop-j in
    let at = c.args.at + here.j in
    let five : length c.words-five.result ≡ 5 = search rules in
    let up : c.args.at + (here.j + 1) ≡ at + 1 = omega arith in
    record {
      long = length-set here.words at c.pop.result ∙ here.invariant.long;
      size = omega (arith, here.invariant.size, c.push.ensures.size, c.pop.ensures.size);
      bits = rw up (word_packed here.words c.words-five.result at here.j c.pop.result
          (all_bits 64 (take c.args.at c.args.words.now)) c.args.rest.now here.rest c.push.new.self c.pop.new.self
          (omega (arith, here.invariant.long)) (omega arith) here.invariant.bits c.push.ensures.bits c.pop.ensures.front);
    }

pub returns-clause-bits : goal.returns-clause-bits
returns-clause-bits c =
    let here = c.loop-j in
    let five : length c.words-five.result ≡ 5 = search rules in
    let end : here.j ≡ 4 = omega arith in
    rw c.words-five.ensures.bits
    (wide_packed (all_bits 64 (take (c.args.at + 4) here.words)) (all_bits 64 (take c.args.at c.args.words.now)) c.args.rest.now
    here.rest c.push-2.new.self c.words-five.result five (rw end at here.invariant.bits) c.push-2.ensures.bits)
