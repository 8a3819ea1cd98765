use Rattle.std.proofs.Common.{◌≡◌, ◌+◌, ◌*◌, ◌<◌, ◌∙◌, ap, rules, length, take, arith}
use Rattle.std.proofs.lemmas.List.{take_all}
use Rattle.bit_lists.specs.Bits.{all_bits}
use Rattle.bit_lists.specs.Places.{flat}
use Rattle.bit_lists.proofs.Facts.{all_bits-nil}
use Rattle.bit_lists.proofs.ByPlaces.{flat-nil}
use Rattle.symbol_deal.proofs.Packing.{wide_more, all_packed}
use Rattle.symbol_deal.proofs.packed.put_words.Goals as goal

pub loop-i-init : goal.loop-i-init
loop-i-init c = record {
  long = search rules;
  size = ap length c.new-rest.ensures;
  bits = rw (all_bits-nil, flat-nil) (c.new-rest.ensures);
}

pub loop-i-preserved : goal.loop-i-preserved
loop-i-preserved c =
    let here = c.loop-i in
    let up : 4 * (here.i + 1) ≡ 4 * here.i + 4 = omega arith in
    let low : here.i < length c.args.wides.now = omega (arith, c.told-wides) in
    record {
      long = c.put_wide.array_long;
      size = omega (arith, here.invariant.size, c.put_wide.ensures.size);
      bits = rw up (wide_more c.args.wides.now here.i c.index-wides-i.result (all_bits 64 (take (4 * here.i) here.words)) here.rest _
          low here.invariant.bits c.put_wide.ensures.bits);
    }

pub returns-clause-bits : goal.returns-clause-bits
returns-clause-bits c =
    let here = c.loop-i in
    let end : 4 * here.i ≡ 160 = omega arith in
    let all : take here.i c.args.wides.now ≡ c.args.wides.now = take_all here.i c.args.wides.now (omega (arith, c.told-wides)) in
    all_packed here.words c.pop.result here.rest c.pop.new.self (flat c.args.wides.now) here.invariant.long
    ((rw end at here.invariant.bits) ∙ ap flat all) c.pop.ensures.front
    (omega (arith, here.invariant.size, c.pop.ensures.size))
