use Rattle.std.proofs.Common.{◌≡◌, ◌+◌, ◌++◌, length, ◌∙◌, ap, arith, append-nil}
use Rattle.bit_lists.specs.Bits.{bits}
use Rattle.bit_lists.specs.Places.{joined}
use Rattle.symbol_deal.specs.Messages.{twenty_bits}
use Rattle.symbol_deal.proofs.Dealing.{pushed, dealt, all_dealt, five_words}
use Rattle.symbol_deal.proofs.bits_dealt.deal_five.Goals as goal

pub returns-clause-bits : goal.returns-clause-bits
returns-clause-bits c =
    let n = c.args.count in
    let old = c.args.messages.now in
    let m1 = c.deal_forty.new.messages in
    let m2 = c.deal_forty-2.new.messages in
    let m3 = c.deal_forty-3.new.messages in
    let m4 = c.deal_forty-4.new.messages in
    let m5 = c.deal_forty-5.new.messages in
    let m6 = c.deal_forty-6.new.messages in
    let m7 = c.deal_forty-7.new.messages in
    let m8 = c.deal_forty-8.new.messages in
    let f0 = twenty_bits old.a old.b in
    let f1 = twenty_bits m1.a m1.b in
    let f2 = twenty_bits m2.a m2.b in
    let f3 = twenty_bits m3.a m3.b in
    let f4 = twenty_bits m4.a m4.b in
    let f5 = twenty_bits m5.a m5.b in
    let f6 = twenty_bits m6.a m6.b in
    let f7 = twenty_bits m7.a m7.b in
    let f8 = twenty_bits m8.a m8.b in
    let T0 = joined n f0 in
    let T1 = T0 ++ bits 64 c.args.a in
    let T2 = T1 ++ bits 64 c.args.b in
    let T3 = T2 ++ bits 64 c.args.c in
    let T4 = T3 ++ bits 64 c.args.d in
    let T5 = T4 ++ bits 64 c.args.e in
    let s0 : T0 ++ c.new-rest.result ≡ T0 = ap (λ q. T0 ++ q) c.new-rest.ensures ∙ append-nil T0 in
    let s1 = pushed (joined n f0) c.new-rest.result c.push.new.self (bits 64 c.args.a) T0 s0 c.push.ensures.bits in
    let s2 = dealt f0 f1 n (n + 2) c.push.new.self c.pop.new.self (bits 40 c.pop.result) T1 (omega arith) s1 c.deal_forty.ensures.bits c.pop.ensures.front in
    let s3 = pushed (joined (n + 2) f1) c.pop.new.self c.push-2.new.self (bits 64 c.args.b) T1 s2 c.push-2.ensures.bits in
    let s4 = dealt f1 f2 (n + 2) (n + 4) c.push-2.new.self c.pop-2.new.self (bits 40 c.pop-2.result) T2 (omega arith) s3 c.deal_forty-2.ensures.bits c.pop-2.ensures.front in
    let s5 = dealt f2 f3 (n + 4) (n + 6) c.pop-2.new.self c.pop-3.new.self (bits 40 c.pop-3.result) T2 (omega arith) s4 c.deal_forty-3.ensures.bits c.pop-3.ensures.front in
    let s6 = pushed (joined (n + 6) f3) c.pop-3.new.self c.push-3.new.self (bits 64 c.args.c) T2 s5 c.push-3.ensures.bits in
    let s7 = dealt f3 f4 (n + 6) (n + 8) c.push-3.new.self c.pop-4.new.self (bits 40 c.pop-4.result) T3 (omega arith) s6 c.deal_forty-4.ensures.bits c.pop-4.ensures.front in
    let s8 = pushed (joined (n + 8) f4) c.pop-4.new.self c.push-4.new.self (bits 64 c.args.d) T3 s7 c.push-4.ensures.bits in
    let s9 = dealt f4 f5 (n + 8) (n + 10) c.push-4.new.self c.pop-5.new.self (bits 40 c.pop-5.result) T4 (omega arith) s8 c.deal_forty-5.ensures.bits c.pop-5.ensures.front in
    let s10 = dealt f5 f6 (n + 10) (n + 12) c.pop-5.new.self c.pop-6.new.self (bits 40 c.pop-6.result) T4 (omega arith) s9 c.deal_forty-6.ensures.bits c.pop-6.ensures.front in
    let s11 = pushed (joined (n + 12) f6) c.pop-6.new.self c.push-5.new.self (bits 64 c.args.e) T4 s10 c.push-5.ensures.bits in
    let s12 = dealt f6 f7 (n + 12) (n + 14) c.push-5.new.self c.pop-7.new.self (bits 40 c.pop-7.result) T5 (omega arith) s11 c.deal_forty-7.ensures.bits c.pop-7.ensures.front in
    let s13 = dealt f7 f8 (n + 14) (n + 16) c.pop-7.new.self c.pop-8.new.self (bits 40 c.pop-8.result) T5 (omega arith) s12 c.deal_forty-8.ensures.bits c.pop-8.ensures.front in
    let none : length c.pop-8.new.self ≡ 0 = omega (
      arith,
      ap length c.new-rest.ensures,
      c.push.ensures.size,
      c.push-2.ensures.size,
      c.push-3.ensures.size,
      c.push-4.ensures.size,
      c.push-5.ensures.size,
      c.pop.ensures.size,
      c.pop-2.ensures.size,
      c.pop-3.ensures.size,
      c.pop-4.ensures.size,
      c.pop-5.ensures.size,
      c.pop-6.ensures.size,
      c.pop-7.ensures.size,
      c.pop-8.ensures.size,
    ) in
    all_dealt (joined (n + 16) f8) c.pop-8.new.self T5 s13 none ∙ five_words T0 c.args.a c.args.b c.args.c c.args.d c.args.e
