use Rattle.std.proofs.Common.{◌≡◌, ℕ, ◌+◌, ◌∙◌, ◌++◌, List, length, take, set, ap, arith, append-nil, length-set}
use Rattle.bit_lists.specs.Bits.{all_bits}
use Rattle.bit_lists.specs.Places.{joined}
use Rattle.symbol_deal.specs.Messages.{twenty_bits}
use Rattle.symbol_deal.proofs.Dealing.{all_dealt}
use Rattle.symbol_deal.proofs.Gathering.{gathered, filled}
use Rattle.symbol_deal.proofs.bits_gathered.gather_five.Goals as goal

pub returns : goal.returns
returns c =
    let f = twenty_bits c.args.a.now c.args.b.now in
    let n = c.args.count in
    let p = c.args.at in
    let w0 = c.args.words.now in
    let w1 = set w0 p c.pop.result in
    let w2 = set w1 (p + 1) c.pop-2.result in
    let w3 = set w2 (p + 2) c.pop-3.result in
    let w4 = set w3 (p + 3) c.pop-4.result in
    let w5 = set w4 (p + 4) c.pop-5.result in
    let long1 : length w1 ≡ 161 = length-set w0 p c.pop.result ∙ c.told-words in
    let long2 : length w2 ≡ 161 = length-set w1 (p + 1) c.pop-2.result ∙ long1 in
    let long3 : length w3 ≡ 161 = length-set w2 (p + 2) c.pop-3.result ∙ long2 in
    let long4 : length w4 ≡ 161 = length-set w3 (p + 3) c.pop-4.result ∙ long3 in
    let before : List ℕ → ℕ → List ℕ = λ words k. all_bits 64 (take k words) in
    let s0 : before w0 p ++ c.new-rest.result ≡ joined n f = ap (λ q. before w0 p ++ q) c.new-rest.ensures ∙ append-nil _ ∙ c.requires.before in
    let s1 = gathered f n (n + 2) (before w0 p) _ c.push.new.self _ (omega arith) s0 c.push.ensures.bits c.forty.ensures.bits in
    let s2 = gathered f (n + 2) (n + 4) (before w0 p) _ c.push-2.new.self _ (omega arith) s1 c.push-2.ensures.bits c.forty-2.ensures.bits in
    let s3 = filled w0 p (p + 1) c.pop.result _ c.pop.new.self _ (omega arith) (omega (arith, c.told-words)) s2 c.pop.ensures.front in
    let s4 = gathered f (n + 4) (n + 6) (before w1 (p + 1)) _ c.push-3.new.self _ (omega arith) s3 c.push-3.ensures.bits c.forty-3.ensures.bits in
    let s5 = gathered f (n + 6) (n + 8) (before w1 (p + 1)) _ c.push-4.new.self _ (omega arith) s4 c.push-4.ensures.bits c.forty-4.ensures.bits in
    let s6 = filled w1 (p + 1) (p + 2) c.pop-2.result _ c.pop-2.new.self _ (omega arith) (omega (arith, long1)) s5 c.pop-2.ensures.front in
    let s7 = gathered f (n + 8) (n + 10) (before w2 (p + 2)) _ c.push-5.new.self _ (omega arith) s6 c.push-5.ensures.bits c.forty-5.ensures.bits in
    let s8 = filled w2 (p + 2) (p + 3) c.pop-3.result _ c.pop-3.new.self _ (omega arith) (omega (arith, long2)) s7 c.pop-3.ensures.front in
    let s9 = gathered f (n + 10) (n + 12) (before w3 (p + 3)) _ c.push-6.new.self _ (omega arith) s8 c.push-6.ensures.bits c.forty-6.ensures.bits in
    let s10 = gathered f (n + 12) (n + 14) (before w3 (p + 3)) _ c.push-7.new.self _ (omega arith) s9 c.push-7.ensures.bits c.forty-7.ensures.bits in
    let s11 = filled w3 (p + 3) (p + 4) c.pop-4.result _ c.pop-4.new.self _ (omega arith) (omega (arith, long3)) s10 c.pop-4.ensures.front in
    let s12 = gathered f (n + 14) (n + 16) (before w4 (p + 4)) _ c.push-8.new.self _ (omega arith) s11 c.push-8.ensures.bits c.forty-8.ensures.bits in
    let s13 = filled w4 (p + 4) (p + 5) c.pop-5.result _ c.pop-5.new.self _ (omega arith) (omega (arith, long4)) s12 c.pop-5.ensures.front in
    let none : length c.pop-5.new.self ≡ 0 = omega (
      arith,
      ap length c.new-rest.ensures,
      c.push.ensures.size,
      c.push-2.ensures.size,
      c.push-3.ensures.size,
      c.push-4.ensures.size,
      c.push-5.ensures.size,
      c.push-6.ensures.size,
      c.push-7.ensures.size,
      c.push-8.ensures.size,
      c.pop.ensures.size,
      c.pop-2.ensures.size,
      c.pop-3.ensures.size,
      c.pop-4.ensures.size,
      c.pop-5.ensures.size,
    ) in
    record { bits = all_dealt (before w5 (p + 5)) c.pop-5.new.self (joined (n + 16) f) s13 none }
