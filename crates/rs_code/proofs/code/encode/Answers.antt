use Rattle.std.proofs.Common.{◌≡◌, ◌++◌, drop, length, ap, ◌∙◌, arith}
use Rattle.std.proofs.lemmas.List.{length-drop}
use Rattle.rs_code.proofs.Encoder.{rest_last}
use Rattle.rs_code.proofs.Near.{codeword_of_is}
use Rattle.rs_code.proofs.Taken.{rest_of_remainder, parity_is}
use Rattle.rs_code.proofs.code.encode.Goals as goal

pub returns-clause-coded : goal.returns-clause-coded
returns-clause-coded c =
    let register = c.remainder-register.result in
    let message = c.args.message.now in
    let h = c.remainder-register.ensures in
    let parity = drop 2 register in
    let long : length parity ≡ 30 = omega (arith, h.long, length-drop 2 register) in
    ap (λ p. p ++ message) (parity_is 2 30 register c.loop-k.parity h.long c.loop-k.invariant.long
    (λ k less. c.loop-k.invariant.each k (omega arith)))
    ∙ codeword_of_is 30 parity message long (omega (arith, c.told-message))
    (rest_last 30 parity message long (rest_of_remainder register message h))
