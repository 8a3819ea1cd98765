use Rattle.std.proofs.Common.{◌≡◌, drop, length, sym, subst, arith}
use Rattle.std.proofs.lemmas.List.{length-drop}
use Rattle.rs_code.proofs.Encoder.{rest_last, IsRest}
use Rattle.rs_code.proofs.Near.{codeword_of_is}
use Rattle.kr_code.proofs.Register.{rest_of_register}
use Rattle.kr_code.proofs.Rest.{parity_values, parity_rest_is}
use Rattle.kr_code.proofs.code.encode.Goals as goal

pub returns-clause-coded : goal.returns-clause-coded
returns-clause-coded c =
    let register = c.remainder-register.result in
    let rest = c.high_rest-rest.result in
    let message = c.args.message.now in
    let h = c.remainder-register.ensures in
    let parity = c.loop-k.parity in
    let is = parity_rest_is register rest parity h.long c.high_rest-rest.ensures.size c.loop-k.invariant.long (λ k less. c.loop-k.invariant.each k (omega arith)) in
    let short : length (drop 18 register) ≡ 14 = omega (arith, h.long, length-drop 18 register) in
    let values = parity_values (drop 18 register) rest message short c.high_rest-rest.ensures.size c.told-message
    (rest_of_register register _ h) c.high_rest-rest.ensures.values in
    codeword_of_is 14 parity message c.loop-k.invariant.long (omega (arith, c.told-message))
    (rest_last 14 parity message c.loop-k.invariant.long (subst (λ p. IsRest 14 14 p message) (sym is) values))
