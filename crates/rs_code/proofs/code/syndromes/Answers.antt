use Rattle.std.proofs.Common.{◌≡◌, length, arith}
use Rattle.rs_code.proofs.Taken.{no_values}
use Rattle.rs_code.proofs.code.syndromes.Goals as goal

pub returns-then-are_zero : goal.returns-then-are_zero
returns-then-are_zero c =
    let long : length c.rest_of-rest.result ≡ 30 = omega (arith, c.rest_of-rest.type_inv) in
    no_values c.rest_of-rest.result c.args.word.now long
    (λ k less. c.are_zero.ensures.0 c.if-are_zero.true k (omega (arith, long))) c.rest_of-rest.ensures
