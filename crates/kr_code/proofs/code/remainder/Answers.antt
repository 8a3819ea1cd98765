use Rattle.std.proofs.Common.{◌≡◌, ◌-◌, take, drop, subst, arith}
use Rattle.gf1024.specs.Symbol.{gf}
use Rattle.field_base.specs.Poly.{plus}
use Rattle.kr_code.specs.Register.{IsShortRemainder}
use Rattle.kr_code.proofs.Generator.{generator_symbols}
use Rattle.kr_code.proofs.Register.{register_first_of, register_next_of}
use Rattle.kr_code.proofs.Rest.{top_long, top_at}
use Rattle.kr_code.proofs.code.remainder.Goals as goal

pub of_numbers-generator-requires : goal.of_numbers-generator-requires
of_numbers-generator-requires c = generator_symbols

pub loop-i-init : goal.loop-i-init
loop-i-init c =
    register_first_of c.new-register.result (plus gf (take 16 c.args.message.now) (drop 14 c.args.rest.now)) c.low.result 16 c.new-register.ensures c.low.ensures
    (top_long c.args.message.now c.args.rest.now c.told-message c.told-rest)

pub loop-i-preserved : goal.loop-i-preserved
loop-i-preserved c =
    register_next_of c.loop-i.register c.one_more-register.result (plus gf (take 16 c.args.message.now) (drop 14 c.args.rest.now)) c.loop-i.i 16 c.add-next.result
    (top_long c.args.message.now c.args.rest.now c.told-message c.told-rest) c.loop-i-test.true
    (top_at c.args.message.now c.args.rest.now c.loop-i.i c.index-message-i.result c.index-rest-i.result c.add-next.result c.told-message c.told-rest c.loop-i-test.true
    c.add-next.ensures)
    c.one_more-register.ensures c.loop-i.invariant

pub returns : goal.returns
returns c =
    let all : 16 - c.loop-i.i ≡ 0 = omega arith in
    subst (λ n. IsShortRemainder c.loop-i.register (drop n (plus gf (take 16 c.args.message.now) (drop 14 c.args.rest.now)))) all c.loop-i.invariant
