use Rattle.std.proofs.Common.{arith}
use Rattle.pcs_late.proofs.KrLemmas.{word-whole}
use Rattle.pcs_late.proofs.kr_text.word_of.Goals as goal

pub returns : goal.returns
returns g c =
    word-whole c.loop-i.word c.args.symbols.now c.loop-i.invariant.0
    (λ k low. c.loop-i.invariant.1 k (omega (arith, low, c.requires, c.loop-i-test.false)))
