use Rattle.std.proofs.Common.{sym, ap, ◌∙◌, arith}
use Rattle.std.proofs.lemmas.List.{drop_all}
use Rattle.transcode257.specs.Wides.{first_is_known}
use Rattle.transcode257.proofs.Known.{known-next, known-here}
use Rattle.transcode257.proofs.joining.is_known.Goals as goal

pub loop-block-preserved : goal.loop-block-preserved
loop-block-preserved c = c.loop-block.invariant ∙ known-next c.args.blocks.now c.loop-block.block-index _ (omega (arith, c.told-blocks, c.loop-block-test.true)) c.if-block.false

pub returns-then-block : goal.returns-then-block
returns-then-block c =
    c.is_type.ensures ∙ sym (c.loop-block.invariant ∙ known-here c.args.blocks.now c.loop-block.block-index _ (omega (arith, c.told-blocks, c.loop-block-test.true)) c.if-block.true)

pub returns : goal.returns
returns c = sym (c.loop-block.invariant ∙ ap first_is_known (drop_all c.loop-block.block-index c.args.blocks.now (omega (arith, c.told-blocks, c.loop-block-test.false))))
