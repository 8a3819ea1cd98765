use Rattle.std.proofs.Common.{◌≡◌, drop}
use Rattle.transcode257.specs.Wides.{first_is_known}
use Rattle.transcode257.proofs.joining.is_known.Given as goal

abbrev pub invariant-loop-block : goal.invariant-loop-block
invariant-loop-block l = first_is_known l.fn.blocks ≡ first_is_known (drop l.block-index l.fn.blocks)
