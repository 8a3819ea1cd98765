use Rattle.std.proofs.Common.{ap}
use Rattle.pcs_top.proofs.Telling.{is_aligned, aligned-by, not-aligned}
use Rattle.pcs_top.proofs.listening.aligned_after.Goals as goal

pub returns-in-Aligned : goal.returns-in-Aligned
returns-in-Aligned c = λ told is. (aligned-by c.args.event.now told c.args.aligned is).0 (ap is_aligned c.in-Aligned.is)

pub returns-in_default : goal.returns-in_default
returns-in_default c = λ told is. (aligned-by c.args.event.now told c.args.aligned is).1 (not-aligned c.args.event.now c.in_default.not-Aligned)
