use Rattle.std.proofs.Common.{◌∙◌, ap}
use Rattle.pcs_top.proofs.TriedFrames.{summary-is}
use Rattle.pcs_top.proofs.trial.Trying.summary.Goals as goal

pub returns : goal.returns
returns c =
    summary-is c.args.options.now c.args.self.now c.corrected.result c.back.result c.equal.result c.requires
    (c.corrected.ensures ∙ ap (λ x. x.corrected) c.counts-counts.ensures) (c.back.ensures ∙ ap (λ x. x.back) c.counts-counts.ensures)
    (rw c.counts-counts.ensures at c.equal.ensures)
