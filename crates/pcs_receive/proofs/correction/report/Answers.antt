use Rattle.std.proofs.Common.{refl}
use Rattle.pcs_receive.specs.Reports.{report_of}
use Rattle.pcs_receive.proofs.correction.report.Goals as goal

pub returns : goal.returns
unfolding report_of
returns c = rw (c.requires.near_a_is, c.requires.near_b_is, c.replaced.ensures) refl
