use Rattle.pcs_io.proofs.DigitRuns.{two-runs}
use Rattle.pcs_io.proofs.hex_digits.run_of_digits.Goals as goal

pub returns-clause-digits : goal.returns-clause-digits
returns-clause-digits c =
    two-runs c.args.octets.now c.chunks_of_digits-count.result c.single_digits.result c.chunks_of_digits-count.ensures.digits c.single_digits.ensures.digits
