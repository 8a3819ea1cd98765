use Rattle.std.proofs.Common.{arith}
use Rattle.pcs_io.proofs.DigitRuns.{two-runs}
use Rattle.pcs_io.proofs.hex_digits.chunks_of_digits.Goals as goal

pub loop-count-preserved : goal.loop-count-preserved
loop-count-preserved c = record {
  within = omega arith;
  digits = two-runs c.args.octets.now c.loop-count.count 32 c.loop-count.invariant.digits (c.is_chunk.ensures c.if-is_chunk.true);
}
