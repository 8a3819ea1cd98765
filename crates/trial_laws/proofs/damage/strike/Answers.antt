use Rattle.std.proofs.Common.{◌*◌, ◌/◌, ◌%◌, [], get_or, ◌∙◌, arith}
use Rattle.std.proofs.lemmas.List.{length-set}
use Rattle.std.proofs.lemmas.Nat.Bits.{bit_at-lt}
use Rattle.trial_laws.proofs.BurstBits.{one-bit, no-place}
use Rattle.trial_laws.proofs.damage.strike.Goals as goal

pub loop-n-init : goal.loop-n-init
loop-n-init c = record {
  size = c.told-pair;
  bits = λ k m low within. no-place _ k (c.args.word % 16) (10 * (c.args.word / 256 % 39)) m (bit_at-lt (get_or (get_or c.args.pair.now (m / 8) []) k 0) (m % 8));
}

pub loop-n-preserved : goal.loop-n-preserved
loop-n-preserved c =
    let v = c.loop-n.invariant in
    record {
      size = length-set c.loop-n.pair (c.loop-n.n / 8) _ ∙ v.size;
      bits = λ k m low within.
          one-bit c.args.pair.now c.loop-n.pair _ k (c.args.word % 16) (10 * (c.args.word / 256 % 39)) m c.loop-n.n c.loop-n.auto.n v.size
          (omega (arith, c.loop-n-test.true)) low (v.bits k m low within) (λ i few. c.invert.ensures k i low few);
    }
