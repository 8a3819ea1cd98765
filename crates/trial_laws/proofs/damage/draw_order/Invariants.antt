use Rattle.std.proofs.Common.{◌≡◌}
use Rattle.lane_impair.specs.Noise.{state_after}
use Rattle.trial_laws.specs.Damage.{order_after}
use Rattle.trial_laws.proofs.damage.draw_order.Given as goal

abbrev pub invariant-loop-n : goal.invariant-loop-n
invariant-loop-n l = record {
  words : l.words ≡ state_after l.n l.fn.words;
  order : l.order ≡ order_after l.fn.words l.n;
}
