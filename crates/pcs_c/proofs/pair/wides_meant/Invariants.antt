use Rattle.std.proofs.Common.{◌≡◌, ℕ, ◌<◌, [], get_or, length}
use Rattle.pcs_c.specs.Blocks.{wide_meant}
use Rattle.pcs_c.proofs.pair.wides_meant.Given as goal

abbrev pub invariant-loop-i : goal.invariant-loop-i
invariant-loop-i l = record {
  long : length l.all ≡ 40;
  each : (k : ℕ) → k < l.i → get_or l.all k [] ≡ wide_meant (get_or l.wides k []);
}
