use Rattle.std.proofs.Common.{◌≡◌, ◌<◌, ℕ, [], length, get_or}
use Rattle.pcs_c.specs.Pairs.{row_in}
use Rattle.pcs_c.proofs.rows.read_rows.Given as goal

abbrev pub invariant-loop-k : goal.invariant-loop-k
invariant-loop-k l = record {
  size : length l.rows ≡ 68;
  each : (i : ℕ) → i < l.k → get_or l.rows i [] ≡ row_in l.beats i;
}
