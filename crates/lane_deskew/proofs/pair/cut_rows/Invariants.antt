use Rattle.std.proofs.Common.{◌≡◌, ℕ, ◌*◌, ◌<◌, length, get_or, []}
use Rattle.lane_deskew.specs.State.{kept_row}
use Rattle.lane_deskew.proofs.pair.cut_rows.Given as goal

abbrev pub invariant-loop-k : goal.invariant-loop-k
invariant-loop-k l = record {
  size : length l.rows ≡ 68;
  done : (n : ℕ) → n < 4 * l.k → get_or l.rows n [] ≡ kept_row l.octets l.shifts n;
}
