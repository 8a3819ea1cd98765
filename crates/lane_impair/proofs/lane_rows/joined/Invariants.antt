use Rattle.std.proofs.Common.{◌≡◌, ◌<◌, ◌≤◌, ℕ, get_or, length}
use Rattle.std.specs.Prelude.{bit_or, if◌then◌else◌}
use Rattle.lane_impair.specs.Holding.{is_at}
use Rattle.lane_impair.proofs.lane_rows.joined.Given as goal

abbrev pub invariant-loop-l : goal.invariant-loop-l
invariant-loop-l l = record {
  size : length l.both ≡ 16;
  octets : (n : ℕ) → n < l.l → get_or l.both n 0
      ≡ (if is_at l.lengths l.number n then bit_or (get_or l.row n 0) (get_or l.octets n 0) else get_or l.row n 0);
  left : (n : ℕ) → l.l ≤ n → get_or l.both n 0 ≡ get_or l.row n 0;
}
