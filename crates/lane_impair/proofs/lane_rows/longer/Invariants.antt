use Rattle.std.proofs.Common.{◌≡◌, ◌+◌, ◌<◌, ◌≤◌, ℕ, get_or, length}
use Rattle.std.specs.Prelude.{if◌then◌else◌}
use Rattle.lane_impair.specs.Holding.{is_at}
use Rattle.lane_impair.proofs.lane_rows.longer.Given as goal

abbrev pub invariant-loop-l : goal.invariant-loop-l
invariant-loop-l l = record {
  size : length l.grown ≡ 16;
  done : (n : ℕ) → n < l.l → get_or l.grown n 0
      ≡ (if is_at l.lengths l.number n then get_or l.lengths n 0 + 8 else get_or l.lengths n 0);
  left : (n : ℕ) → l.l ≤ n → get_or l.grown n 0 ≡ get_or l.lengths n 0;
}
