use Rattle.std.proofs.Common.{◌≡◌, ◌<◌, ◌+◌, ◌/◌, ◌%◌, ℕ, [], length, get_or}
use Rattle.std.specs.Prelude.{◌&&◌, ◌==◌, nat_le, nat_lt}
use Rattle.std.specs.Int.{bit_at}
use Rattle.bit_lists.specs.Bits.{bit_of}
use Rattle.trial_laws.proofs.damage.strike.Given as goal

abbrev pub invariant-loop-n : goal.invariant-loop-n
invariant-loop-n l = record {
  size : length l.pair ≡ 85;
  bits : (k m : ℕ) → k < 16 → m < 680 → bit_at (get_or (get_or l.pair (m / 8) []) k 0) (m % 8)
      ≡ (bit_at (get_or (get_or l.fn.pair (m / 8) []) k 0) (m % 8) + bit_of (k == l.lane && (nat_le l.first m && nat_lt m l.n))) % 2;
}
