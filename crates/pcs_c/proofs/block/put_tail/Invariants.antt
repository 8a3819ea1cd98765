use Rattle.std.proofs.Common.{◌≡◌, ℕ, ◌<◌, ◌≤◌, get_or, length}
use Rattle.pcs_c.proofs.block.put_tail.Given as goal

abbrev pub invariant-loop-i : goal.invariant-loop-i
invariant-loop-i l = record {
  long : length l.octets ≡ 8;
  first : (k : ℕ) → k < l.i → get_or l.octets k 0 ≡ get_or l.tail k 0;
  rest : (k : ℕ) → l.i ≤ k → get_or l.octets k 0 ≡ get_or l.fn.octets k 0;
}
