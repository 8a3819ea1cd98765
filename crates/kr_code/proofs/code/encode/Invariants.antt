use Rattle.std.proofs.Common.{◌≡◌, ℕ, ◌<◌, ◌+◌, get_or, length}
use Rattle.gf1024.specs.Symbol.{zero_symbol, sum_of}
use Rattle.kr_code.proofs.code.encode.Given as goal

abbrev pub invariant-loop-k : goal.invariant-loop-k
invariant-loop-k l = record {
  long : length l.parity ≡ 14;
  each : (k : ℕ) → k < l.k → get_or l.parity k zero_symbol ≡ sum_of (get_or l.register (k + 18) zero_symbol) (get_or l.rest k zero_symbol);
}
