use Rattle.std.proofs.Common.{◌≡◌, ℕ, ◌<◌, get_or, length}
use Rattle.gf1024.specs.Symbol.{symbol, zero_symbol}
use Rattle.pcs_c.proofs.symbols.read.Given as goal

abbrev pub invariant-loop-i : goal.invariant-loop-i
invariant-loop-i l = record {
  long : length l.symbols ≡ length l.numbers;
  each : (k : ℕ) → k < l.i → get_or l.symbols k zero_symbol ≡ symbol (get_or l.numbers k 0);
}
