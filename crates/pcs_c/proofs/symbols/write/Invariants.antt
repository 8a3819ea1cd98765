use Rattle.std.proofs.Common.{◌≡◌, ℕ, ◌<◌, get_or, length}
use Rattle.gf1024.specs.Symbol.{symbol, zero_symbol}
use Rattle.pcs_c.proofs.symbols.write.Given as goal

abbrev pub invariant-loop-i : goal.invariant-loop-i
invariant-loop-i l = record {
  long : length l.numbers ≡ length l.symbols;
  each : (k : ℕ) → k < l.i → symbol (get_or l.numbers k 0) ≡ get_or l.symbols k zero_symbol;
  small : (k : ℕ) → k < l.i → get_or l.numbers k 0 < 1024;
}
