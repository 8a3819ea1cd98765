use Rattle.std.proofs.Common.{◌≡◌, ℕ, ◌<◌, ◌*◌, get_or, length}
use Rattle.gf1024.specs.Symbol.{zero_symbol}
use Rattle.rs_decode.specs.Repair.{back_power}
use Rattle.rs_decode.proofs.roots.inverse_powers_of.Given as goal

abbrev pub invariant-loop-j : goal.invariant-loop-j
invariant-loop-j l = record {
  long : length l.list ≡ 32;
  each : (k : ℕ) → k < l.j → get_or l.list k zero_symbol ≡ back_power (l.i * k);
}
