use Rattle.std.proofs.Common.{◌≡◌, ℕ, ◌<◌, ◌≤◌, get_or, take}
use Rattle.gf1024.specs.Symbol.{gf, zero_symbol}
use Rattle.field_base.specs.Poly.{value}
use Rattle.rs_decode.specs.Repair.{place}
use Rattle.rs_decode.proofs.roots.values_in_row.Given as goal

abbrev pub invariant-loop-j : goal.invariant-loop-j
invariant-loop-j l = record {
  so_far : l.j ≤ l.count;
  each : (k : ℕ) → k < 32 → get_or l.values k zero_symbol ≡ value gf (take l.j l.coefficients) (place k);
}
