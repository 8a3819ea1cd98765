use Rattle.std.proofs.Common.{ℕ, ◌<◌}
use Rattle.std.specs.Prelude.{slice_index}
use Rattle.pcs_io.specs.SymbolLines.{MayStand}
use Rattle.pcs_io.proofs.symbol_parser.are_symbol_digits.Given as goal

abbrev pub invariant-loop-i : goal.invariant-loop-i
invariant-loop-i l = (k : ℕ) → k < l.i → MayStand k (slice_index l.digits k)
