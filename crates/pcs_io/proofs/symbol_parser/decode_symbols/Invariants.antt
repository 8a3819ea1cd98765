use Rattle.std.proofs.Common.{◌≡◌, ◌*◌, length, take}
use Rattle.pcs_io.specs.SymbolLines.{numbers_of, AreSmall}
use Rattle.pcs_io.proofs.symbol_parser.decode_symbols.Given as goal

abbrev pub invariant-loop-i : goal.invariant-loop-i
invariant-loop-i l = (take l.i l.symbols ≡ numbers_of (take (3 * l.i) l.digits)) × AreSmall l.symbols × (length l.symbols ≡ 528)
