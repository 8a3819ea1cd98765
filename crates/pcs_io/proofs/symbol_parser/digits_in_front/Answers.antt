use Rattle.std.proofs.Common.{eqb-true, sym, refl}
use Rattle.pcs_io.proofs.SymbolRuns.{symbols-whole}
use Rattle.pcs_io.proofs.symbol_parser.digits_in_front.Goals as goal

pub returns-then-are_symbol_digits-clause-line : goal.returns-then-are_symbol_digits-clause-line
returns-then-are_symbol_digits-clause-line c =
    symbols-whole c.args.octets.now c.in_ok-count.count c.in_ok-count.ensures.0.high (eqb-true _ 10 c.in_ok-count.ensures.1) (sym c.if-is_width.ensures) (c.if-are_symbol_digits.ensures refl)
