use Rattle.pcs_io.proofs.SymbolNumbers.{numbers-three}
use Rattle.pcs_io.proofs.symbol_parser.symbol_of.Goals as goal

pub returns-clause-number : goal.returns-clause-number
returns-clause-number c = rw (c.value_of.ensures, c.value_of-2.ensures, c.value_of-3.ensures) (numbers-three c.args.digits.now c.requires.three)
