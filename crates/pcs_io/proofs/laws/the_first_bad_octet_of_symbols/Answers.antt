use Rattle.pcs_io.proofs.SymbolLaws.{refuses-symbols}
use Rattle.pcs_io.proofs.laws.the_first_bad_octet_of_symbols.Goals as goal

pub returns : goal.returns
returns c = refuses-symbols
