use Rattle.pcs_io.proofs.SymbolLaws.{reads-symbols}
use Rattle.pcs_io.proofs.laws.the_form_of_a_symbol_line.Goals as goal

pub returns : goal.returns
returns c = reads-symbols
