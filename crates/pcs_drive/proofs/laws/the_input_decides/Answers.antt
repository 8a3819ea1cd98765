use Rattle.pcs_io.specs.FrameGrammar.{frame_grammar}
use Rattle.pcs_io.specs.BlockGrammar.{block_grammar}
use Rattle.pcs_io.specs.SymbolGrammar.{symbol_grammar}
use Rattle.pcs_io.specs.TextGrammar.{text_grammar}
use Rattle.pcs_drive.proofs.HeadersStay.{header-stays, levels-stay}
use Rattle.pcs_drive.proofs.Deciding.{lines-decide, files-decide, beats-decide}
use Rattle.pcs_drive.proofs.laws.the_input_decides.Goals as goal

pub returns-clause-frames : goal.returns-clause-frames
returns-clause-frames c = lines-decide _ frame_grammar

pub returns-clause-blocks : goal.returns-clause-blocks
returns-clause-blocks c = lines-decide _ block_grammar

pub returns-clause-symbols : goal.returns-clause-symbols
returns-clause-symbols c = lines-decide _ symbol_grammar

pub returns-clause-texts : goal.returns-clause-texts
returns-clause-texts c = lines-decide _ text_grammar

pub returns-clause-captures : goal.returns-clause-captures
returns-clause-captures c = files-decide _ header-stays

pub returns-clause-levels : goal.returns-clause-levels
returns-clause-levels c = files-decide _ levels-stay

pub returns-clause-beats : goal.returns-clause-beats
returns-clause-beats c = beats-decide _ header-stays

pub returns-clause-level_beats : goal.returns-clause-level_beats
returns-clause-level_beats c = beats-decide _ levels-stay
