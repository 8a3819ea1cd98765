use Rattle.std.proofs.Common.{refl}
use Rattle.pcs_top.specs.Texts.{block_text}
use Rattle.pcs_top.proofs.LineTexts.{no-lines}
use Rattle.pcs_drive.proofs.WritingLemmas.{wrote-none}
use Rattle.pcs_top.proofs.blocks.blocks_opened.Goals as goal

pub returns : goal.returns
returns g c = c.drive_lines.ensures block_text (g.W.Sink.held c.args.sink.now) (λ parsers. refl) (wrote-none _ _ _ no-lines c.new-output.ensures)
