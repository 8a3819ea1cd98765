use Rattle.std.proofs.Common.{refl}
use Rattle.pcs_top.specs.Texts.{unblock_text}
use Rattle.pcs_top.proofs.LineTexts.{no-block-lines}
use Rattle.pcs_drive.proofs.WritingLemmas.{wrote-none}
use Rattle.pcs_top.proofs.unblock.unblock_opened.Goals as goal

pub returns : goal.returns
returns g c = c.drive_lines.ensures unblock_text (g.W.Sink.held c.args.sink.now) (λ parsers. refl) (wrote-none _ _ _ no-block-lines c.new-output.ensures)
