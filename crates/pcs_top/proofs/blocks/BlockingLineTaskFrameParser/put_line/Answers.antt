use Rattle.std.specs.Prelude.{⊤}
use Rattle.std.proofs.lemmas.Result.{on_ok_weaker, on_err_weaker}
use Rattle.pcs_io.specs.FrameLines.{FrameLine}
use Rattle.pcs_io.specs.FrameStages.{FrameParserState}
use Rattle.pcs_drive.proofs.LineDriving.{puts-piece, breaks-piece}
use Rattle.pcs_top.specs.LineColumns.{columns_of_line}
use Rattle.pcs_top.specs.Texts.{block_text, column_text}
use Rattle.pcs_top.proofs.LineTexts.{one-frame-line}
use Rattle.pcs_top.proofs.blocks.BlockingLineTaskFrameParser.put_line.Goals as goal

pub returns : goal.returns
returns g c =
    let line = λ (parser : FrameParserState). parser.line in
    let piece = λ (line : FrameLine). column_text (columns_of_line line) in
    record {
      taken = on_ok_weaker c.put_line.result (λ put parsers keeps. tt) c.put_line.ensures.ok;
      ok = on_ok_weaker c.put_line.result (puts-piece line c.args.parser.now _ c.line.ensures.line block_text piece one-frame-line (λ x parsers. ⊤) c.args.self.now _ _ _ _) c.put_line.ensures.ok;
      err = on_err_weaker c.put_line.result (breaks-piece line c.args.parser.now _ c.line.ensures.line block_text piece one-frame-line (λ x parsers. ⊤) c.args.self.now _ _ _) c.put_line.ensures.err;
      cause = c.put_line.ensures.cause;
      grows = c.put_line.ensures.grows;
    }
