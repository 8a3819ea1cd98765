use Rattle.std.proofs.lemmas.Result.{on_ok_weaker, on_err_weaker}
use Rattle.pcs_io.specs.BlockStages.{BlockParserState}
use Rattle.pcs_top.specs.Texts.{unblock_text}
use Rattle.pcs_top.specs.Unblocking.{HasTaken}
use Rattle.pcs_drive.proofs.LineDriving.{takes-by, puts-by, breaks-by}
use Rattle.pcs_top.proofs.unblock.FramingLineTaskBlockParser.put_line.Goals as goal

pub returns : goal.returns
returns g c = let line = λ (parser : BlockParserState). parser.line in record {
  taken = on_ok_weaker c.put_line.result (λ put. takes-by line c.args.parser.now _ c.line.ensures HasTaken _ _ c.put_line.ensures.taken) c.put_line.ensures.ok;
  ok = on_ok_weaker c.put_line.result (puts-by line c.args.parser.now _ c.line.ensures HasTaken unblock_text _ _ _ _ _) c.put_line.ensures.ok;
  err = on_err_weaker c.put_line.result (breaks-by line c.args.parser.now _ c.line.ensures HasTaken unblock_text _ _ _ _) c.put_line.ensures.err;
  cause = c.put_line.ensures.cause;
  grows = c.put_line.ensures.grows;
}
