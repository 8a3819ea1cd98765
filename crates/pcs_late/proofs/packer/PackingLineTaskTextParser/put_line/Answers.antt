use Rattle.std.specs.Prelude.{⊤}
use Rattle.std.proofs.lemmas.Result.{on_ok_weaker, on_err_weaker}
use Rattle.pcap_frames.specs.Pcap.{record_octets}
use Rattle.pcs_io.specs.TextLines.{TextParserState}
use Rattle.pcs_drive.proofs.LineDriving.{puts-piece, breaks-piece}
use Rattle.pcs_late.specs.Packing.{records_text}
use Rattle.pcs_late.proofs.Packed.{one-frame}
use Rattle.pcs_late.proofs.packer.PackingLineTaskTextParser.put_line.Goals as goal

pub returns : goal.returns
returns g c = let line = λ (parser : TextParserState). parser.frame in record {
  taken = on_ok_weaker c.put_record.result (λ put parsers keeps. tt) c.put_record.ensures.ok;
  ok = on_ok_weaker c.put_record.result (puts-piece line c.args.parser.now _ c.frame.ensures.frame records_text record_octets one-frame (λ x parsers. ⊤) c.args.self.now _ _ _ _) c.put_record.ensures.ok;
  err = on_err_weaker c.put_record.result (breaks-piece line c.args.parser.now _ c.frame.ensures.frame records_text record_octets one-frame (λ x parsers. ⊤) c.args.self.now _ _ _) c.put_record.ensures.err;
  cause = c.put_record.ensures.cause;
  grows = c.put_record.ensures.grows;
}
