use Rattle.std.proofs.Common.{◌∷◌, [], ◌++◌, List, ℕ}
use Rattle.std.specs.Prelude.{⊤}
use Rattle.std.proofs.lemmas.Result.{on_ok_weaker, on_err_weaker}
use Rattle.pcs_io.specs.SymbolLines.{SymbolParserState}
use Rattle.pcs_drive.proofs.WritingLemmas.{front-more}
use Rattle.pcs_drive.proofs.LineDriving.{puts-piece, breaks-piece}
use Rattle.pcs_late.specs.Kr.{answer_text, kr_text}
use Rattle.pcs_late.proofs.KrLemmas.{one-line}
use Rattle.pcs_late.proofs.codewords.AnsweringLineTaskSymbolParser.put_line.Goals as goal

pub returns : goal.returns
returns g c =
    let line = λ (parser : SymbolParserState). parser.numbers in
    let answer = λ (numbers : List ℕ). answer_text numbers ++ 10 ∷ [] in
    record {
      taken = on_ok_weaker c.put_line.result (λ put parsers keeps. tt) c.put_line.ensures.ok;
      ok = on_ok_weaker c.put_line.result (puts-piece line c.args.parser.now _ c.symbols.ensures.numbers kr_text answer one-line (λ x parsers. ⊤) c.args.self.now _ _ _ _) c.put_line.ensures.ok;
      err = on_err_weaker c.put_line.result (λ before. breaks-piece line c.args.parser.now _ c.symbols.ensures.numbers kr_text answer one-line (λ x parsers. ⊤) c.args.self.now _ _ _
          (λ start text wrote. front-more _ _ _ _ (before start text wrote))) c.put_line.ensures.err;
      cause = c.put_line.ensures.cause;
      grows = c.put_line.ensures.grows;
    }
