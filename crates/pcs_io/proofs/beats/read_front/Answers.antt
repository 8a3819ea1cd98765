use Rattle.std.proofs.Common.{◌≡◌, ◌∙◌, ap, sym, refl, inr, true, Ok}
use Rattle.std.proofs.lemmas.Result.{err_from_is_err_and}
use Rattle.pcs_io.specs.Headers.{header2_of}
use Rattle.pcs_io.specs.Captures.{is_version2, refusal_of}
use Rattle.pcs_io.proofs.beats.read_front.Goals as goal

pub returns-in_err-behind-clause-answers : goal.returns-in_err-behind-clause-answers
returns-in_err-behind-clause-answers g c =
    let exit = err_from_is_err_and c.from_residual-in_err-behind.result c.from_residual-in_err-behind.ensures.1 in
    let version : is_version2 c.in_ok-front.front ≡ true = sym c.is_version2.ensures ∙ c.if-not-is_version2.false in
    rw (exit.1, exit.2) (
      c.read_piece.new.reader,
      g.S.Source.told c.read_piece.new.source,
      g.S.Source.ended c.read_piece.new.source,
      Ok c.in_ok-front.front,
      c.in_ok-front.ensures.answers,
      inr (version, (_, c.in_err-behind.ensures.answers, refl)),
    )

pub returns-clause-answers : goal.returns-clause-answers
returns-clause-answers g c =
    let version : is_version2 c.in_ok-front.front ≡ true = sym c.is_version2.ensures ∙ c.if-not-is_version2.false in (
      c.read_piece.new.reader,
      g.S.Source.told c.read_piece.new.source,
      g.S.Source.ended c.read_piece.new.source,
      Ok c.in_ok-front.front,
      c.in_ok-front.ensures.answers,
      inr (
        version,
        (
          Ok c.in_ok-behind.behind,
          c.in_ok-behind.ensures.answers,
          c.settle-2.ensures.refusal ∙ ap refusal_of (c.read_header2.ensures.header ∙ ap header2_of c.joined.ensures),
        ),
      ),
    )
