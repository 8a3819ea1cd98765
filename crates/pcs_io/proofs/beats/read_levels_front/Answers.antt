use Rattle.std.proofs.Common.{◌∙◌, sym, ap, refl, Ok}
use Rattle.std.proofs.lemmas.Result.{err_from_is_err_and}
use Rattle.pcs_io.specs.LevelsHeaders.{levels_header_of}
use Rattle.pcs_io.specs.Captures.{refusal_of}
use Rattle.pcs_io.proofs.beats.read_levels_front.Goals as goal

pub returns-in_err-behind-clause-answers : goal.returns-in_err-behind-clause-answers
returns-in_err-behind-clause-answers g c =
    let exit = err_from_is_err_and c.from_residual-in_err-behind.result c.from_residual-in_err-behind.ensures.1 in
    rw (exit.1, exit.2) (
      c.read_piece.new.reader,
      g.S.Source.told c.read_piece.new.source,
      g.S.Source.ended c.read_piece.new.source,
      Ok c.in_ok-front.front,
      c.in_ok-front.ensures.answers,
      (_, c.in_err-behind.ensures.answers, refl),
    )

pub returns-in-Ok-clause-answers : goal.returns-in-Ok-clause-answers
returns-in-Ok-clause-answers g c = (
  c.read_piece.new.reader,
  g.S.Source.told c.read_piece.new.source,
  g.S.Source.ended c.read_piece.new.source,
  Ok c.in_ok-front.front,
  c.in_ok-front.ensures.answers,
  (
    Ok c.in_ok-behind.behind,
    c.in_ok-behind.ensures.answers,
    ap refusal_of (sym c.in-Ok.is ∙ c.read_levels_header.ensures.header ∙ ap levels_header_of c.joined.ensures),
  ),
)

pub returns-in-Err-clause-answers : goal.returns-in-Err-clause-answers
returns-in-Err-clause-answers g c = (
  c.read_piece.new.reader,
  g.S.Source.told c.read_piece.new.source,
  g.S.Source.ended c.read_piece.new.source,
  Ok c.in_ok-front.front,
  c.in_ok-front.ensures.answers,
  (
    Ok c.in_ok-behind.behind,
    c.in_ok-behind.ensures.answers,
    ap refusal_of (sym c.in-Err.is ∙ c.read_levels_header.ensures.header ∙ ap levels_header_of c.joined.ensures),
  ),
)
