use Rattle.std.proofs.Common.{◌++◌, ◌∙◌, sym, ap, ap₂}
use Rattle.scramble58.specs.Scrambling.{last58, descrambled}
use Rattle.pcs_c.proofs.Lines.{moved_up}
use Rattle.pcs_c.proofs.line.pcs_descramble.Goals as goal

pub returns-clause-wide : goal.returns-clause-wide
returns-clause-wide c = (
  sym (c.words.ensures.bits) ∙ c.next.ensures.next ∙ ap₂ descrambled (c.behind-descrambler.ensures ∙ moved_up c.args.line.now) c.wide_meant.ensures,
  c.words.ensures.top,
)

pub returns-clause-line : goal.returns-clause-line
returns-clause-line c =
    sym (c.last.ensures) ∙ c.next.ensures.line
    ∙ ap last58 (ap₂ (λ h line. h ++ line) (c.behind-descrambler.ensures ∙ moved_up c.args.line.now) c.wide_meant.ensures)
