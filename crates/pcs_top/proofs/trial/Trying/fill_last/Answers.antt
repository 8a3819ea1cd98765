use Rattle.std.proofs.Common.{◌∙◌, sym, reverse}
use Rattle.rate_match.specs.Kept.{debt}
use Rattle.pcs_send.specs.Transmission.{begun_columns}
use Rattle.pcs_top.proofs.TriedColumns.{none-filled, last-filled, whole-filled}
use Rattle.pcs_top.proofs.trial.Trying.fill_last.Goals as goal

pub returns-then-not-begun-clause-filled : goal.returns-then-not-begun-clause-filled
returns-then-not-begun-clause-filled c = λ options cs has.
    let h = has.places.placed.history in
    (none-filled options c.args.self.now cs has (sym (c.begun.ensures h has.places.placed.stands) ∙ c.if-not-begun.true), whole-filled options c.args.self.now cs has)

pub returns-clause-filled : goal.returns-clause-filled
returns-clause-filled c = λ options cs has.
    let h = has.places.placed.history in (
      last-filled options c.args.self.now cs has c.send_idle_pair.new.self (sym (c.begun.ensures h has.places.placed.stands) ∙ c.if-not-begun.false)
          (c.send_idle_pair.ensures.places options (begun_columns options.period 2 cs) (debt options.period (reverse cs)) has.places),
      whole-filled options c.args.self.now cs has,
    )
