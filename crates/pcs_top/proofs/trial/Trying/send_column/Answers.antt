use Rattle.std.proofs.Common.{refl, ap, ◌∙◌, Ok}
use Rattle.pcs_top.proofs.TriedColumns.{more-tried, full-tried, never-refused}
use Rattle.pcs_top.proofs.trial.Trying.send_column.Goals as goal

pub returns-in-Ok-More-clause-tried : goal.returns-in-Ok-More-clause-tried
returns-in-Ok-More-clause-tried c = λ options cs has legal.
    more-tried options c.args.self.now cs has c.args.column c.put.result c.put.ensures.answer _ (c.in-Ok-More.is ∙ ap Ok c.in-Ok-More.field-0-is) c.put.ensures.stands refl has.places.struck

pub returns-in-Ok-PairReady-clause-tried : goal.returns-in-Ok-PairReady-clause-tried
returns-in-Ok-PairReady-clause-tried c = λ options cs has legal.
    full-tried options c.args.self.now cs has c.args.column c.put.result c.put.ensures.answer c.put.new.self _ (c.in-Ok-PairReady.is ∙ ap Ok c.in-Ok-PairReady.field-0-is) c.put.ensures.stands
    c.send_pair.ensures.stands c.send_pair.ensures.same.1 (c.send_pair.ensures.strikes options has.places.sent has.places.struck)

pub returns-in-Err-clause-tried : goal.returns-in-Err-clause-tried
returns-in-Err-clause-tried c = λ options cs has legal.
    absurd (never-refused options c.args.self.now cs has c.args.column c.put.result c.put.ensures.answer _ c.in-Err.is legal)
