use Rattle.pcs_top.proofs.TriedColumns.{idle-pair-places, idle-pair-full}
use Rattle.pcs_top.proofs.trial.Trying.send_idle_pair.Goals as goal

pub returns-then-not-ready-clause-places : goal.returns-then-not-ready-clause-places
returns-then-not-ready-clause-places c = λ options cs owed has.
    absurd (idle-pair-full options c.args.self.now.sender c.fill.new.sender _ _ _ _ cs owed has c.fill.ensures c.ready.result c.ready.ensures.full c.if-not-ready.true)

pub returns-clause-places : goal.returns-clause-places
returns-clause-places c = λ options cs owed has.
    idle-pair-places options c.args.self.now.sender c.fill.new.sender _ _ _ _ cs owed has c.fill.ensures _ _ _ _ _ c.send_pair.ensures.stands
    (c.send_pair.ensures.strikes options has.sent has.struck)
