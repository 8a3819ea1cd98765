use Rattle.std.proofs.lemmas.Result.{err_from_is_err_and}
use Rattle.pcs_io.proofs.HeaderCalls.{levels-told}
use Rattle.pcs_io.proofs.LastReads.{levels-asked}
use Rattle.pcs_io.proofs.beats.Beats.levels_header.Goals as goal

pub returns-in_err-header-clause-answers : goal.returns-in_err-header-clause-answers
returns-in_err-header-clause-answers g c =
    let exit = err_from_is_err_and c.from_residual.result c.from_residual.ensures.1 in
    rw (exit.1, exit.2, ← c.self.view_is)
    (levels-told (record { reader = c.self.inside.reader; front = c.self.inside.front }) _ _ _ _ _ (rw (← c.self.view_is) at c.requires) c.in_err-header.ensures.answers)

pub returns-clause-answers : goal.returns-clause-answers
returns-clause-answers g c =
    rw (← c.self.view_is)
    (levels-told (record { reader = c.self.inside.reader; front = c.self.inside.front }) _ _ _ _ _ (rw (← c.self.view_is) at c.requires) c.in_ok-header.ensures.answers)

pub returns-in_err-header-clause-asks : goal.returns-in_err-header-clause-asks
returns-in_err-header-clause-asks g c =
    rw (← c.self.view_is)
    (levels-asked (record { reader = c.self.inside.reader; front = c.self.inside.front }) _ _ _ _ _ (rw (← c.self.view_is) at c.requires) c.in_err-header.ensures.answers)

pub returns-clause-asks : goal.returns-clause-asks
returns-clause-asks g c =
    rw (← c.self.view_is)
    (levels-asked (record { reader = c.self.inside.reader; front = c.self.inside.front }) _ _ _ _ _ (rw (← c.self.view_is) at c.requires) c.in_ok-header.ensures.answers)
