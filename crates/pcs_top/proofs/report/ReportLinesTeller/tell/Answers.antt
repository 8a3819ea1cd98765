use Rattle.std.proofs.Common.{◌∙◌}
use Rattle.pcs_top.proofs.ReportText.{tells-event, breaks-at-event}
use Rattle.std.proofs.lemmas.Result.{on_ok_weaker, on_err_weaker}
use Rattle.pcs_top.proofs.report.ReportLinesTeller.tell.Goals as goal

pub returns-clause-ok : goal.returns-clause-ok
returns-clause-ok g c =
    on_ok_weaker c.put.result (λ puts h told stands is last. tells-event _ _ _ told _ _ _ _ _ (c.tell_event.ensures told is)
    (c.as_bytes.ensures.value ∙ c.deref.ensures.0 ∙ c.line_of-line.ensures.text h told stands is last) puts) c.put.ensures.ok

pub returns-clause-err : goal.returns-clause-err
returns-clause-err g c = on_err_weaker c.put.result (λ breaks h told stands is last. breaks-at-event _ _ told _ _ _ breaks) c.put.ensures.err
