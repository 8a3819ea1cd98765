use Rattle.pcs_top.proofs.ReportText.{other-told, report-told}
use Rattle.pcs_top.proofs.report.tell_event.Goals as goal

pub returns-in-Report : goal.returns-in-Report
returns-in-Report g c = λ told is. report-told c.args.event.now told c.in-Report.report _ _ c.in-Report.is is c.tell_all.ensures.told

pub returns-in_default : goal.returns-in_default
returns-in_default g c = λ told is. other-told c.args.event.now told _ c.in_default.not-Report is
