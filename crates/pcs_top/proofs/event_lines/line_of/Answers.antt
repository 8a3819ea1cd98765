use Rattle.std.proofs.Common.{ap, ◌∙◌}
use Rattle.pcs_top.proofs.EventLines.{answer_line, told-line, quiet}
use Rattle.pcs_top.proofs.event_lines.line_of.Goals as goal

pub returns-in-Failed-clause-text : goal.returns-in-Failed-clause-text
returns-in-Failed-clause-text c = λ h told stands is last. c.failure_line.ensures ∙ told-line c.args.event.now told _ is (ap answer_line c.in-Failed.is)

pub returns-in-Aligned-clause-text : goal.returns-in-Aligned-clause-text
returns-in-Aligned-clause-text c = λ h told stands is last. c.alignment_line.ensures ∙ told-line c.args.event.now told _ is (ap answer_line c.in-Aligned.is)

pub returns-in-Report-clause-text : goal.returns-in-Report-clause-text
returns-in-Report-clause-text c = λ h told stands is last. c.report_line.ensures ∙ told-line c.args.event.now told _ is (ap answer_line c.in-Report.is)

pub returns-in-Dropped-clause-text : goal.returns-in-Dropped-clause-text
returns-in-Dropped-clause-text c = λ h told stands is last. c.drop_line.ensures ∙ told-line c.args.event.now told _ is (ap answer_line c.in-Dropped.is)

pub returns-in-Lost-clause-text : goal.returns-in-Lost-clause-text
returns-in-Lost-clause-text c = λ h told stands is last. c.number_line-in-Lost.ensures ∙ told-line c.args.event.now told _ is (ap answer_line c.in-Lost.is)

pub returns-in-Group-clause-text : goal.returns-in-Group-clause-text
returns-in-Group-clause-text c = λ h told stands is last. quiet c.args.event.now told _ c.in-Group.is is c.new.ensures
