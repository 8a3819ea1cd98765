use Rattle.std.proofs.Common.{arith}
use Rattle.pcs_top.proofs.CountedEvents.{report-counted, frame-counted, other-told}
use Rattle.pcs_top.proofs.channel.tell.Goals as goal

pub returns-in-Report-clause-counts : goal.returns-in-Report-clause-counts
returns-in-Report-clause-counts c = λ h told stands is last seed count es k.
    report-counted seed count _ told es c.in-Report.report (rw c.in-Report.is at is) (c.report.ensures.counts seed count es k)

pub returns-in-Frame-clause-counts : goal.returns-in-Frame-clause-counts
returns-in-Frame-clause-counts c = λ h told stands is last seed count es k.
    frame-counted seed count _ told es _ _ last (c.frame.ensures.octets h stands) (c.frame-in-Frame.ensures.counts seed count es k)

pub returns-in_default : goal.returns-in_default
returns-in_default c = record {
  counts = λ h told stands is last seed count es k. other-told c.args.event.now told c.in_default.not-Report c.in_default.not-Frame is seed count _ es k;
  corrected = omega arith;
  back = omega arith;
}
