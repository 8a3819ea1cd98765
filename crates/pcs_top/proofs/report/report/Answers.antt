use Rattle.std.proofs.Common.{refl, sym, subst, false}
use Rattle.pcs_watch.specs.Watching.{seen as watched}
use Rattle.pcs_drive.specs.Seen.{seen}
use Rattle.pcs_drive.specs.CaptureCommand.{FromBeats}
use Rattle.pcs_drive.proofs.Opened.{no-memory-opened, capture-answered}
use Rattle.pcs_top.specs.EventTexts.{HasBegun}
use Rattle.pcs_top.specs.Reporting.{reported, report_text, seen_all}
use Rattle.pcs_top.proofs.ReportText.{report-start, reports-grow, report-none}
use Rattle.pcs_top.proofs.report.report.Goals as goal

pub returns-in-Ok-open : goal.returns-in-Ok-open
returns-in-Ok-open g c =
    let first = seen_all c.args.watchers.items (λ w. let m = goal.Watcher-dyn g (w.vtable, w.value) in watched m.label m.tally m.after m.leaves w.value) in
    let limit = c.args.limit in
    let header = c.in-Ok.header in
    let skew = c.min-skew.result in
    let o = c.in-Ok.ensures.ok in
    let start = g.W.Sink.held c.args.sink.now in
    let listening = c.new-listening.result in
    let around = seen g.R.Source.told g.R.Source.ended g.R.Source.faults g.W.Sink.held g.W.Sink.faults
    c.args.source.now c.drive.new.source c.args.sink.now c.drive.new.sink in
    let later = seen g.R.Source.told g.R.Source.ended g.R.Source.faults g.W.Sink.held g.W.Sink.faults
    c.open_capture.new.source c.drive.new.source c.args.sink.now c.drive.new.sink in
    let fresh = subst (λ x. HasBegun x header.period skew false) (sym c.new-listening.ensures.receiver)
    (record { stands = c.in-Ok-open.ensures.stands; drained = c.in-Ok-open.ensures.drained; none = c.in-Ok-open.ensures.beats }) in
    let behind = c.drive.ensures.captures o.history header (report_text first header.period skew) start o.has (record {
      keeps = report-start listening.teller (λ t. seen_all t.watchers.items (λ w. let m = goal.Watcher-dyn g (w.vtable, w.value) in watched m.label m.tally m.after m.leaves w.value))
          first listening.receiver.now header.period skew listening.aligned (rw c.new-listening.ensures.teller refl) fresh c.new-listening.ensures.aligned;
      grows = reports-grow first header.period skew;
      wrote = report-none first header.period skew listening.receiver.now start _ fresh c.new-output.ensures;
    }) in
    capture-answered (reported first limit) around c.in-Ok.beats header _ _ c.drive.result o c.open_capture.ensures.later
    (subst (λ skew. FromBeats (report_text first header.period skew) o.history.octets o.history.limit header later c.drive.result) c.min-skew.ensures behind)

pub returns-in-Err-open : goal.returns-in-Err-open
returns-in-Err-open g c =
    let first = seen_all c.args.watchers.items (λ w. let m = goal.Watcher-dyn g (w.vtable, w.value) in watched m.label m.tally m.after m.leaves w.value) in
    let around = seen g.R.Source.told g.R.Source.ended g.R.Source.faults g.W.Sink.held g.W.Sink.faults
    c.args.source.now c.open_capture.new.source c.args.sink.now c.args.sink.now in
    no-memory-opened (reported first c.args.limit) around c.in-Ok.beats c.in-Ok.header c.in-Ok.ensures.ok refl

pub returns-in-Err : goal.returns-in-Err
returns-in-Err g c = c.in-Err.ensures.err _ (g.W.Sink.held c.args.sink.now) (g.W.Sink.faults c.args.sink.now)
