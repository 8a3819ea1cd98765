use Rattle.std.proofs.Common.{sym, subst, true}
use Rattle.pcs_drive.specs.Seen.{seen}
use Rattle.pcs_drive.specs.CaptureCommand.{FromBeats}
use Rattle.pcs_drive.proofs.Opened.{capture-answered}
use Rattle.pcs_top.specs.ColumnTexts.{columned, columns_text}
use Rattle.pcs_top.specs.EventTexts.{HasBegun}
use Rattle.pcs_top.proofs.ColumnText.{columns-start, text-grows, columns-none}
use Rattle.pcs_top.proofs.columns.columns.Goals as goal

pub returns-in-Ok-open : goal.returns-in-Ok-open
returns-in-Ok-open g c =
    let limit = c.args.limit in
    let header = c.in-Ok.header in
    let skew = c.min-skew.result in
    let o = c.in-Ok.ensures.ok in
    let start = g.W.Sink.held c.args.sink.now in
    let listening = c.new-listening.result in
    let around = seen g.R.Source.told g.R.Source.ended g.R.Source.faults g.W.Sink.held g.W.Sink.faults
    c.args.source.now c.drive.new.source c.args.sink.now c.drive.new.sink in
    let later = seen g.R.Source.told g.R.Source.ended g.R.Source.faults g.W.Sink.held g.W.Sink.faults
    c.open_capture.new.source c.drive.new.source c.args.sink.now c.drive.new.sink in
    let fresh = subst (λ x. HasBegun x header.period skew true) (sym c.new-listening.ensures.receiver)
    (record { stands = c.in-Ok-open.ensures.stands; drained = c.in-Ok-open.ensures.drained; none = c.in-Ok-open.ensures.beats }) in
    let behind = c.drive.ensures.captures o.history header (columns_text header.period skew) start o.has (record {
      keeps = columns-start listening.teller (λ t. t.refill) listening.receiver.now header.period skew listening.aligned
          (rw c.new-listening.ensures.teller c.new-refill.ensures.stands) fresh c.new-listening.ensures.aligned;
      grows = text-grows header.period skew;
      wrote = columns-none header.period skew listening.receiver.now start _ fresh c.new-output.ensures;
    }) in
    capture-answered (columned limit) around c.in-Ok.beats header _ _ c.drive.result o c.open_capture.ensures.later
    (subst (λ skew. FromBeats (columns_text header.period skew) o.history.octets o.history.limit header later c.drive.result) c.min-skew.ensures behind)

pub returns : goal.returns
returns g c = c.in-Err.ensures.err _ (g.W.Sink.held c.args.sink.now) (g.W.Sink.faults c.args.sink.now)
