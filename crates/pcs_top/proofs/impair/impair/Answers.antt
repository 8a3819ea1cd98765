use Rattle.std.proofs.Common.{refl}
use Rattle.pcs_drive.specs.Seen.{seen}
use Rattle.pcs_drive.proofs.Opened.{no-memory-opened, capture-answered}
use Rattle.pcs_top.specs.Impairing.{impairing}
use Rattle.pcs_top.proofs.impair.impair.Goals as goal

pub returns-in-Ok-open : goal.returns-in-Ok-open
returns-in-Ok-open g c =
    let items = c.args.items.now in
    let header = c.in-Ok.header in
    let o = c.in-Ok.ensures.ok in
    let around = seen g.R.Source.told g.R.Source.ended g.R.Source.faults g.W.Sink.held g.W.Sink.faults
    c.args.source.now c.impair_opened.new.source c.args.sink.now c.impair_opened.new.sink in
    capture-answered (impairing items) around c.in-Ok.beats header _ _ c.impair_opened.result o c.open_capture.ensures.later
    (c.impair_opened.ensures o.history items o.has c.requires.each c.in-Ok-open.ensures.stands)

pub returns-in-Ok : goal.returns-in-Ok
returns-in-Ok g c =
    let around = seen g.R.Source.told g.R.Source.ended g.R.Source.faults g.W.Sink.held g.W.Sink.faults
    c.args.source.now c.open_capture.new.source c.args.sink.now c.args.sink.now in
    no-memory-opened (impairing c.args.items.now) around c.in-Ok.beats c.in-Ok.header c.in-Ok.ensures.ok refl

pub returns : goal.returns
returns g c = c.in-Err.ensures.err (impairing c.args.items.now) (g.W.Sink.held c.args.sink.now) (g.W.Sink.faults c.args.sink.now)
