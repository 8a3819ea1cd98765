use Rattle.std.proofs.Common.{refl, sym, ◌∙◌}
use Rattle.pcs_drive.specs.Seen.{seen}
use Rattle.pcs_drive.proofs.Opened.{capture-answered}
use Rattle.pcs_drive.proofs.WritingLemmas.{wrote-pending}
use Rattle.pcs_late.specs.Multiplexing.{multiplexed}
use Rattle.pcs_late.proofs.Muxed.{no-beats, multiplexed-grows}
use Rattle.pcs_late.proofs.multiplexer.mux.Goals as goal

pub returns-in-Ok : goal.returns-in-Ok
returns-in-Ok g c =
    let precode = c.args.precode in
    let header = c.in-Ok.header in
    let o = c.in-Ok.ensures.ok in
    let start = g.W.Sink.held c.args.sink.now in
    let around = seen g.R.Source.told g.R.Source.ended g.R.Source.faults g.W.Sink.held g.W.Sink.faults
    c.args.source.now c.drive.new.source c.args.sink.now c.drive.new.sink in
    capture-answered (multiplexed precode) around c.in-Ok.beats header _ _ c.drive.result o c.open_capture.ensures.later
    (c.drive.ensures.captures o.history header (multiplexed precode header) start o.has (record {
      keeps = (precode, header, refl, c.new.ensures);
      grows = multiplexed-grows precode header;
      wrote = wrote-pending start _ _ (no-beats precode header ∙ sym (c.holding-output.ensures ∙ c.header_of.ensures));
    }))

pub returns-in-Err : goal.returns-in-Err
returns-in-Err g c = c.in-Err.ensures.err (multiplexed c.args.precode) (g.W.Sink.held c.args.sink.now) (g.W.Sink.faults c.args.sink.now)
