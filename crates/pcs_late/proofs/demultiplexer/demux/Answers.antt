use Rattle.std.proofs.Common.{refl, sym, ◌∙◌}
use Rattle.pcs_drive.specs.Seen.{seen}
use Rattle.pcs_drive.proofs.Opened.{levels-answered}
use Rattle.pcs_drive.proofs.WritingLemmas.{wrote-pending}
use Rattle.pcs_late.specs.Demultiplexing.{demultiplexed}
use Rattle.pcs_late.proofs.Demuxed.{no-beats, demultiplexed-grows}
use Rattle.pcs_late.proofs.demultiplexer.demux.Goals as goal

pub returns-in-Ok : goal.returns-in-Ok
returns-in-Ok g c =
    let phase = c.args.phase in
    let header = c.in-Ok.header in
    let o = c.in-Ok.ensures.ok in
    let start = g.W.Sink.held c.args.sink.now in
    let around = seen g.R.Source.told g.R.Source.ended g.R.Source.faults g.W.Sink.held g.W.Sink.faults
    c.args.source.now c.drive.new.source c.args.sink.now c.drive.new.sink in
    levels-answered (demultiplexed phase) around c.in-Ok.beats header _ _ c.drive.result o c.open_levels.ensures.later
    (c.drive.ensures.levels o.history header (demultiplexed phase header) start o.has (record {
      keeps = (phase, header, refl, c.new.ensures.stands);
      grows = demultiplexed-grows phase header;
      wrote = wrote-pending start _ _ (no-beats phase header ∙ sym (c.holding-output.ensures ∙ c.header_of.ensures));
    }))

pub returns-in-Err : goal.returns-in-Err
returns-in-Err g c = c.in-Err.ensures.err (demultiplexed c.args.phase) (g.W.Sink.held c.args.sink.now) (g.W.Sink.faults c.args.sink.now)
