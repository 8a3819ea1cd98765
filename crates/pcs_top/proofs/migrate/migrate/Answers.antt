use Rattle.std.proofs.Common.{refl, sym, ◌∙◌}
use Rattle.pcs_drive.specs.Seen.{seen}
use Rattle.pcs_drive.proofs.Opened.{capture-answered}
use Rattle.pcs_drive.proofs.WritingLemmas.{wrote-pending}
use Rattle.pcs_top.specs.Migrating.{migrated}
use Rattle.pcs_top.proofs.Migrating.{no-beats, migrated-grows}
use Rattle.pcs_top.proofs.migrate.migrate.Goals as goal

pub returns-in-Ok : goal.returns-in-Ok
returns-in-Ok g c =
    let skew = c.args.skew in
    let header = c.in-Ok.header in
    let o = c.in-Ok.ensures.ok in
    let start = g.W.Sink.held c.args.sink.now in
    let around = seen g.R.Source.told g.R.Source.ended g.R.Source.faults g.W.Sink.held g.W.Sink.faults
    c.args.source.now c.drive.new.source c.args.sink.now c.drive.new.sink in
    capture-answered (migrated skew) around c.in-Ok.beats header _ _ c.drive.result o c.open_capture.ensures.later
    (c.drive.ensures.captures o.history header (migrated skew header) start o.has (record {
      keeps = (skew, header, refl);
      grows = migrated-grows skew header;
      wrote = wrote-pending start _ _ (no-beats skew header ∙ sym (c.holding-output.ensures ∙ c.header_of.ensures));
    }))

pub returns-in-Err : goal.returns-in-Err
returns-in-Err g c = c.in-Err.ensures.err (migrated c.args.skew) (g.W.Sink.held c.args.sink.now) (g.W.Sink.faults c.args.sink.now)
