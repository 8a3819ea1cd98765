use Rattle.std.proofs.Common.{refl, subst}
use Rattle.pcs_drive.specs.Seen.{seen}
use Rattle.pcs_drive.specs.CaptureCommand.{FromBeats}
use Rattle.pcs_drive.specs.declared.outcome.Outcome.TheVariants.{NoMemory}
use Rattle.pcs_drive.proofs.Opened.{no-memory-opened, capture-answered}
use Rattle.pcs_top.specs.Decoding.{decoded, good_text}
use Rattle.pcs_top.proofs.decode.decode.Goals as goal

pub returns-in-Ok-open : goal.returns-in-Ok-open
returns-in-Ok-open g c =
    let limit = c.args.limit in
    let header = c.in-Ok.header in
    let o = c.in-Ok.ensures.ok in
    let around = seen g.R.Source.told g.R.Source.ended g.R.Source.faults g.W.Sink.held g.W.Sink.faults
    c.args.source.now c.decode_opened.new.source c.args.sink.now c.decode_opened.new.sink in
    let later = seen g.R.Source.told g.R.Source.ended g.R.Source.faults g.W.Sink.held g.W.Sink.faults
    c.open_capture.new.source c.decode_opened.new.source c.args.sink.now c.decode_opened.new.sink in
    let behind = c.decode_opened.ensures.answers o.history header header.period c.min-skew.result o.has
    (record { stands = c.in-Ok-open.ensures.stands; drained = c.in-Ok-open.ensures.drained; none = c.in-Ok-open.ensures.beats }) in (
      behind.0,
      behind.1,
      capture-answered (decoded limit) around c.in-Ok.beats header _ _ behind.0 o c.open_capture.ensures.later
          (subst (λ skew. FromBeats (good_text header.period skew) o.history.octets o.history.limit header later behind.0) c.min-skew.ensures behind.2),
    )

pub returns-in-Ok : goal.returns-in-Ok
returns-in-Ok g c =
    let around = seen g.R.Source.told g.R.Source.ended g.R.Source.faults g.W.Sink.held g.W.Sink.faults
    c.args.source.now c.open_capture.new.source c.args.sink.now c.args.sink.now in
    (NoMemory, refl, no-memory-opened (decoded c.args.limit) around c.in-Ok.beats c.in-Ok.header c.in-Ok.ensures.ok refl)

pub returns : goal.returns
returns g c = (c.in-Err.outcome, c.from.ensures, c.in-Err.ensures.err (decoded c.args.limit) (g.W.Sink.held c.args.sink.now) (g.W.Sink.faults c.args.sink.now))
