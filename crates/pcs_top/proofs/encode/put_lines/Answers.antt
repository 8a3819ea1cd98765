use Rattle.std.proofs.Common.{ap, arith, ◌≤◌, ◌∙◌, Ok, Err}
use Rattle.std.proofs.lemmas.Result.{err_from_is_err_and}
use Rattle.pcs_io.specs.FrameAnswers.{content, said}
use Rattle.pcs_io.specs.FrameLines.{FrameLine}
use Rattle.pcs_io.specs.FrameGrammar.{frame_grammar}
use Rattle.pcs_io.specs.LineEnds.{frame_lines_end}
use Rattle.pcs_drive.specs.Seen.{seen, since}
use Rattle.pcs_top.specs.Captures.{sent_octets}
use Rattle.pcs_drive.proofs.Copying.{copied-kept, asked-next, line-or-none, next-line, next-end, next-fault, read-failed, rose-after}
use Rattle.pcs_drive.proofs.WritingLemmas.{longer-none, longer-then, longer-in-front}
use Rattle.pcs_top.proofs.Encoding.{waited, waited-told, sent-start, sent-line, encoded-done, encoded-fault, encoded-tight, encoded-frame-failed, encoded-tight-failed, encoded-end-failed, encoded-fault-failed, encoded-failed}
use Rattle.pcs_top.proofs.encode.put_lines.Goals as goal

pub loop-lines-init : goal.loop-lines-init
loop-lines-init g c = record {
  sent = λ start put. sent-start _ _ _ _ _ _ _ c.requires.opened put;
  waits = c.requires.waits;
  reads = omega arith;
  writes = omega arith;
  grows = longer-none _;
}

pub returns-in_err-release : goal.returns-in_err-release
returns-in_err-release g c start put =
    let exit = err_from_is_err_and c.from_residual.result c.from_residual.ensures.1 in
    let around = since start (seen g.R.Source.told g.R.Source.ended g.R.Source.faults g.W.Sink.held g.W.Sink.faults c.args.source.now c.loop-lines.source c.args.sink.now c.release.new.sink) in
    rw exit.1 (encoded-failed _ _ around _ _ _ (c.loop-lines.invariant.sent start put) (rose-after _ _ _ c.loop-lines.invariant.writes c.in_err-release.ensures.cause.failed)
    (waited _ _ around _ _ put c.requires.written (longer-in-front _ _ _ c.loop-lines.invariant.grows c.in_err-release.ensures.grows)) c.in_err-release.ensures.err c.in_err-release.ensures.grows)

pub loop-lines-preserved : goal.loop-lines-preserved
loop-lines-preserved g c =
    let line : FrameLine = said c.in-Ok-Some.line in
    let next = next-line _ _ _ _ _ _ _ line (ap content c.in-Ok-Some.is ∙ ap (λ p. content (Ok p)) c.in-Ok-Some.field-0-is) c.next.follows.holds-at-none in
    record {
      sent = λ start put.
          let kept = copied-kept _ _ _ _ _ _ _ _ _ _ _ (c.loop-lines.invariant.sent start put) c.in_ok-release.ensures.ok c.in_ok-release.ensures.grows in
          sent-line _ _ _ _ _ _ _ _ _ _ _ _ _ _ line kept next (λ cs so_far. c.in-Ok.ensures.ok _ cs start so_far)
          (asked-next _ _ _ _ _ _ _ _ _ _ _ _ _ frame_grammar frame_lines_end (line-or-none _ _ _ c.holds_line.ensures c.in_ok-release.ensures.written) kept next) c.in-Ok.ensures.grows;
      waits = c.in-Ok.ensures.waits;
      reads = omega (arith, c.loop-lines.invariant.reads, c.next.ensures.later);
      writes = omega (arith, c.loop-lines.invariant.writes, c.release.ensures.cause.later, c.put_line.ensures.later);
      grows = longer-then _ _ _ (longer-then _ _ _ c.loop-lines.invariant.grows c.in_ok-release.ensures.grows) c.in-Ok.ensures.grows;
    }

pub returns-in-Err-Failed : goal.returns-in-Err-Failed
returns-in-Err-Failed g c start put =
    let kept = copied-kept _ _ _ _ _ _ _ _ _ _ _ (c.loop-lines.invariant.sent start put) c.in_ok-release.ensures.ok c.in_ok-release.ensures.grows in
    let line : FrameLine = said c.in-Ok-Some.line in
    let next = next-line _ _ _ _ _ _ _ line (ap content c.in-Ok-Some.is ∙ ap (λ p. content (Ok p)) c.in-Ok-Some.field-0-is) c.next.follows.holds-at-none in
    let later : g.W.Sink.faults c.args.sink.now ≤ g.W.Sink.faults c.release.new.sink = omega (arith, c.loop-lines.invariant.writes, c.release.ensures.cause.later) in
    let around = since start (seen g.R.Source.told g.R.Source.ended g.R.Source.faults g.W.Sink.held g.W.Sink.faults c.args.source.now c.next.new.source c.args.sink.now c.put_line.new.sink) in
    let grown = longer-then _ _ _ c.loop-lines.invariant.grows c.in_ok-release.ensures.grows in
    encoded-frame-failed _ _ around _ _ _ _ _ kept line next _ _ c.in-Err-Failed.field-0-is (rose-after _ _ _ later (c.in-Err-Failed.ensures.failed (ap (λ h. Err h) c.in-Err-Failed.field-0-is)))
    (waited _ _ around _ _ put c.requires.written (longer-in-front _ _ _ grown c.in-Err-Failed.ensures.grows))
    (λ cs so_far. c.in-Err-Failed.ensures.err _ cs start so_far)
    (asked-next _ _ _ _ _ _ _ _ _ _ _ _ _ frame_grammar frame_lines_end (line-or-none _ _ _ c.holds_line.ensures c.in_ok-release.ensures.written) kept next) c.in-Err-Failed.ensures.grows

pub returns-in_err-flush-in-Err-TooTight : goal.returns-in_err-flush-in-Err-TooTight
returns-in_err-flush-in-Err-TooTight g c start put =
    let exit = err_from_is_err_and c.from_residual-in_err-flush-in-Err-TooTight.result c.from_residual-in_err-flush-in-Err-TooTight.ensures.1 in
    let kept = copied-kept _ _ _ _ _ _ _ _ _ _ _ (c.loop-lines.invariant.sent start put) c.in_ok-release.ensures.ok c.in_ok-release.ensures.grows in
    let line : FrameLine = said c.in-Ok-Some.line in
    let next = next-line _ _ _ _ _ _ _ line (ap content c.in-Ok-Some.is ∙ ap (λ p. content (Ok p)) c.in-Ok-Some.field-0-is) c.next.follows.holds-at-none in
    let later : g.W.Sink.faults c.args.sink.now ≤ g.W.Sink.faults c.put_line.new.sink = omega (arith, c.loop-lines.invariant.writes, c.release.ensures.cause.later, c.put_line.ensures.later) in
    let around = since start (seen g.R.Source.told g.R.Source.ended g.R.Source.faults g.W.Sink.held g.W.Sink.faults c.args.source.now c.next.new.source c.args.sink.now c.flush.new.sink) in
    let grown = longer-then _ _ _ c.loop-lines.invariant.grows c.in_ok-release.ensures.grows in
    rw exit.1 (encoded-tight-failed _ _ around _ _ _ _ _ kept line next _ _ _ c.in-Err-TooTight.field-0-is (rose-after _ _ _ later c.in_err-flush-in-Err-TooTight.ensures.cause.failed)
    (λ text told. waited-told _ _ around _ _ _ text _ put c.requires.written (longer-in-front _ _ _ grown c.in-Err-TooTight.ensures.grows) told
    c.in_err-flush-in-Err-TooTight.ensures.grows)
    (λ cs so_far. c.in-Err-TooTight.ensures.err _ cs start so_far) c.in_err-flush-in-Err-TooTight.ensures.err
    (asked-next _ _ _ _ _ _ _ _ _ _ _ _ _ frame_grammar frame_lines_end (line-or-none _ _ _ c.holds_line.ensures c.in_ok-release.ensures.written) kept next) c.in-Err-TooTight.ensures.grows c.in_err-flush-in-Err-TooTight.ensures.grows)

pub returns-in-Err-TooTight : goal.returns-in-Err-TooTight
returns-in-Err-TooTight g c start put =
    let kept = copied-kept _ _ _ _ _ _ _ _ _ _ _ (c.loop-lines.invariant.sent start put) c.in_ok-release.ensures.ok c.in_ok-release.ensures.grows in
    let line : FrameLine = said c.in-Ok-Some.line in
    let next = next-line _ _ _ _ _ _ _ line (ap content c.in-Ok-Some.is ∙ ap (λ p. content (Ok p)) c.in-Ok-Some.field-0-is) c.next.follows.holds-at-none in
    let around = since start (seen g.R.Source.told g.R.Source.ended g.R.Source.faults g.W.Sink.held g.W.Sink.faults c.args.source.now c.next.new.source c.args.sink.now c.flush.new.sink) in
    encoded-tight _ _ around _ _ _ _ _ kept line next c.answered.result _ _ _ c.in-Err-TooTight.field-0-is c.answered.ensures (λ cs so_far. c.in-Err-TooTight.ensures.err _ cs start so_far) c.in_ok-flush-in-Err-TooTight.ensures.ok

pub returns-in_err-finish-in-Ok-None : goal.returns-in_err-finish-in-Ok-None
returns-in_err-finish-in-Ok-None g c start put =
    let exit = err_from_is_err_and c.from_residual-in_err-finish-in-Ok-None.result c.from_residual-in_err-finish-in-Ok-None.ensures.1 in
    let kept = copied-kept _ _ _ _ _ _ _ _ _ _ _ (c.loop-lines.invariant.sent start put) c.in_ok-release.ensures.ok c.in_ok-release.ensures.grows in
    let next = next-end _ _ _ _ _ _ _ (ap content c.in-Ok-None.is ∙ ap (λ p. content (Ok p)) c.in-Ok-None.field-0-is) c.next.follows.holds-at-none in
    let later : g.W.Sink.faults c.args.sink.now ≤ g.W.Sink.faults c.release.new.sink = omega (arith, c.loop-lines.invariant.writes, c.release.ensures.cause.later) in
    let around = since start (seen g.R.Source.told g.R.Source.ended g.R.Source.faults g.W.Sink.held g.W.Sink.faults c.args.source.now c.next.new.source c.args.sink.now c.finish.new.sink) in
    let grown = longer-then _ _ _ c.loop-lines.invariant.grows c.in_ok-release.ensures.grows in
    rw exit.1 (encoded-end-failed _ _ around _ _ _ _ _ kept next (rose-after _ _ _ later c.in_err-finish-in-Ok-None.ensures.cause.failed)
    (waited _ _ around _ _ put c.requires.written (longer-in-front _ _ _ grown c.in_err-finish-in-Ok-None.ensures.grows))
    (λ cs so_far. c.in_err-finish-in-Ok-None.ensures.err cs start so_far)
    (asked-next _ _ _ _ _ _ _ _ _ _ _ _ _ frame_grammar frame_lines_end (line-or-none _ _ _ c.holds_line.ensures c.in_ok-release.ensures.written) kept next) c.in_err-finish-in-Ok-None.ensures.grows)

pub returns-in_err-flush-in-Ok-None : goal.returns-in_err-flush-in-Ok-None
returns-in_err-flush-in-Ok-None g c start put =
    let exit = err_from_is_err_and c.from_residual-in_err-flush-in-Ok-None.result c.from_residual-in_err-flush-in-Ok-None.ensures.1 in
    let kept = copied-kept _ _ _ _ _ _ _ _ _ _ _ (c.loop-lines.invariant.sent start put) c.in_ok-release.ensures.ok c.in_ok-release.ensures.grows in
    let next = next-end _ _ _ _ _ _ _ (ap content c.in-Ok-None.is ∙ ap (λ p. content (Ok p)) c.in-Ok-None.field-0-is) c.next.follows.holds-at-none in
    let later : g.W.Sink.faults c.args.sink.now ≤ g.W.Sink.faults c.finish.new.sink = omega (arith, c.loop-lines.invariant.writes, c.release.ensures.cause.later, c.finish.ensures.cause.later) in
    let around = since start (seen g.R.Source.told g.R.Source.ended g.R.Source.faults g.W.Sink.held g.W.Sink.faults c.args.source.now c.next.new.source c.args.sink.now c.flush-in-Ok-None.new.sink) in
    let grown = longer-then _ _ _ (longer-then _ _ _ c.loop-lines.invariant.grows c.in_ok-release.ensures.grows) c.in_ok-finish-in-Ok-None.ensures.grows in
    rw exit.1 (encoded-end-failed _ _ around _ _ _ _ _ kept next (rose-after _ _ _ later c.in_err-flush-in-Ok-None.ensures.cause.failed)
    (waited _ _ around _ _ put c.requires.written (longer-in-front _ _ _ grown c.in_err-flush-in-Ok-None.ensures.grows))
    (λ cs so_far. c.in_err-flush-in-Ok-None.ensures.err start (sent_octets c.args.options.now cs) (c.in_ok-finish-in-Ok-None.ensures.ok cs start so_far))
    (asked-next _ _ _ _ _ _ _ _ _ _ _ _ _ frame_grammar frame_lines_end (line-or-none _ _ _ c.holds_line.ensures c.in_ok-release.ensures.written) kept next) (longer-in-front _ _ _ c.in_ok-finish-in-Ok-None.ensures.grows c.in_err-flush-in-Ok-None.ensures.grows))

pub returns-in-Ok-None : goal.returns-in-Ok-None
returns-in-Ok-None g c start put =
    let kept = copied-kept _ _ _ _ _ _ _ _ _ _ _ (c.loop-lines.invariant.sent start put) c.in_ok-release.ensures.ok c.in_ok-release.ensures.grows in
    let next = next-end _ _ _ _ _ _ _ (ap content c.in-Ok-None.is ∙ ap (λ p. content (Ok p)) c.in-Ok-None.field-0-is) c.next.follows.holds-at-none in
    let around = since start (seen g.R.Source.told g.R.Source.ended g.R.Source.faults g.W.Sink.held g.W.Sink.faults c.args.source.now c.next.new.source c.args.sink.now c.flush-in-Ok-None.new.sink) in
    encoded-done _ _ around _ _ _ _ _ kept _ _ next (λ cs so_far. c.in_ok-finish-in-Ok-None.ensures.ok cs start so_far) c.in_ok-flush-in-Ok-None.ensures.ok

pub returns-in_err-flush-in-Err : goal.returns-in_err-flush-in-Err
returns-in_err-flush-in-Err g c start put =
    let exit = err_from_is_err_and c.from_residual-in_err-flush-in-Err.result c.from_residual-in_err-flush-in-Err.ensures.1 in
    let kept = copied-kept _ _ _ _ _ _ _ _ _ _ _ (c.loop-lines.invariant.sent start put) c.in_ok-release.ensures.ok c.in_ok-release.ensures.grows in
    let next = next-fault _ _ _ _ _ _ _ c.in-Err.fault (ap content c.in-Err.is) c.next.follows.holds-at-none in
    let later : g.W.Sink.faults c.args.sink.now ≤ g.W.Sink.faults c.release.new.sink = omega (arith, c.loop-lines.invariant.writes, c.release.ensures.cause.later) in
    let around = since start (seen g.R.Source.told g.R.Source.ended g.R.Source.faults g.W.Sink.held g.W.Sink.faults c.args.source.now c.next.new.source c.args.sink.now c.flush-in-Err.new.sink) in
    let grown = longer-then _ _ _ c.loop-lines.invariant.grows c.in_ok-release.ensures.grows in
    rw exit.1 (encoded-fault-failed _ _ around _ _ _ _ _ kept c.in-Err.fault next (rose-after _ _ _ later c.in_err-flush-in-Err.ensures.cause.failed)
    (waited _ _ around _ _ put c.requires.written (longer-in-front _ _ _ grown c.in_err-flush-in-Err.ensures.grows)) c.in_err-flush-in-Err.ensures.err
    (asked-next _ _ _ _ _ _ _ _ _ _ _ _ _ frame_grammar frame_lines_end (line-or-none _ _ _ c.holds_line.ensures c.in_ok-release.ensures.written) kept next) c.in_err-flush-in-Err.ensures.grows)

pub returns-in-Err : goal.returns-in-Err
returns-in-Err g c start put =
    let kept = copied-kept _ _ _ _ _ _ _ _ _ _ _ (c.loop-lines.invariant.sent start put) c.in_ok-release.ensures.ok c.in_ok-release.ensures.grows in
    let next = next-fault _ _ _ _ _ _ _ c.in-Err.fault (ap content c.in-Err.is) c.next.follows.holds-at-none in
    let around = since start (seen g.R.Source.told g.R.Source.ended g.R.Source.faults g.W.Sink.held g.W.Sink.faults c.args.source.now c.next.new.source c.args.sink.now c.flush-in-Err.new.sink) in
    rw c.from.ensures (encoded-fault _ _ around _ _ _ _ _ kept c.in-Err.fault next
    (λ read. read-failed _ _ _ _ _ _ _ _ _ _ _ _ kept c.loop-lines.invariant.reads (c.in-Err.ensures.read (ap (λ f. Err f) read)))
    c.in_ok-flush-in-Err.ensures.ok)
