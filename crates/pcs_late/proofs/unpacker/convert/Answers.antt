use Rattle.std.proofs.Common.{ap, arith, refl, subst, sym, ◌≤◌, ◌∙◌, IsSome, Ok, Err}
use Rattle.std.proofs.lemmas.Result.{err_from_is_err_and}
use Rattle.pcap_frames.specs.Histories.{Nexts, content}
use Rattle.pcs_drive.specs.Seen.{seen}
use Rattle.pcs_drive.proofs.Copying.{rose-after}
use Rattle.pcs_late.proofs.Unpacked.{unpacking-start, header-fault, unpacking-kept, unpacking-frame, asked-next, unpacked-done, unpacked-fault, end-failed, frame-failed, fault-failed, release-failed, read-failed}
use Rattle.pcs_late.proofs.unpacker.convert.Goals as goal

pub returns-in-Err : goal.returns-in-Err
returns-in-Err g c =
    let around = seen g.R.Source.told g.R.Source.ended g.R.Source.faults g.W.Sink.held g.W.Sink.faults
    c.args.source.now c.header.new.source c.args.sink.now c.args.sink.now in
    rw c.from.ensures (header-fault c.args.gap _ around _ _ c.in-Err.fault c.requires.opened refl c.in-Err.ensures.answers
    (λ read. c.in-Err.ensures.read (ap (λ f. Err f) read)))

pub loop-reader-init : goal.loop-reader-init
loop-reader-init g c = record {
  unpacking = unpacking-start c.args.gap _ _ _ _ _ _ (g.R.Source.ended c.header.new.source) _ c.requires.opened c.requires.empty c.in-Ok.ensures.answers c.in-Ok.ensures.asks c.in-Ok.ensures.order;
  some = c.in-Ok.ensures.order;
  reads = c.header.ensures.later;
  writes = omega arith;
}

pub loop-reader-preserved : goal.loop-reader-preserved
loop-reader-preserved g c =
    let kept = unpacking-kept c.args.gap _ _ _ _ _ _ _ _ _ c.loop-reader.invariant.unpacking c.in_ok-release.ensures.ok c.in_ok-release.ensures.grows in
    let frame = c.in-Ok-Some.frame.now in
    let is = ap content c.in-Ok-Some.is ∙ ap (λ p. content (Ok p)) c.in-Ok-Some.field-0-is in
    let next = subst (Nexts _ _ _ _ _) is c.next.follows.holds-at-none in
    let asked = asked-next c.args.gap _ _ _ _ _ _ _ _ _ _ _ _ c.holds_record.ensures c.in_ok-release.ensures.written kept next in
    let unpacking = unpacking-frame c.args.gap _ _ _ _ _ _ _ _ _ _ _ _ frame kept next c.in_ok-put_frame_line-in-Ok-Some.ensures.ok
    asked c.in_ok-put_frame_line-in-Ok-Some.ensures.grows in
    record {
      unpacking = unpacking;
      some = subst IsSome (sym unpacking.tells) refl;
      reads = omega (arith, c.next.ensures.later);
      writes = omega (arith, c.release.ensures.cause.later, c.put_frame_line.ensures.cause.later);
    }

pub returns-in_err-release : goal.returns-in_err-release
returns-in_err-release g c =
    let exit = err_from_is_err_and c.from_residual.result c.from_residual.ensures.1 in
    let around = seen g.R.Source.told g.R.Source.ended g.R.Source.faults g.W.Sink.held g.W.Sink.faults
    c.args.source.now c.loop-reader.source c.args.sink.now c.release.new.sink in
    rw exit.1 (release-failed c.args.gap _ around _ _ _ c.loop-reader.invariant.unpacking
    (rose-after _ _ _ c.loop-reader.invariant.writes c.in_err-release.ensures.cause.failed) c.in_err-release.ensures.err c.in_err-release.ensures.grows)

pub returns-in_err-put_frame_line-in-Ok-Some : goal.returns-in_err-put_frame_line-in-Ok-Some
returns-in_err-put_frame_line-in-Ok-Some g c =
    let exit = err_from_is_err_and c.from_residual-in_err-put_frame_line-in-Ok-Some.result c.from_residual-in_err-put_frame_line-in-Ok-Some.ensures.1 in
    let kept = unpacking-kept c.args.gap _ _ _ _ _ _ _ _ _ c.loop-reader.invariant.unpacking c.in_ok-release.ensures.ok c.in_ok-release.ensures.grows in
    let frame = c.in-Ok-Some.frame.now in
    let is = ap content c.in-Ok-Some.is ∙ ap (λ p. content (Ok p)) c.in-Ok-Some.field-0-is in
    let next = subst (Nexts _ _ _ _ _) is c.next.follows.holds-at-none in
    let asked = asked-next c.args.gap _ _ _ _ _ _ _ _ _ _ _ _ c.holds_record.ensures c.in_ok-release.ensures.written kept next in
    let later : g.W.Sink.faults c.args.sink.now ≤ g.W.Sink.faults c.release.new.sink = omega (arith, c.release.ensures.cause.later) in
    let around = seen g.R.Source.told g.R.Source.ended g.R.Source.faults g.W.Sink.held g.W.Sink.faults
    c.args.source.now c.next.new.source c.args.sink.now c.put_frame_line.new.sink in
    rw exit.1 (frame-failed c.args.gap _ around _ _ _ _ kept _ frame next (rose-after _ _ _ later c.in_err-put_frame_line-in-Ok-Some.ensures.cause.failed)
    c.in_err-put_frame_line-in-Ok-Some.ensures.err asked c.in_err-put_frame_line-in-Ok-Some.ensures.grows)

pub returns-in_err-flush-in-Ok-None : goal.returns-in_err-flush-in-Ok-None
returns-in_err-flush-in-Ok-None g c =
    let exit = err_from_is_err_and c.from_residual-in_err-flush-in-Ok-None.result c.from_residual-in_err-flush-in-Ok-None.ensures.1 in
    let kept = unpacking-kept c.args.gap _ _ _ _ _ _ _ _ _ c.loop-reader.invariant.unpacking c.in_ok-release.ensures.ok c.in_ok-release.ensures.grows in
    let is = ap content c.in-Ok-None.is ∙ ap (λ p. content (Ok p)) c.in-Ok-None.field-0-is in
    let next = subst (Nexts _ _ _ _ _) is c.next.follows.holds-at-none in
    let asked = asked-next c.args.gap _ _ _ _ _ _ _ _ _ _ _ _ c.holds_record.ensures c.in_ok-release.ensures.written kept next in
    let later : g.W.Sink.faults c.args.sink.now ≤ g.W.Sink.faults c.release.new.sink = omega (arith, c.release.ensures.cause.later) in
    let around = seen g.R.Source.told g.R.Source.ended g.R.Source.faults g.W.Sink.held g.W.Sink.faults
    c.args.source.now c.next.new.source c.args.sink.now c.flush.new.sink in
    rw exit.1 (end-failed c.args.gap _ around _ _ _ _ kept _ next (rose-after _ _ _ later c.in_err-flush-in-Ok-None.ensures.cause.failed)
    c.in_err-flush-in-Ok-None.ensures.err asked c.in_err-flush-in-Ok-None.ensures.grows)

pub returns-in-Ok-None : goal.returns-in-Ok-None
returns-in-Ok-None g c =
    let kept = unpacking-kept c.args.gap _ _ _ _ _ _ _ _ _ c.loop-reader.invariant.unpacking c.in_ok-release.ensures.ok c.in_ok-release.ensures.grows in
    let is = ap content c.in-Ok-None.is ∙ ap (λ p. content (Ok p)) c.in-Ok-None.field-0-is in
    let next = subst (Nexts _ _ _ _ _) is c.next.follows.holds-at-none in
    let around = seen g.R.Source.told g.R.Source.ended g.R.Source.faults g.W.Sink.held g.W.Sink.faults
    c.args.source.now c.next.new.source c.args.sink.now c.flush.new.sink in
    unpacked-done c.args.gap _ around _ _ _ _ kept _ next c.in_ok-flush-in-Ok-None.ensures.ok

pub returns-in_err-flush-in-Err-next : goal.returns-in_err-flush-in-Err-next
returns-in_err-flush-in-Err-next g c =
    let exit = err_from_is_err_and c.from_residual-in_err-flush-in-Err-next.result c.from_residual-in_err-flush-in-Err-next.ensures.1 in
    let kept = unpacking-kept c.args.gap _ _ _ _ _ _ _ _ _ c.loop-reader.invariant.unpacking c.in_ok-release.ensures.ok c.in_ok-release.ensures.grows in
    let next = subst (Nexts _ _ _ _ _) (ap content c.in-Err-next.is) c.next.follows.holds-at-none in
    let asked = asked-next c.args.gap _ _ _ _ _ _ _ _ _ _ _ _ c.holds_record.ensures c.in_ok-release.ensures.written kept next in
    let later : g.W.Sink.faults c.args.sink.now ≤ g.W.Sink.faults c.release.new.sink = omega (arith, c.release.ensures.cause.later) in
    let around = seen g.R.Source.told g.R.Source.ended g.R.Source.faults g.W.Sink.held g.W.Sink.faults
    c.args.source.now c.next.new.source c.args.sink.now c.flush-in-Err-next.new.sink in
    rw exit.1 (fault-failed c.args.gap _ around _ _ _ _ kept _ _ next (rose-after _ _ _ later c.in_err-flush-in-Err-next.ensures.cause.failed)
    c.in_err-flush-in-Err-next.ensures.err asked c.in_err-flush-in-Err-next.ensures.grows)

pub returns-in-Err-next : goal.returns-in-Err-next
returns-in-Err-next g c =
    let kept = unpacking-kept c.args.gap _ _ _ _ _ _ _ _ _ c.loop-reader.invariant.unpacking c.in_ok-release.ensures.ok c.in_ok-release.ensures.grows in
    let next = subst (Nexts _ _ _ _ _) (ap content c.in-Err-next.is) c.next.follows.holds-at-none in
    let around = seen g.R.Source.told g.R.Source.ended g.R.Source.faults g.W.Sink.held g.W.Sink.faults
    c.args.source.now c.next.new.source c.args.sink.now c.flush-in-Err-next.new.sink in
    rw c.from-in-Err-next.ensures (unpacked-fault c.args.gap _ around _ _ _ _ kept _ c.in-Err-next.fault next
    (λ read. read-failed c.args.gap _ _ _ _ _ _ _ _ _ _ kept c.loop-reader.invariant.reads (c.in-Err-next.ensures.read (ap (λ f. Err f) read)))
    c.in_ok-flush-in-Err-next.ensures.ok)
