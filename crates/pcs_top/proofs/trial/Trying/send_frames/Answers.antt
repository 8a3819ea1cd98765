use Rattle.std.proofs.Common.{refl, ◌∙◌, arith}
use Rattle.pcs_top.proofs.TriedFrames.{frame-short, frames-first, frames-next, frames-last}
use Rattle.pcs_top.proofs.trial.Trying.send_frames.Goals as goal

pub loop-i-init : goal.loop-i-init
loop-i-init c =
    let tried = c.requires.tried in
    record {
      frames = frames-first c.args.options.now c.args.self.now _ _ tried c.requires.none.0 c.new-maker.ensures (omega arith);
      trying = (c.args.options.now, tried.places.sent, tried.places.struck);
      waits = c.requires.waits;
      octets = omega (arith, c.requires.none.0);
      pairs = omega (arith, c.requires.none.1);
      columns = omega (arith, tried.count);
    }

pub send_frame-requires-clause-small : goal.send_frame-requires-clause-small
send_frame-requires-clause-small c =
    frame-short c.loop-i.maker.state c.make-gap.result _ (c.frame-frame.ensures.octets ∙ c.make-gap.ensures.frame) c.make-gap.ensures.gap

pub send_frame-requires-clause-trying : goal.send_frame-requires-clause-trying
send_frame-requires-clause-trying c = c.loop-i.invariant.trying

pub send_frame-requires-clause-few : goal.send_frame-requires-clause-few
send_frame-requires-clause-few c =
    let v = c.loop-i.invariant in
    (omega (arith, v.pairs, c.requires.ranges.count, c.loop-i-test.true), omega (arith, v.columns, c.requires.ranges.count, c.loop-i-test.true))

pub loop-i-preserved : goal.loop-i-preserved
loop-i-preserved c =
    let v = c.loop-i.invariant in
    let frame = c.frame-frame.ensures.octets ∙ c.make-gap.ensures.frame in
    record {
      frames = frames-next c.args.options.now c.loop-i.self _ c.send_frame.new.self c.loop-i.maker.state _ _ _ c.make-gap.result _ v.frames
          (omega (arith, c.loop-i-test.true)) frame c.make-gap.ensures.gap c.make-gap.ensures.state refl (c.send_frame.ensures.tried c.args.options.now) c.send_frame.ensures.octets;
      trying = c.send_frame.ensures.trying;
      waits = c.send_frame.ensures.waits;
      octets = omega (arith, v.octets, c.send_frame.ensures.octets, c.frame-frame.ensures.within);
      pairs = omega (arith, v.pairs, c.send_frame.ensures.few.0);
      columns = omega (arith, v.columns, c.send_frame.ensures.few.1);
    }

pub returns-clause-made : goal.returns-clause-made
returns-clause-made c = frames-last c.args.options.now c.loop-i.self c.loop-i.maker.state _ c.loop-i.invariant.frames (omega (arith, c.loop-i-test.false))

pub returns-clause-few : goal.returns-clause-few
returns-clause-few c = omega (arith, c.loop-i.invariant.pairs, c.requires.ranges.count, c.loop-i.auto.i-end)
