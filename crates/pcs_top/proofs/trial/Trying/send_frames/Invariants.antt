use Rattle.std.proofs.Common.{◌≡◌, ◌+◌, ◌-◌, ◌*◌, ◌^◌, ◌≤◌, false}
use Rattle.pcs_send.specs.Holding.{is_ready}
use Rattle.pcs_top.specs.Trials.{IsTrying}
use Rattle.pcs_top.proofs.TriedFrames.{FramesTried}
use Rattle.pcs_top.proofs.trial.Trying.send_frames.Given as goal

abbrev pub invariant-loop-i : goal.invariant-loop-i
invariant-loop-i l = record {
  frames : FramesTried l.fn.options l.self l.maker.state (l.fn.options.count - l.i);
  trying : IsTrying l.self;
  waits : is_ready l.self.sender ≡ false;
  octets : l.self.octets ≤ 1088 * l.i;
  pairs : l.self.pairs ≤ 2 ^ 14 + 204 * l.i;
  columns : l.self.columns ≤ 204 * l.i;
}
