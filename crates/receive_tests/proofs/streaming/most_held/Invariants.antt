use Rattle.std.proofs.Common.{◌≡◌}
use Rattle.pcs_receive.specs.State.{IsDrained}
use Rattle.receive_tests.proofs.streaming.most_held.Given as goal

abbrev pub invariant-loop-i : goal.invariant-loop-i
invariant-loop-i l = record { drained : IsDrained l.receiver; beats : l.receiver.aligner.beats ≡ l.i }
