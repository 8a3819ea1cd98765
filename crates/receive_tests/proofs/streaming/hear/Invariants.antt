use Rattle.std.proofs.Common.{◌≡◌, ◌+◌}
use Rattle.pcs_receive.specs.State.{left_count}
use Rattle.receive_tests.proofs.streaming.hear.Given as goal

abbrev pub invariant-loop-event : goal.invariant-loop-event
invariant-loop-event l = l.receiver.aligner.beats ≡ l.fn.receiver.aligner.beats + 1

abbrev pub decreases-loop-event : goal.decreases-loop-event
decreases-loop-event l = left_count l.receiver
