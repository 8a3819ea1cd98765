use Rattle.std.proofs.Common.{◌≡◌, ℕ, ◌+◌, ◌*◌, ◌≤◌, List, Option}
use Rattle.pcs_receive.specs.State.{left_count}
use Rattle.pcs_drive.specs.CaptureCommand.{BeatsText}
use Rattle.pcs_drive.specs.Writing.{Longer}
use Rattle.pcs_top.specs.EventTexts.{IsTelling}
use Rattle.pcs_top.proofs.listening.Listening.tell_events.Given as goal

abbrev pub invariant-loop-event : goal.invariant-loop-event
invariant-loop-event g l = let Keeps = g.T.Teller.Keeps in let held = g.W.Sink.held in
    record {
      telling : (text : BeatsText) (beats : List (List ℕ)) (start : Option (List ℕ))
          → IsTelling Keeps l.fn.self.receiver.now l.fn.self.teller l.fn.self.aligned text beats start (held l.fn.sink) l.fn.output
          → IsTelling Keeps l.self.receiver.now l.self.teller l.self.aligned text beats start (held l.sink) l.output;
      weight : g.T.Teller.weight l.self.teller + 32 * left_count l.self.receiver.now ≤ 6400 * l.self.receiver.now.aligner.beats;
      beats : l.self.receiver.now.aligner.beats ≡ l.fn.self.receiver.now.aligner.beats;
      later : g.W.Sink.faults l.fn.sink ≤ g.W.Sink.faults l.sink;
      grows : Longer (held l.fn.sink) (held l.sink);
    }

abbrev pub decreases-loop-event : goal.decreases-loop-event
decreases-loop-event g l = left_count l.self.receiver.now

abbrev pub invariant-loop-column : goal.invariant-loop-column
invariant-loop-column g l = let Keeps = g.T.Teller.Keeps in let held = g.W.Sink.held in
    record {
      telling : (text : BeatsText) (beats : List (List ℕ)) (start : Option (List ℕ))
          → IsTelling Keeps l.fn.self.receiver.now l.fn.self.teller l.fn.self.aligned text beats start (held l.fn.sink) l.fn.output
          → IsTelling Keeps l.self.receiver.now l.self.teller l.self.aligned text beats start (held l.sink) l.output;
      weight : g.T.Teller.weight l.self.teller + 32 * left_count l.self.receiver.now ≤ 6400 * l.self.receiver.now.aligner.beats;
      beats : l.self.receiver.now.aligner.beats ≡ l.fn.self.receiver.now.aligner.beats;
      later : g.W.Sink.faults l.fn.sink ≤ g.W.Sink.faults l.sink;
      grows : Longer (held l.fn.sink) (held l.sink);
      fewer : left_count l.self.receiver.now ≤ left_count l.initial.self.receiver.now;
    }

abbrev pub decreases-loop-column : goal.decreases-loop-column
decreases-loop-column g l = left_count l.self.receiver.now
