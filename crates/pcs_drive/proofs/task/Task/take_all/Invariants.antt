use Rattle.std.proofs.Common.{◌≤◌, ◌+◌, ℕ, List, take, ◌++◌, Option}
use Rattle.pcs_drive.specs.CaptureCommand.{BeatsText}
use Rattle.pcs_drive.specs.Writing.{Longer}
use Rattle.pcs_drive.specs.Tasks.{AreBeats, HasPut}
use Rattle.pcs_drive.proofs.task.Task.take_all.Given as goal

abbrev pub invariant-loop-i : goal.invariant-loop-i
invariant-loop-i g l = let task = g.Self.Task in let held = g.W.Sink.held in
    record {
      put : (text : BeatsText) (beats more : List (List ℕ)) (start : Option (List ℕ)) → AreBeats more l.fn.octets
          → HasPut task.Keeps l.fn.self text beats start (held l.fn.sink) l.fn.output
          → HasPut task.Keeps l.self text (beats ++ take l.i more) start (held l.sink) l.output;
      ready : task.IsReady l.self;
      taken : task.taken l.self ≤ task.taken l.fn.self + l.i;
      writes : g.W.Sink.faults l.fn.sink ≤ g.W.Sink.faults l.sink;
      grows : Longer (held l.fn.sink) (held l.sink);
    }
