use Rattle.std.proofs.Common.{◌≡◌, ℕ, ◌+◌, ◌^◌, ◌≤◌, [], List, Option}
use Rattle.pcs_io.specs.Captures.{History}
use Rattle.pcs_io.specs.Histories.{octets_ahead}
use Rattle.pcs_drive.specs.Tasks.{HasPut}
use Rattle.pcs_drive.specs.CaptureCommand.{BeatsText, HasHeaderBy}
use Rattle.pcs_drive.specs.FileKinds.{FileKind, HeaderOf, at_of, front_of}
use Rattle.pcs_drive.proofs.Driving.{Reading}
use Rattle.pcs_drive.proofs.driver.convert.Given as goal

abbrev pub invariant-loop-beats : goal.invariant-loop-beats
invariant-loop-beats g l = let task = g.T.Task in let left = g.R.Source.told in let held = g.W.Sink.held in
    record {
      reading : (kind : FileKind) (h : History) (header : HeaderOf kind) (text : BeatsText) (start : Option (List ℕ))
          → HasHeaderBy (at_of kind) (front_of kind) l.fn.beats h header → HasPut task.Keeps l.fn.task text [] start (held l.fn.sink) l.fn.output
          → Reading task.Keeps (at_of kind) h header text l.beats l.task (left l.fn.source) (left l.source) start (held l.sink) l.output;
      front : l.beats.front ≡ l.fn.beats.front;
      ready : task.IsReady l.task;
      room : task.taken l.task + octets_ahead l.beats.reader ≤ 2 ^ 40;
      reads : g.R.Source.faults l.fn.source ≤ g.R.Source.faults l.source;
      writes : g.W.Sink.faults l.fn.sink ≤ g.W.Sink.faults l.sink;
    }

abbrev pub decreases-loop-beats : goal.decreases-loop-beats
decreases-loop-beats g l = octets_ahead l.beats.reader
