use Rattle.std.proofs.Common.{◌≤◌, [], ℕ, List, Option}
use Rattle.pcs_io.specs.Histories.{octets_ahead}
use Rattle.pcs_drive.specs.LineTasks.{IsTextOf}
use Rattle.pcs_drive.specs.Writing.{Wrote}
use Rattle.pcs_drive.proofs.Copying.{Copied}
use Rattle.pcs_drive.proofs.LineDriving.{Kept}
use Rattle.pcs_drive.proofs.line_driver.convert_lines.Given as goal

abbrev pub invariant-loop-reader : goal.invariant-loop-reader
invariant-loop-reader g l = let task = g.T.LineTask in let parser = g.P.Parser in let left = g.R.Source.told in let held = g.W.Sink.held in
    record {
      copied : (text_of : List parser.Item → List ℕ) (start : Option (List ℕ)) → IsTextOf task.text parser.line text_of
          → Wrote start (held l.fn.sink) (text_of []) l.fn.output
          → Copied parser.line_at text_of (Kept task.Keeps parser.line l.task) l.reader (left l.fn.source) (left l.source) start (held l.sink) l.output;
      reads : g.R.Source.faults l.fn.source ≤ g.R.Source.faults l.source;
      writes : g.W.Sink.faults l.fn.sink ≤ g.W.Sink.faults l.sink;
    }

abbrev pub decreases-loop-reader : goal.decreases-loop-reader
decreases-loop-reader g l = octets_ahead l.reader
