use Rattle.std.proofs.Common.{ap, arith, ◌≡◌, ◌≤◌, ◌∙◌, Ok, Err, Some, None, Option, List, ℕ, subst}
use Rattle.std.proofs.lemmas.Result.{err_from_is_err_and}
use Rattle.pcs_io.specs.Histories.{answer_of}
use Rattle.pcs_drive.specs.LineTasks.{TakesLine, PutsLine, BreaksAtLine}
use Rattle.pcs_drive.specs.Seen.{Seen, seen, since}
use Rattle.pcs_drive.proofs.Copying.{copied-kept, copied-line, copied-done, copied-fault, copied-failed, line-failed, end-failed, fault-failed, next-line, next-end, next-fault, asked-next, line-or-none, read-failed, rose-after}
use Rattle.pcs_drive.proofs.LineDriving.{driven-start, kept-line, put-line, broke-line}
use Rattle.pcs_drive.proofs.line_driver.convert_lines.Goals as goal

pub loop-reader-init : goal.loop-reader-init
loop-reader-init g c = record {
  copied = λ text_of start same wrote. driven-start g.T.LineTask.Keeps g.P.Parser.line g.P.Parser.line_at text_of _ _ _ start _ _ c.requires.opened c.requires.none_taken wrote;
  reads = omega arith;
  writes = omega arith;
}

pub returns-in_err-release : goal.returns-in_err-release
returns-in_err-release g c =
    let exit = err_from_is_err_and c.from_residual.result c.from_residual.ensures.1 in
    let around : Option (List ℕ) → Seen = λ start. since start (seen g.R.Source.told g.R.Source.ended g.R.Source.faults g.W.Sink.held g.W.Sink.faults c.args.source.now c.loop-reader.source c.args.sink.now c.release.new.sink) in
    rw exit.1 (λ text_of start same wrote.
    copied-failed _ _ _ (around start) _ _ _ (c.loop-reader.invariant.copied text_of start same wrote)
    (rose-after _ _ _ c.loop-reader.invariant.writes c.in_err-release.ensures.cause.failed) c.in_err-release.ensures.err c.in_err-release.ensures.grows)

pub loop-reader-preserved : goal.loop-reader-preserved
loop-reader-preserved g c =
    let line = g.P.Parser.line c.next.new.self.parser in
    let is : answer_of c.next.result line ≡ Ok (Some line) = ap (λ r. answer_of r line) (c.in-Ok-true.is ∙ ap (λ b. Ok b) c.in-Ok-true.field-0-test) in
    let next = next-line _ _ _ _ _ _ _ line is c.next.ensures.nexts in
    let takes = subst (TakesLine g.T.LineTask.Keeps c.loop-reader.task c.put_line.new.self) c.parser.ensures c.in_ok-put_line-in-Ok-true.ensures.taken in
    let puts = subst (λ p. PutsLine g.T.LineTask.Keeps g.T.LineTask.text c.loop-reader.task p (g.W.Sink.held c.release.new.sink) c.release.new.self (g.W.Sink.held c.put_line.new.sink) c.put_line.new.output)
    c.parser.ensures c.in_ok-put_line-in-Ok-true.ensures.ok in
    record {
      copied = λ text_of start same wrote.
          let kept = copied-kept _ _ _ _ _ _ _ _ _ _ _ (c.loop-reader.invariant.copied text_of start same wrote) c.in_ok-release.ensures.ok c.in_ok-release.ensures.grows in
          copied-line _ _ _ _ _ _ _ _ _ _ _ _ _ _ _ _ kept next
          (kept-line g.T.LineTask.Keeps g.P.Parser.line _ _ _ takes)
          (put-line g.T.LineTask.Keeps g.P.Parser.line g.T.LineTask.text text_of same _ _ _ _ _ _ puts)
          (asked-next _ _ _ _ _ _ _ _ _ _ _ _ _ g.P.Parser.grammar g.met.T.LineTask.ends (line-or-none _ _ _ c.holds_line.ensures c.in_ok-release.ensures.written) kept next) c.in_ok-put_line-in-Ok-true.ensures.grows;
      reads = omega (arith, c.next.ensures.later, c.loop-reader.invariant.reads);
      writes = omega (arith, c.release.ensures.cause.later, c.put_line.ensures.cause.later, c.loop-reader.invariant.writes);
    }

pub returns-in_err-put_line-in-Ok-true : goal.returns-in_err-put_line-in-Ok-true
returns-in_err-put_line-in-Ok-true g c =
    let exit = err_from_is_err_and c.from_residual-in_err-put_line-in-Ok-true.result c.from_residual-in_err-put_line-in-Ok-true.ensures.1 in
    let line = g.P.Parser.line c.next.new.self.parser in
    let is : answer_of c.next.result line ≡ Ok (Some line) = ap (λ r. answer_of r line) (c.in-Ok-true.is ∙ ap (λ b. Ok b) c.in-Ok-true.field-0-test) in
    let next = next-line _ _ _ _ _ _ _ line is c.next.ensures.nexts in
    let later : g.W.Sink.faults c.args.sink.now ≤ g.W.Sink.faults c.release.new.sink = omega (arith, c.release.ensures.cause.later, c.loop-reader.invariant.writes) in
    let breaks = subst (λ p. BreaksAtLine g.T.LineTask.Keeps g.T.LineTask.text c.loop-reader.task p (g.W.Sink.held c.release.new.sink) c.release.new.self (g.W.Sink.held c.put_line.new.sink))
    c.parser.ensures c.in_err-put_line-in-Ok-true.ensures.err in
    let around : Option (List ℕ) → Seen = λ start. since start (seen g.R.Source.told g.R.Source.ended g.R.Source.faults g.W.Sink.held g.W.Sink.faults c.args.source.now c.next.new.source c.args.sink.now c.put_line.new.sink) in
    rw exit.1 (λ text_of start same wrote.
    let kept = copied-kept _ _ _ _ _ _ _ _ _ _ _ (c.loop-reader.invariant.copied text_of start same wrote) c.in_ok-release.ensures.ok c.in_ok-release.ensures.grows in
    line-failed _ _ _ (around start) _ _ _ _ _ _ kept next (rose-after _ _ _ later c.in_err-put_line-in-Ok-true.ensures.cause.failed)
    (broke-line g.T.LineTask.Keeps g.P.Parser.line g.T.LineTask.text text_of same _ _ _ _ _ breaks)
    (asked-next _ _ _ _ _ _ _ _ _ _ _ _ _ g.P.Parser.grammar g.met.T.LineTask.ends (line-or-none _ _ _ c.holds_line.ensures c.in_ok-release.ensures.written) kept next) c.in_err-put_line-in-Ok-true.ensures.grows)

pub returns-in_err-flush-in-Ok-false : goal.returns-in_err-flush-in-Ok-false
returns-in_err-flush-in-Ok-false g c =
    let exit = err_from_is_err_and c.from_residual-in_err-flush-in-Ok-false.result c.from_residual-in_err-flush-in-Ok-false.ensures.1 in
    let line = g.P.Parser.line c.next.new.self.parser in
    let is : answer_of c.next.result line ≡ Ok None = ap (λ r. answer_of r line) (c.in-Ok-false.is ∙ ap (λ b. Ok b) c.in-Ok-false.field-0-test) in
    let next = next-end _ _ _ _ _ _ _ is c.next.ensures.nexts in
    let later : g.W.Sink.faults c.args.sink.now ≤ g.W.Sink.faults c.release.new.sink = omega (arith, c.release.ensures.cause.later, c.loop-reader.invariant.writes) in
    let around : Option (List ℕ) → Seen = λ start. since start (seen g.R.Source.told g.R.Source.ended g.R.Source.faults g.W.Sink.held g.W.Sink.faults c.args.source.now c.next.new.source c.args.sink.now c.flush.new.sink) in
    rw exit.1 (λ text_of start same wrote.
    let kept = copied-kept _ _ _ _ _ _ _ _ _ _ _ (c.loop-reader.invariant.copied text_of start same wrote) c.in_ok-release.ensures.ok c.in_ok-release.ensures.grows in
    end-failed _ _ _ (around start) _ _ _ _ _ kept next (rose-after _ _ _ later c.in_err-flush-in-Ok-false.ensures.cause.failed) c.in_err-flush-in-Ok-false.ensures.err
    (asked-next _ _ _ _ _ _ _ _ _ _ _ _ _ g.P.Parser.grammar g.met.T.LineTask.ends (line-or-none _ _ _ c.holds_line.ensures c.in_ok-release.ensures.written) kept next) c.in_err-flush-in-Ok-false.ensures.grows)

pub returns-in-Ok-false : goal.returns-in-Ok-false
returns-in-Ok-false g c =
    let line = g.P.Parser.line c.next.new.self.parser in
    let is : answer_of c.next.result line ≡ Ok None = ap (λ r. answer_of r line) (c.in-Ok-false.is ∙ ap (λ b. Ok b) c.in-Ok-false.field-0-test) in
    let next = next-end _ _ _ _ _ _ _ is c.next.ensures.nexts in
    let around : Option (List ℕ) → Seen = λ start. since start (seen g.R.Source.told g.R.Source.ended g.R.Source.faults g.W.Sink.held g.W.Sink.faults c.args.source.now c.next.new.source c.args.sink.now c.flush.new.sink) in
    λ text_of start same wrote.
    let kept = copied-kept _ _ _ _ _ _ _ _ _ _ _ (c.loop-reader.invariant.copied text_of start same wrote) c.in_ok-release.ensures.ok c.in_ok-release.ensures.grows in
    copied-done _ _ _ (around start) _ _ _ _ _ kept next c.in_ok-flush-in-Ok-false.ensures.ok

pub returns-in_err-flush-in-Err : goal.returns-in_err-flush-in-Err
returns-in_err-flush-in-Err g c =
    let exit = err_from_is_err_and c.from_residual-in_err-flush-in-Err.result c.from_residual-in_err-flush-in-Err.ensures.1 in
    let line = g.P.Parser.line c.next.new.self.parser in
    let next = next-fault _ _ _ _ _ _ _ c.in-Err.fault (ap (λ r. answer_of r line) c.in-Err.is) c.next.ensures.nexts in
    let later : g.W.Sink.faults c.args.sink.now ≤ g.W.Sink.faults c.release.new.sink = omega (arith, c.release.ensures.cause.later, c.loop-reader.invariant.writes) in
    let around : Option (List ℕ) → Seen = λ start. since start (seen g.R.Source.told g.R.Source.ended g.R.Source.faults g.W.Sink.held g.W.Sink.faults c.args.source.now c.next.new.source c.args.sink.now c.flush-in-Err.new.sink) in
    rw exit.1 (λ text_of start same wrote.
    let kept = copied-kept _ _ _ _ _ _ _ _ _ _ _ (c.loop-reader.invariant.copied text_of start same wrote) c.in_ok-release.ensures.ok c.in_ok-release.ensures.grows in
    fault-failed _ _ _ (around start) _ _ _ _ _ _ kept next (rose-after _ _ _ later c.in_err-flush-in-Err.ensures.cause.failed) c.in_err-flush-in-Err.ensures.err
    (asked-next _ _ _ _ _ _ _ _ _ _ _ _ _ g.P.Parser.grammar g.met.T.LineTask.ends (line-or-none _ _ _ c.holds_line.ensures c.in_ok-release.ensures.written) kept next) c.in_err-flush-in-Err.ensures.grows)

pub returns-in-Err : goal.returns-in-Err
returns-in-Err g c =
    let line = g.P.Parser.line c.next.new.self.parser in
    let next = next-fault _ _ _ _ _ _ _ c.in-Err.fault (ap (λ r. answer_of r line) c.in-Err.is) c.next.ensures.nexts in
    let around : Option (List ℕ) → Seen = λ start. since start (seen g.R.Source.told g.R.Source.ended g.R.Source.faults g.W.Sink.held g.W.Sink.faults c.args.source.now c.next.new.source c.args.sink.now c.flush-in-Err.new.sink) in
    rw c.from.ensures (λ text_of start same wrote.
    let kept = copied-kept _ _ _ _ _ _ _ _ _ _ _ (c.loop-reader.invariant.copied text_of start same wrote) c.in_ok-release.ensures.ok c.in_ok-release.ensures.grows in
    copied-fault _ _ _ (around start) _ _ _ _ _ c.in-Err.fault kept next
    (λ read. read-failed _ _ _ _ _ _ _ _ _ _ _ _ kept c.loop-reader.invariant.reads (c.in-Err.ensures.read (ap (λ f. Err f) read)))
    c.in_ok-flush-in-Err.ensures.ok)
