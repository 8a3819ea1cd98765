use Rattle.std.proofs.Common.{◌≡◌, ◌<◌, ◌≤◌, ℕ, List, Option, length, Ok, Err, ap, refl, sym, subst, ◌∙◌, arith}
use Rattle.std.specs.Prelude.{IsSome}
use Rattle.std.proofs.lemmas.Result.{err_from_is_err_and}
use Rattle.pcs_io.specs.declared.beats.BeatIn.TheVariants.{Beat, End}
use Rattle.pcs_io.specs.Captures.{IsNearerEnd, header_read}
use Rattle.pcs_io.specs.Histories.{octets_ahead}
use Rattle.pcs_drive.specs.FileKinds.{at_of, front_of}
use Rattle.pcs_drive.specs.Seen.{Seen, seen, since}
use Rattle.pcs_drive.proofs.Copying.{rose-after}
use Rattle.pcs_drive.proofs.Driving.{reading-start, reading-kept, reading-all, all-failed, kept-failed, reading-beat, beat-failed, reading-end, finish-failed, end-failed, reading-fault, fault-failed, read-rose}
use Rattle.pcs_drive.proofs.OfKinds.{passes-of, beats-passed-of, tells-of, asks-of}
use Rattle.pcs_drive.proofs.driver.convert.Goals as goal

pub loop-beats-init : goal.loop-beats-init
loop-beats-init g c = record {
  reading = λ kind h header text start has put. reading-start g.T.Task.Keeps (at_of kind) h header text (front_of kind) _ _ _ start _ _ has put;
  front = refl;
  ready = c.requires.ready;
  room = c.requires.room;
  reads = omega arith;
  writes = omega arith;
}

pub returns-in_err-take_all : goal.returns-in_err-take_all
returns-in_err-take_all g c =
    let exit = err_from_is_err_and c.from_residual.result c.from_residual.ensures.1 in
    let around : Option (List ℕ) → Seen = λ start. since start (seen g.R.Source.told g.R.Source.ended g.R.Source.faults g.W.Sink.held g.W.Sink.faults c.args.source.now c.loop-beats.source c.args.sink.now c.take_all.new.sink) in
    rw exit.1 (λ kind h header text start has put.
    all-failed g.T.Task.Keeps (at_of kind) h header text has.going (around start) _ _ _ _ _ _ (c.loop-beats.invariant.reading kind h header text start has put) c.held.ensures.octets (λ k s. beats-passed-of kind header c.loop-beats.beats (c.loop-beats.invariant.front ∙ has.read) k s) (rose-after _ _ _ c.loop-beats.invariant.writes c.in_err-take_all.ensures.cause.failed) c.in_err-take_all.ensures.err c.in_err-take_all.ensures.grows)

pub returns-in_err-flush : goal.returns-in_err-flush
returns-in_err-flush g c =
    let exit = err_from_is_err_and c.from_residual-in_err-flush.result c.from_residual-in_err-flush.ensures.1 in
    let around : Option (List ℕ) → Seen = λ start. since start (seen g.R.Source.told g.R.Source.ended g.R.Source.faults g.W.Sink.held g.W.Sink.faults c.args.source.now c.loop-beats.source c.args.sink.now c.flush.new.sink) in
    let later : g.W.Sink.faults c.args.sink.now ≤ g.W.Sink.faults c.take_all.new.sink = omega (arith, c.loop-beats.invariant.writes, c.take_all.ensures.cause.later) in
    rw exit.1 (λ kind h header text start has put.
    let all = reading-all g.T.Task.Keeps (at_of kind) h header text has.going _ _ _ _ _ _ start _ _ _ _ _ (c.loop-beats.invariant.reading kind h header text start has put) c.held.ensures.octets (passes-of kind header _ _ (c.loop-beats.invariant.front ∙ has.read) c.pass.ensures.passes c.pass.ensures.levels) c.in_ok-take_all.ensures.ok c.in_ok-take_all.ensures.grows in
    kept-failed g.T.Task.Keeps (at_of kind) h header text (around start) _ _ _ _ all (rose-after _ _ _ later c.in_err-flush.ensures.cause.failed) c.in_err-flush.ensures.err c.in_err-flush.ensures.grows)

pub loop-beats-preserved : goal.loop-beats-preserved
loop-beats-preserved g c =
    let is : c.next.result ≡ Ok (Beat c.in-Ok-Beat.beat) = c.in-Ok-Beat.is ∙ ap (λ b. Ok b) c.in-Ok-Beat.field-0-is in
    let around : Option (List ℕ) → Seen = λ start. since start (seen g.R.Source.told g.R.Source.ended g.R.Source.faults g.W.Sink.held g.W.Sink.faults c.args.source.now c.next.new.source c.args.sink.now c.take.new.sink) in
    record {
      reading = λ kind h header text start has put.
          let all = reading-all g.T.Task.Keeps (at_of kind) h header text has.going _ _ _ _ _ _ start _ _ _ _ _ (c.loop-beats.invariant.reading kind h header text start has put) c.held.ensures.octets (passes-of kind header _ _ (c.loop-beats.invariant.front ∙ has.read) c.pass.ensures.passes c.pass.ensures.levels) c.in_ok-take_all.ensures.ok c.in_ok-take_all.ensures.grows in
          let kept = reading-kept g.T.Task.Keeps (at_of kind) h header text _ _ _ _ start _ (g.W.Sink.held c.flush.new.sink) _ c.flush.new.self all (rw c.in_ok-flush.ensures.empty c.in_ok-flush.ensures.ok) c.in_ok-flush.ensures.grows in
          reading-beat g.T.Task.Keeps (at_of kind) h header text has.going (around start) _ _ _ _ _ _ kept _ (tells-of kind header _ _ _ _ _ _ (c.pass.ensures.front ∙ c.loop-beats.invariant.front ∙ has.read) c.next.ensures.answers c.next.ensures.levels) (asks-of kind header _ _ _ (c.pass.ensures.front ∙ c.loop-beats.invariant.front ∙ has.read) c.next.ensures.asks c.next.ensures.asks_levels) c.in_ok-flush.ensures.empty c.in-Ok-Beat.beat _ _ _ is c.in_ok-take-in-Ok-Beat.ensures.ok c.in_ok-take-in-Ok-Beat.ensures.grows;
      front = c.next.ensures.front ∙ c.pass.ensures.front ∙ c.loop-beats.invariant.front;
      ready = c.in_ok-take-in-Ok-Beat.ensures.ready;
      room =
          let nearer : octets_ahead c.next.new.self.reader < octets_ahead c.pass.new.self.reader = subst (IsNearerEnd c.pass.new.self c.next.new.self) is c.next.ensures.nearer in
          let passed = ap length c.held.ensures.octets in
          omega (arith, c.in_ok-take-in-Ok-Beat.ensures.taken, c.in_ok-take_all.ensures.taken, nearer, passed, c.pass.ensures.nearer, c.loop-beats.invariant.room);
      reads = omega (arith, c.next.ensures.later, c.loop-beats.invariant.reads);
      writes = omega (arith, c.take_all.ensures.cause.later, c.flush.ensures.cause.later, c.take.ensures.cause.later, c.loop-beats.invariant.writes);
    }

pub returns-in_err-take-in-Ok-Beat : goal.returns-in_err-take-in-Ok-Beat
returns-in_err-take-in-Ok-Beat g c =
    let exit = err_from_is_err_and c.from_residual-in_err-take-in-Ok-Beat.result c.from_residual-in_err-take-in-Ok-Beat.ensures.1 in
    let is : c.next.result ≡ Ok (Beat c.in-Ok-Beat.beat) = c.in-Ok-Beat.is ∙ ap (λ b. Ok b) c.in-Ok-Beat.field-0-is in
    let around : Option (List ℕ) → Seen = λ start. since start (seen g.R.Source.told g.R.Source.ended g.R.Source.faults g.W.Sink.held g.W.Sink.faults c.args.source.now c.next.new.source c.args.sink.now c.take.new.sink) in
    let later : g.W.Sink.faults c.args.sink.now ≤ g.W.Sink.faults c.flush.new.sink = omega (arith, c.loop-beats.invariant.writes, c.take_all.ensures.cause.later, c.flush.ensures.cause.later) in
    rw exit.1 (λ kind h header text start has put.
    let all = reading-all g.T.Task.Keeps (at_of kind) h header text has.going _ _ _ _ _ _ start _ _ _ _ _ (c.loop-beats.invariant.reading kind h header text start has put) c.held.ensures.octets (passes-of kind header _ _ (c.loop-beats.invariant.front ∙ has.read) c.pass.ensures.passes c.pass.ensures.levels) c.in_ok-take_all.ensures.ok c.in_ok-take_all.ensures.grows in
    let kept = reading-kept g.T.Task.Keeps (at_of kind) h header text _ _ _ _ start _ (g.W.Sink.held c.flush.new.sink) _ c.flush.new.self all (rw c.in_ok-flush.ensures.empty c.in_ok-flush.ensures.ok) c.in_ok-flush.ensures.grows in
    beat-failed g.T.Task.Keeps (at_of kind) h header text has.going (around start) _ _ _ _ _ _ kept _ (tells-of kind header _ _ _ _ _ _ (c.pass.ensures.front ∙ c.loop-beats.invariant.front ∙ has.read) c.next.ensures.answers c.next.ensures.levels) (asks-of kind header _ _ _ (c.pass.ensures.front ∙ c.loop-beats.invariant.front ∙ has.read) c.next.ensures.asks c.next.ensures.asks_levels) c.in_ok-flush.ensures.empty c.in-Ok-Beat.beat is (rose-after _ _ _ later c.in_err-take-in-Ok-Beat.ensures.cause.failed) c.in_err-take-in-Ok-Beat.ensures.err c.in_err-take-in-Ok-Beat.ensures.grows)

pub returns-in_err-aligned-in-Ok-End : goal.returns-in_err-aligned-in-Ok-End
returns-in_err-aligned-in-Ok-End g c =
    let exit = err_from_is_err_and c.from_residual-in_err-aligned-in-Ok-End.result c.from_residual-in_err-aligned-in-Ok-End.ensures.1 in
    let is : c.next.result ≡ Ok (End c.in-Ok-End.rest) = c.in-Ok-End.is ∙ ap (λ b. Ok b) c.in-Ok-End.field-0-is in
    let around : Option (List ℕ) → Seen = λ start. since start (seen g.R.Source.told g.R.Source.ended g.R.Source.faults g.W.Sink.held g.W.Sink.faults c.args.source.now c.next.new.source c.args.sink.now c.finish.new.sink) in
    let later : g.W.Sink.faults c.args.sink.now ≤ g.W.Sink.faults c.flush.new.sink = omega (arith, c.loop-beats.invariant.writes, c.take_all.ensures.cause.later, c.flush.ensures.cause.later) in
    rw exit.1 (λ kind h header text start has put.
    let all = reading-all g.T.Task.Keeps (at_of kind) h header text has.going _ _ _ _ _ _ start _ _ _ _ _ (c.loop-beats.invariant.reading kind h header text start has put) c.held.ensures.octets (passes-of kind header _ _ (c.loop-beats.invariant.front ∙ has.read) c.pass.ensures.passes c.pass.ensures.levels) c.in_ok-take_all.ensures.ok c.in_ok-take_all.ensures.grows in
    let kept = reading-kept g.T.Task.Keeps (at_of kind) h header text _ _ _ _ start _ (g.W.Sink.held c.flush.new.sink) _ c.flush.new.self all (rw c.in_ok-flush.ensures.empty c.in_ok-flush.ensures.ok) c.in_ok-flush.ensures.grows in
    finish-failed g.T.Task.Keeps (at_of kind) h header text has.going (around start) _ _ _ _ _ _ kept _ (tells-of kind header _ _ _ _ _ _ (c.pass.ensures.front ∙ c.loop-beats.invariant.front ∙ has.read) c.next.ensures.answers c.next.ensures.levels) (asks-of kind header _ _ _ (c.pass.ensures.front ∙ c.loop-beats.invariant.front ∙ has.read) c.next.ensures.asks c.next.ensures.asks_levels) c.in_ok-flush.ensures.empty c.in-Ok-End.rest is (rose-after _ _ _ later c.in_err-aligned-in-Ok-End.ensures.cause.failed) c.in_err-aligned-in-Ok-End.ensures.err c.in_err-aligned-in-Ok-End.ensures.grows)

pub returns-in_err-flush-in-Ok-End : goal.returns-in_err-flush-in-Ok-End
returns-in_err-flush-in-Ok-End g c =
    let exit = err_from_is_err_and c.from_residual-in_err-flush-in-Ok-End.result c.from_residual-in_err-flush-in-Ok-End.ensures.1 in
    let is : c.next.result ≡ Ok (End c.in-Ok-End.rest) = c.in-Ok-End.is ∙ ap (λ b. Ok b) c.in-Ok-End.field-0-is in
    let around : Option (List ℕ) → Seen = λ start. since start (seen g.R.Source.told g.R.Source.ended g.R.Source.faults g.W.Sink.held g.W.Sink.faults c.args.source.now c.next.new.source c.args.sink.now c.flush-in-Ok-End.new.sink) in
    let later : g.W.Sink.faults c.args.sink.now ≤ g.W.Sink.faults c.finish.new.sink = omega (arith, c.loop-beats.invariant.writes, c.take_all.ensures.cause.later, c.flush.ensures.cause.later, c.finish.ensures.cause.later) in
    rw exit.1 (λ kind h header text start has put.
    let all = reading-all g.T.Task.Keeps (at_of kind) h header text has.going _ _ _ _ _ _ start _ _ _ _ _ (c.loop-beats.invariant.reading kind h header text start has put) c.held.ensures.octets (passes-of kind header _ _ (c.loop-beats.invariant.front ∙ has.read) c.pass.ensures.passes c.pass.ensures.levels) c.in_ok-take_all.ensures.ok c.in_ok-take_all.ensures.grows in
    let kept = reading-kept g.T.Task.Keeps (at_of kind) h header text _ _ _ _ start _ (g.W.Sink.held c.flush.new.sink) _ c.flush.new.self all (rw c.in_ok-flush.ensures.empty c.in_ok-flush.ensures.ok) c.in_ok-flush.ensures.grows in
    end-failed g.T.Task.Keeps (at_of kind) h header text has.going (around start) _ _ _ _ _ _ kept _ (tells-of kind header _ _ _ _ _ _ (c.pass.ensures.front ∙ c.loop-beats.invariant.front ∙ has.read) c.next.ensures.answers c.next.ensures.levels) (asks-of kind header _ _ _ (c.pass.ensures.front ∙ c.loop-beats.invariant.front ∙ has.read) c.next.ensures.asks c.next.ensures.asks_levels) c.in_ok-flush.ensures.empty c.in-Ok-End.rest _ _ _ is (rose-after _ _ _ later c.in_err-flush-in-Ok-End.ensures.cause.failed) c.in_ok-aligned-in-Ok-End.ensures.ok c.in_err-flush-in-Ok-End.ensures.err c.in_ok-aligned-in-Ok-End.ensures.grows c.in_err-flush-in-Ok-End.ensures.grows)

pub returns-in-Ok-End : goal.returns-in-Ok-End
returns-in-Ok-End g c =
    let is : c.next.result ≡ Ok (End c.in-Ok-End.rest) = c.in-Ok-End.is ∙ ap (λ b. Ok b) c.in-Ok-End.field-0-is in
    let around : Option (List ℕ) → Seen = λ start. since start (seen g.R.Source.told g.R.Source.ended g.R.Source.faults g.W.Sink.held g.W.Sink.faults c.args.source.now c.next.new.source c.args.sink.now c.flush-in-Ok-End.new.sink) in
    rw c.outcome_at_end.ensures (λ kind h header text start has put.
    let all = reading-all g.T.Task.Keeps (at_of kind) h header text has.going _ _ _ _ _ _ start _ _ _ _ _ (c.loop-beats.invariant.reading kind h header text start has put) c.held.ensures.octets (passes-of kind header _ _ (c.loop-beats.invariant.front ∙ has.read) c.pass.ensures.passes c.pass.ensures.levels) c.in_ok-take_all.ensures.ok c.in_ok-take_all.ensures.grows in
    let kept = reading-kept g.T.Task.Keeps (at_of kind) h header text _ _ _ _ start _ (g.W.Sink.held c.flush.new.sink) _ c.flush.new.self all (rw c.in_ok-flush.ensures.empty c.in_ok-flush.ensures.ok) c.in_ok-flush.ensures.grows in
    reading-end g.T.Task.Keeps (at_of kind) h header text has.going (around start) _ _ _ _ _ _ kept _ (tells-of kind header _ _ _ _ _ _ (c.pass.ensures.front ∙ c.loop-beats.invariant.front ∙ has.read) c.next.ensures.answers c.next.ensures.levels) (asks-of kind header _ _ _ (c.pass.ensures.front ∙ c.loop-beats.invariant.front ∙ has.read) c.next.ensures.asks c.next.ensures.asks_levels) c.in_ok-flush.ensures.empty c.in-Ok-End.rest _ _ _ is c.in_ok-aligned-in-Ok-End.ensures.ok c.in_ok-flush-in-Ok-End.ensures.ok)

pub returns-in_err-flush-in-Err : goal.returns-in_err-flush-in-Err
returns-in_err-flush-in-Err g c =
    let exit = err_from_is_err_and c.from_residual-in_err-flush-in-Err.result c.from_residual-in_err-flush-in-Err.ensures.1 in
    let around : Option (List ℕ) → Seen = λ start. since start (seen g.R.Source.told g.R.Source.ended g.R.Source.faults g.W.Sink.held g.W.Sink.faults c.args.source.now c.next.new.source c.args.sink.now c.flush-in-Err.new.sink) in
    let later : g.W.Sink.faults c.args.sink.now ≤ g.W.Sink.faults c.flush.new.sink = omega (arith, c.loop-beats.invariant.writes, c.take_all.ensures.cause.later, c.flush.ensures.cause.later) in
    rw exit.1 (λ kind h header text start has put.
    let all = reading-all g.T.Task.Keeps (at_of kind) h header text has.going _ _ _ _ _ _ start _ _ _ _ _ (c.loop-beats.invariant.reading kind h header text start has put) c.held.ensures.octets (passes-of kind header _ _ (c.loop-beats.invariant.front ∙ has.read) c.pass.ensures.passes c.pass.ensures.levels) c.in_ok-take_all.ensures.ok c.in_ok-take_all.ensures.grows in
    let kept = reading-kept g.T.Task.Keeps (at_of kind) h header text _ _ _ _ start _ (g.W.Sink.held c.flush.new.sink) _ c.flush.new.self all (rw c.in_ok-flush.ensures.empty c.in_ok-flush.ensures.ok) c.in_ok-flush.ensures.grows in
    fault-failed g.T.Task.Keeps (at_of kind) h header text has.going (around start) _ _ _ _ _ _ kept _ (tells-of kind header _ _ _ _ _ _ (c.pass.ensures.front ∙ c.loop-beats.invariant.front ∙ has.read) c.next.ensures.answers c.next.ensures.levels) (asks-of kind header _ _ _ (c.pass.ensures.front ∙ c.loop-beats.invariant.front ∙ has.read) c.next.ensures.asks c.next.ensures.asks_levels) c.in_ok-flush.ensures.empty c.in-Err.fault c.in-Err.is (rose-after _ _ _ later c.in_err-flush-in-Err.ensures.cause.failed) c.in_err-flush-in-Err.ensures.err c.in_err-flush-in-Err.ensures.grows)

pub returns-in-Err : goal.returns-in-Err
returns-in-Err g c =
    let around : Option (List ℕ) → Seen = λ start. since start (seen g.R.Source.told g.R.Source.ended g.R.Source.faults g.W.Sink.held g.W.Sink.faults c.args.source.now c.next.new.source c.args.sink.now c.flush-in-Err.new.sink) in
    rw c.from.ensures (λ kind h header text start has put.
    let all = reading-all g.T.Task.Keeps (at_of kind) h header text has.going _ _ _ _ _ _ start _ _ _ _ _ (c.loop-beats.invariant.reading kind h header text start has put) c.held.ensures.octets (passes-of kind header _ _ (c.loop-beats.invariant.front ∙ has.read) c.pass.ensures.passes c.pass.ensures.levels) c.in_ok-take_all.ensures.ok c.in_ok-take_all.ensures.grows in
    let kept = reading-kept g.T.Task.Keeps (at_of kind) h header text _ _ _ _ start _ (g.W.Sink.held c.flush.new.sink) _ c.flush.new.self all (rw c.in_ok-flush.ensures.empty c.in_ok-flush.ensures.ok) c.in_ok-flush.ensures.grows in
    reading-fault g.T.Task.Keeps (at_of kind) h header text has.going (around start) _ _ _ _ _ _ kept _ (tells-of kind header _ _ _ _ _ _ (c.pass.ensures.front ∙ c.loop-beats.invariant.front ∙ has.read) c.next.ensures.answers c.next.ensures.levels) (asks-of kind header _ _ _ (c.pass.ensures.front ∙ c.loop-beats.invariant.front ∙ has.read) c.next.ensures.asks c.next.ensures.asks_levels) c.in_ok-flush.ensures.empty c.in-Err.fault c.in-Err.is
    (λ read. read-rose _ _ _ _ _ kept.stands has.going (subst (λ f. IsSome (header_read f)) (sym (c.pass.ensures.front ∙ c.loop-beats.invariant.front)) c.requires.header) c.loop-beats.invariant.reads (c.in-Err.ensures.read (ap (λ f. Err f) read)))
    c.in_ok-flush-in-Err.ensures.ok)
