use Rattle.std.proofs.Common.{◌≡◌, ◌+◌, ◌/◌, [], ◌∷◌, length, take, ◌++◌, arith, subst, sym, ap, ◌∙◌, append-nil}
use Rattle.std.proofs.lemmas.Result.{err_from_is_err_and}
use Rattle.pcs_io.specs.Octets.{AppendsFront}
use Rattle.pcs_drive.specs.Tasks.{HasPut}
use Rattle.pcs_drive.proofs.WritingLemmas.{longer-none, longer-then}
use Rattle.pcs_drive.proofs.Beats.{one-more-beat, all-beats, fewer-beats}
use Rattle.pcs_drive.proofs.task.Task.take_all.Goals as goal

pub loop-i-init : goal.loop-i-init
loop-i-init g c = record {
  put = λ text beats more start are put.
      subst (λ bs. HasPut g.Self.Task.Keeps c.args.self.now text bs start (g.W.Sink.held c.args.sink.now) c.args.output.now) (sym (append-nil beats)) put;
  ready = c.requires.ready;
  taken = omega arith;
  writes = omega arith;
  grows = longer-none _;
}

pub loop-i-preserved : goal.loop-i-preserved
loop-i-preserved g c = record {
  put = λ text beats more start are put.
      let now = c.in_ok-take.ensures.ok text (beats ++ take c.loop-i.i more) start (c.loop-i.invariant.put text beats more start are put) in
      let next = ap (λ beat. (beats ++ take c.loop-i.i more) ++ beat ∷ []) (sym c.beat_of.ensures) in
      subst (λ bs. HasPut g.Self.Task.Keeps c.take.new.self text bs start (g.W.Sink.held c.take.new.sink) c.take.new.output)
      (sym (one-more-beat more beats c.args.octets.now c.loop-i.i are c.loop-i-test.true ∙ next)) now;
  ready = c.in_ok-take.ensures.ready;
  taken = omega (arith, c.in_ok-take.ensures.taken, c.loop-i.invariant.taken);
  writes = omega (arith, c.take.ensures.cause.later, c.loop-i.invariant.writes);
  grows = longer-then _ _ _ c.loop-i.invariant.grows c.in_ok-take.ensures.grows;
}

pub returns-clause-ok : goal.returns-clause-ok
returns-clause-ok g c = λ text beats more start are put.
    let count : c.loop-i.i ≡ length c.args.octets.now / 16 = omega (arith, c.loop-i-test.false, c.loop-i.auto.i-end) in
    subst (λ bs. HasPut g.Self.Task.Keeps c.loop-i.self text bs start (g.W.Sink.held c.loop-i.sink) c.loop-i.output)
    (all-beats more beats c.args.octets.now c.loop-i.i are count) (c.loop-i.invariant.put text beats more start are put)

pub returns-in_err-take-clause-err : goal.returns-in_err-take-clause-err
returns-in_err-take-clause-err g c =
    let exit = err_from_is_err_and c.from_residual.result c.from_residual.ensures.1 in
    rw exit.1 (λ text beats more start are put.
    let now = c.loop-i.invariant.put text beats more start are put in
    let front = c.in_err-take.ensures.err text (beats ++ take c.loop-i.i more) start now in
    let next = ap (λ beat. (beats ++ take c.loop-i.i more) ++ beat ∷ []) (sym c.beat_of.ensures) in
    fewer-beats text start (g.W.Sink.held c.take.new.sink) beats more (c.loop-i.i + 1) put.grows
    (subst (λ bs. AppendsFront start (g.W.Sink.held c.take.new.sink) (text.so_far bs))
    (sym (one-more-beat more beats c.args.octets.now c.loop-i.i are c.loop-i-test.true ∙ next)) front))
