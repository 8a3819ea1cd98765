use Rattle.std.proofs.Common.{[], ◌∷◌, ◌++◌, ap, arith}
use Rattle.std.proofs.lemmas.Result.{on_ok_weaker, on_err_weaker}
use Rattle.pcs_drive.specs.CaptureCommand.{BeatsText}
use Rattle.pcs_top.proofs.Telling.{telling-start, telling-all, telling-wrote}
use Rattle.pcs_top.proofs.listening.ListeningTask.take.Goals as goal

pub returns-then-is_drained-clause-ok : goal.returns-then-is_drained-clause-ok
returns-then-is_drained-clause-ok g c = λ text beats start put.
    let t = telling-start g.T.Teller.Keeps _ _ c.args.beat _ _ text beats start _ _ (text.so_far beats) put.keeps
    (ap (λ (t : BeatsText). t.so_far beats) put.keeps.is) put.wrote c.take.ensures.stands in
    let answer = c.is_drained.ensures.none c.if-is_drained.true in
    record {
      keeps = telling-all g.T.Teller.Keeps _ _ _ _ text (beats ++ c.args.beat ∷ []) start _ _ t answer (λ h stands. stands);
      grows = put.grows;
      wrote = telling-wrote g.T.Teller.Keeps _ _ _ text (beats ++ c.args.beat ∷ []) start _ _ t answer;
    }

pub tell_events-requires-clause-ready : goal.tell_events-requires-clause-ready
tell_events-requires-clause-ready g c = omega (arith, c.requires.ready.1, c.has_few_left.ensures, c.take.ensures.beats)

pub returns-clause-ok : goal.returns-clause-ok
returns-clause-ok g c = on_ok_weaker c.tell_events.result (λ tells text beats start put.
    let t = telling-start g.T.Teller.Keeps _ _ c.args.beat _ _ text beats start _ _ (text.so_far beats) put.keeps
    (ap (λ (t : BeatsText). t.so_far beats) put.keeps.is) put.wrote c.take.ensures.stands in
    let told = tells text (beats ++ c.args.beat ∷ []) start t in
    record { keeps = told.0; grows = put.grows; wrote = told.1 }) c.tell_events.ensures.ok

pub returns-clause-err : goal.returns-clause-err
returns-clause-err g c = on_err_weaker c.tell_events.result (λ breaks text beats start put.
    breaks text (beats ++ c.args.beat ∷ []) start (telling-start g.T.Teller.Keeps _ _ c.args.beat _ _ text beats start _ _ (text.so_far beats) put.keeps
    (ap (λ (t : BeatsText). t.so_far beats) put.keeps.is) put.wrote c.take.ensures.stands)) c.tell_events.ensures.err
