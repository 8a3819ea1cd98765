use Rattle.std.proofs.lemmas.Result.{on_ok_weaker, on_err_weaker}
use Rattle.pcs_late.specs.declared.multiplexer.Muxing.{Muxing}
use Rattle.pcs_late.proofs.Muxed.{takes, breaks}
use Rattle.pcs_late.proofs.multiplexer.MuxingTask.take.Goals as goal

pub returns-clause-ok : goal.returns-clause-ok
returns-clause-ok g c =
    on_ok_weaker c.put.result (λ puts text beats start p. takes (λ (x : Muxing). x.mux) _ _ c.args.beat _ _ _ _ _
    (record { is = c.beat-levels.ensures.beat; levels = c.beat-levels.ensures.levels; stands = c.beat-levels.ensures.stands }) puts text beats start p) c.put.ensures.ok

pub returns-clause-err : goal.returns-clause-err
returns-clause-err g c =
    on_err_weaker c.put.result (λ broke text beats start p. breaks (λ (x : Muxing). x.mux) _ _ c.args.beat _ _ _ _
    (record { is = c.beat-levels.ensures.beat; levels = c.beat-levels.ensures.levels; stands = c.beat-levels.ensures.stands }) broke text beats start p) c.put.ensures.err
