use Rattle.std.proofs.Common.{Some}
use Rattle.std.proofs.lemmas.Result.{on_ok_weaker, on_err_weaker}
use Rattle.pcs_late.specs.declared.demultiplexer.Demuxing.{Demuxing}
use Rattle.pcs_late.proofs.Demuxed.{takes, breaks}
use Rattle.pcs_late.proofs.demultiplexer.DemuxingTask.take.Goals as goal

pub returns-in-Some-clause-ok : goal.returns-in-Some-clause-ok
returns-in-Some-clause-ok g c =
    on_ok_weaker c.put.result (λ puts text beats start p. takes (λ (x : Demuxing). x.demux) _ _ c.args.beat (Some c.in-Some.given) _ _ _ _
    (record { none = c.in-Some.ensures.none; gives = c.in-Some.ensures.gives; stands = c.in-Some.ensures.stands; is = c.in-Some.ensures.beat }) puts text beats start p) c.put.ensures.ok

pub returns-in-Some-clause-err : goal.returns-in-Some-clause-err
returns-in-Some-clause-err g c =
    on_err_weaker c.put.result (λ broke text beats start p. breaks (λ (x : Demuxing). x.demux) _ _ c.args.beat (Some c.in-Some.given) _ _ _
    (record { none = c.in-Some.ensures.none; gives = c.in-Some.ensures.gives; stands = c.in-Some.ensures.stands; is = c.in-Some.ensures.beat }) broke text beats start p) c.put.ensures.err
