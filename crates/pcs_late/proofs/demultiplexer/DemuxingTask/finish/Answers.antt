use Rattle.std.proofs.Common.{Some, None, [], refl}
use Rattle.std.proofs.lemmas.Result.{err_from_is_err_and}
use Rattle.pcs_drive.proofs.PuttingMore.{puts-none}
use Rattle.pcs_late.specs.declared.demultiplexer.Demuxing.{Demuxing}
use Rattle.pcs_late.proofs.Demuxed.{finished, breaks-ending}
use Rattle.pcs_late.proofs.demultiplexer.DemuxingTask.finish.Goals as goal

pub returns-in_ok-put-clause-ok : goal.returns-in_ok-put-clause-ok
returns-in_ok-put-clause-ok g c = λ text beats start p. finished (λ (x : Demuxing). x.demux) _ (Some c.in-Some.last) _ _ _ _
    (record { none = c.in-Some.ensures.none; gives = c.in-Some.ensures.gives; is = c.in-Some.ensures.beat }) c.in_ok-put.ensures.ok text beats start p

pub returns-in_err-put-clause-err : goal.returns-in_err-put-clause-err
returns-in_err-put-clause-err g c =
    let exit = err_from_is_err_and c.from_residual.result c.from_residual.ensures.1 in
    rw exit.1 (λ text beats start p. breaks-ending (λ (x : Demuxing). x.demux) _ (Some c.in-Some.last) _ _ _
    (record { none = c.in-Some.ensures.none; gives = c.in-Some.ensures.gives; is = c.in-Some.ensures.beat }) c.in_err-put.ensures.err text beats start p)

pub returns-in_default-clause-ok : goal.returns-in_default-clause-ok
returns-in_default-clause-ok g c = λ text beats start p. finished (λ (x : Demuxing). x.demux) _ None _ _ _ _
    (record { none = c.in_default.ensures.none; gives = c.in_default.ensures.gives; is = c.in_default.ensures.beat }) (puts-none _ _ [] refl) text beats start p
