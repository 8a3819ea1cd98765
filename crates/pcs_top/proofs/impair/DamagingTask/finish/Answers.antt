use Rattle.std.proofs.Common.{[], sym, ap}
use Rattle.std.proofs.lemmas.Result.{err_from_is_err_and}
use Rattle.pcs_drive.specs.CaptureCommand.{BeatsText}
use Rattle.pcs_top.specs.Impairing.{header_octets_of}
use Rattle.pcs_top.proofs.GivingBeats.{ended, ends, all-given, breaks-all}
use Rattle.pcs_top.proofs.impair.DamagingTask.finish.Goals as goal

pub returns-clause-ok : goal.returns-clause-ok
returns-clause-ok g c = λ text beats start p.
    let k = p.keeps in
    let done = ends text k.header beats start _ _ _ k p.wrote _ c.finish.ensures.stands in
    let (given, now, last) = c.in_ok-put_next.ensures.ok (ended k.items beats k.given) (header_octets_of k.header) start done in
    (ap (λ (t : BeatsText). t.is_aligned beats) (sym k.is), all-given text k.header beats start _ _ k.items k.each k.is given now.come last now.wrote)

pub returns-in_err-put_next-clause-err : goal.returns-in_err-put_next-clause-err
returns-in_err-put_next-clause-err g c =
    let exit = err_from_is_err_and c.from_residual.result c.from_residual.ensures.1 in
    rw exit.1 (λ text beats start p.
    let k = p.keeps in
    let done = ends text k.header beats start _ _ _ k p.wrote _ c.finish.ensures.stands in
    let (given, come, front) = c.in_err-put_next.ensures.err (ended k.items beats k.given) (header_octets_of k.header) start done in
    breaks-all text k.header beats start _ [] k.items k.each k.is given come front)
