use Rattle.std.proofs.Common.{[], ◌∷◌, ◌++◌}
use Rattle.std.proofs.lemmas.Result.{on_ok_weaker, on_err_weaker}
use Rattle.pcs_top.specs.Impairing.{header_octets_of}
use Rattle.pcs_top.proofs.GivingBeats.{calls, takes-one, all-ready, breaks-ready}
use Rattle.pcs_top.proofs.impair.DamagingTask.take.Goals as goal

pub returns-clause-ok : goal.returns-clause-ok
returns-clause-ok g c =
    on_ok_weaker c.put_next.result (λ gives text beats start p.
    let k = p.keeps in
    let more = beats ++ c.args.beat ∷ [] in
    let one = takes-one text k.header beats start _ _ _ k p.wrote _ c.args.beat c.take.ensures.stands in
    let (given, now, last) = gives (calls k.items more k.given) (header_octets_of k.header) start one in
    let (keeps, wrote) = all-ready text k.header more start _ _ k.items _ given k.each k.is now last in
    record { keeps = keeps; grows = p.grows; wrote = wrote }) c.put_next.ensures.ok

pub returns-clause-err : goal.returns-clause-err
returns-clause-err g c =
    on_err_weaker c.put_next.result (λ breaks text beats start p.
    let k = p.keeps in
    let more = beats ++ c.args.beat ∷ [] in
    let one = takes-one text k.header beats start _ _ _ k p.wrote _ c.args.beat c.take.ensures.stands in
    let (given, come, front) = breaks (calls k.items more k.given) (header_octets_of k.header) start one in
    breaks-ready text k.header more start _ [] k.items given k.each k.is come front) c.put_next.ensures.err
