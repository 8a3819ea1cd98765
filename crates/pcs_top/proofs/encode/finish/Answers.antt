use Rattle.std.proofs.Common.{◌*◌, refl, reverse}
use Rattle.std.proofs.lemmas.Result.{err_from_is_err_and, on_ok_weaker, on_err_weaker}
use Rattle.rate_match.specs.Kept.{debt}
use Rattle.pcs_top.specs.Sending.{filled_columns}
use Rattle.pcs_top.proofs.Framing.{ends-sent, ends-failed, fill-failed, end-is, all-whole}
use Rattle.pcs_drive.proofs.WritingLemmas.{extended}
use Rattle.pcs_top.proofs.encode.finish.Goals as goal

pub returns-in_err-fill_last-clause-err : goal.returns-in_err-fill_last-clause-err
returns-in_err-fill_last-clause-err g c =
    let o = c.args.options.now in
    let exit = err_from_is_err_and c.from_residual.result c.from_residual.ensures.1 in
    rw exit.1 (λ cs start put.
    fill-failed o cs (filled_columns o cs) (o.tail * o.period) start _
    (end-is o cs (o.tail * o.period) c.requires.ranges.period_least refl (all-whole c.args.sender.now o cs start _ _ put))
    (c.in_err-fill_last.ensures.err o cs start put))

pub returns-clause-ok : goal.returns-clause-ok
returns-clause-ok g c =
    let o = c.args.options.now in
    on_ok_weaker c.put_idle_pairs.result
    (λ sent cs start put.
    let whole = all-whole c.args.sender.now o cs start _ _ put in
    ends-sent _ o cs _ _ start _ _ (end-is o cs _ c.requires.ranges.period_least refl whole)
    (sent o.form o.period (filled_columns o cs) (debt o.period (reverse cs)) start (c.in_ok-fill_last.ensures.ok o cs start put) whole))
    c.put_idle_pairs.ensures.ok

pub returns-clause-err : goal.returns-clause-err
returns-clause-err g c =
    let o = c.args.options.now in
    on_err_weaker c.put_idle_pairs.result
    (λ failed cs start put.
    let whole = all-whole c.args.sender.now o cs start _ _ put in
    ends-failed o cs _ start _ (end-is o cs _ c.requires.ranges.period_least refl whole)
    (failed o.form o.period (filled_columns o cs) (debt o.period (reverse cs)) start (c.in_ok-fill_last.ensures.ok o cs start put) whole))
    c.put_idle_pairs.ensures.err

pub returns-clause-grows : goal.returns-clause-grows
returns-clause-grows g c = extended _ _ _ _ c.in_ok-fill_last.ensures.grows c.put_idle_pairs.ensures.grows
