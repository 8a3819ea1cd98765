use Rattle.std.proofs.Common.{refl}
use Rattle.pcs_watch.specs.Watching.{seen as watched}
use Rattle.pcs_top.specs.Reporting.{seen_all}
use Rattle.pcs_top.proofs.ReportText.{ends-report, breaks-after-events}
use Rattle.std.proofs.lemmas.Result.{on_ok_weaker, on_err_weaker}
use Rattle.pcs_top.proofs.report.ReportLinesTeller.finish.Goals as goal

pub returns-clause-ok : goal.returns-clause-ok
returns-clause-ok g c =
    on_ok_weaker c.put_tallies.result (λ puts. ends-report (λ t. seen_all t.watchers.items (λ w. let m = goal.Watcher-dyn g (w.vtable, w.value) in watched m.label m.tally m.after m.leaves w.value))
    c.args.self.now _ _ _ _ _ (rw c.deref.ensures.value refl) puts) c.put_tallies.ensures.ok

pub returns-clause-err : goal.returns-clause-err
returns-clause-err g c =
    on_err_weaker c.put_tallies.result (λ breaks. breaks-after-events (λ t. seen_all t.watchers.items (λ w. let m = goal.Watcher-dyn g (w.vtable, w.value) in watched m.label m.tally m.after m.leaves w.value))
    c.args.self.now _ _ _ _ (rw c.deref.ensures.value refl) breaks) c.put_tallies.ensures.err
