use Rattle.std.proofs.Common.{ap, refl, ◌≡◌, ◌∙◌}
use Rattle.pcs_watch.proofs.Told.{told_each}
use Rattle.pcs_top.proofs.report.tell_all.Goals as goal

pub returns-clause-told : goal.returns-clause-told
returns-clause-told g c = told_each _ (λ s. s.0.now ≡ c.args.report.now) _ _ (λ s x b t y held h.
    let met = h.called.met in
    let all = rw (h.shows, h.leaves, held) at met.1 in
    (ap (λ r. r.now) met.0 ∙ held, all.0, all.1)) _ _ _ refl c.retain_mut.ensures.filtered
