use Rattle.std.proofs.Common.{◌≡◌, ◌∙◌, ◌∷◌, [], sym, ap, ap₂, arith, length, drop, length-append}
use Rattle.std.specs.Prelude.{◌&&◌}
use Rattle.std.proofs.lemmas.List.{drop-drop}
use Rattle.trial_laws.specs.Trial.{made_frames}
use Rattle.trial_laws.specs.Counting.{are_front, given_frames, is_next}
use Rattle.pcs_receive.specs.Events.{frame}
use Rattle.trial_laws.proofs.Comparing.{more-corrected, more-given, one-frame}
use Rattle.trial_laws.proofs.counts.Counts.frame.Goals as goal
use Rattle.trial_laws.proofs.counts.Counts.frame.Goals.{then-self, else-self}

pub returns-clause-counts : goal.returns-clause-counts
returns-clause-counts c = λ seed count es k.
    let f = c.args.given.now in
    let made = made_frames seed count in
    let back = given_frames es in
    let n = c.is_next-same.ensures in
    let more = more-given es f in
    let size = length-append back (f ∷ []) in
    let both : c.if-self.self ≡ (c.is_next-same.new.self.equal && c.is_next-same.result) = elim c.if-self.branch [
      | then-self w ↦ w.self-is ∙ ap (λ b. b && c.is_next-same.result) (sym w.if-self.true)
      | else-self w ↦ w.self-is ∙ w.if-self.false ∙ ap (λ b. b && c.is_next-same.result) (sym w.if-self.false)
    ] in
    record {
      corrected = omega (arith, n.same.0, k.corrected, more-corrected es (frame f));
      back = omega (arith, n.same.1, k.back, ap length more, size);
      equal = both ∙ ap₂ (λ a b. a && b) (n.same.2 ∙ k.equal) (n.answer ∙ ap (is_next f) k.rest) ∙ sym (one-frame back made f)
          ∙ ap (λ t. are_front t made) (sym more);
      rest = n.rest ∙ ap (drop 1) k.rest ∙ drop-drop 1 (length back) made ∙ ap (λ m. drop m made) (sym (ap length more ∙ size));
    }
