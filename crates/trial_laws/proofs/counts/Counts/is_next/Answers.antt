use Rattle.std.proofs.Common.{◌≡◌, ◌∙◌, ◌-◌, suc, ◌<◌, sym, ap, refl, arith, drop, inl, inr}
use Rattle.std.specs.Prelude.{bytes_eq}
use Rattle.std.proofs.lemmas.Bool.{cases_lt}
use Rattle.trial_laws.specs.Trial.{made_frames}
use Rattle.trial_laws.specs.Counting.{is_next}
use Rattle.trial_laws.proofs.Comparing.{next-made, none-made}
use Rattle.trial_laws.proofs.counts.Counts.is_next.Goals as goal

pub returns-then-self-eq0 : goal.returns-then-self-eq0
returns-then-self-eq0 c =
    let state = c.args.self.now.made.state in
    let none = ap (made_frames state) c.if-self-eq0.true ∙ none-made state in
    record {
      answer = sym (ap (is_next c.args.given.now) none);
      rest = none ∙ sym (ap (drop 1) none);
      same = (refl, refl, refl);
    }

pub returns : goal.returns
returns c =
    let state = c.args.self.now.made.state in
    let left = c.args.self.now.left in
    let some : 0 < left = elim (cases_lt 0 left) [ inl low ↦ low | inr none ↦ absurd (c.if-self-eq0.false (omega (arith, none))) ] in
    let parts : left ≡ suc (left - 1) = omega (arith, some) in
    let made = ap (made_frames state) parts ∙ next-made state (left - 1) in
    record {
      answer = c.eq.ensures ∙ ap (bytes_eq c.args.given.now) (c.frame.ensures.octets ∙ c.make.ensures.frame) ∙ sym (ap (is_next c.args.given.now) made);
      rest = ap (λ s. made_frames s (left - 1)) c.make.ensures.state ∙ sym (ap (drop 1) made);
      same = (refl, refl, refl);
    }
