use Rattle.std.proofs.Common.{◌∙◌, sym, ap}
use Rattle.std.specs.Prelude.{◌&&◌, nat_eq}
use Rattle.trial_laws.proofs.Comparing.{equal-is}
use Rattle.trial_laws.proofs.counts.Counts.equal.Goals as goal

pub returns-then-self : goal.returns-then-self
returns-then-self c = λ seed count es k.
    sym (equal-is seed count c.args.self.now es k ∙ ap (λ b. b && nat_eq c.args.self.now.left 0) c.if-self.true)

pub returns-else-self : goal.returns-else-self
returns-else-self c = λ seed count es k.
    c.if-self.false ∙ sym (equal-is seed count c.args.self.now es k ∙ ap (λ b. b && nat_eq c.args.self.now.left 0) c.if-self.false)
