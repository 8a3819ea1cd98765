use Rattle.std.proofs.Common.{ℕ, ◌≤◌, Option, Some, None, subst, arith, length-drop}
use Rattle.pcs_receive.specs.declared.receiver.Lead.{Lead}
use Rattle.pcs_receive.specs.declared.receiver.Lead.TheVariants as lead
use Rattle.pcs_receive.specs.State.{State, left_count, lead_count, loss_count}
use Rattle.pcs_receive.proofs.receiver.Receiver.has_few_left.Goals as goal

few-leads : (l : Lead) → lead_count l ≤ 2
unfolding lead_count
few-leads lead.Nothing = omega arith
few-leads (lead.Failed fault) = omega arith
few-leads (lead.Aligned order) = omega arith
few-leads (lead.Report r) = omega arith
few-leads lead.Group = omega arith

few-losses : (lost : Option ℕ) → loss_count lost ≤ 1
unfolding loss_count
few-losses None = omega arith
few-losses (Some at) = omega arith

pub returns : goal.returns
returns c =
    let r = c.self.inside in
    subst (λ (s : State). left_count s ≤ 163) c.self.view_is
    (omega (arith, few-leads r.lead, few-losses r.lost, length-drop r.given r.columns.items, c.self.invariant))
