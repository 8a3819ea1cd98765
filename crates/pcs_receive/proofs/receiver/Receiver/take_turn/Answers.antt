use Rattle.std.proofs.Common.{refl, sym, ◌∙◌, subst}
use Rattle.lane_deskew.specs.declared.Turn.TheVariants.{Failed, Aligned}
use Rattle.pcs_receive.specs.contracts.receiver.Receiver.{the_view}
use Rattle.pcs_receive.specs.Hearings.{with_beat}
use Rattle.pcs_receive.specs.State.{State, IsDrained, Stands}
use Rattle.pcs_receive.proofs.Taking.{take-simple, turned, quiet_turn}
use Rattle.pcs_receive.proofs.TakingPairs.{take-pair}
use Rattle.pcs_receive.proofs.receiver.Receiver.take_turn.Goals as goal

pub returns-in-Hunting-clause-stands : goal.returns-in-Hunting-clause-stands
returns-in-Hunting-clause-stands c = λ h x.
    let s : State = the_view c.self.inside in
    let drained = subst IsDrained (sym c.self.view_is) c.requires.drained in
    let turn = quiet_turn c.take.result c.in-Hunting.is in
    subst (λ l. Stands (turned s c.take.new.self l) (with_beat h c.args.beat)) (turn.1 ∙ sym drained.no_lead)
    (take-simple s h c.args.beat c.take.new.self c.take.result (subst (λ s. Stands s h) (sym c.self.view_is) x) drained turn.0
    c.take.ensures.turn c.take.ensures.stands)

pub returns-in-Failed-clause-stands : goal.returns-in-Failed-clause-stands
returns-in-Failed-clause-stands c = λ h x.
    let s : State = the_view c.self.inside in
    take-simple s h c.args.beat c.take.new.self (Failed c.in-Failed.fault) (subst (λ s. Stands s h) (sym c.self.view_is) x)
    (subst IsDrained (sym c.self.view_is) c.requires.drained) refl
    (λ hunt on. sym c.in-Failed.is ∙ c.take.ensures.turn hunt on) c.take.ensures.stands

pub returns-in-Aligned-clause-stands : goal.returns-in-Aligned-clause-stands
returns-in-Aligned-clause-stands c = λ h x.
    let s : State = the_view c.self.inside in
    take-simple s h c.args.beat c.take.new.self (Aligned c.in-Aligned.order) (subst (λ s. Stands s h) (sym c.self.view_is) x)
    (subst IsDrained (sym c.self.view_is) c.requires.drained) refl
    (λ hunt on. sym c.in-Aligned.is ∙ c.take.ensures.turn hunt on) c.take.ensures.stands

pub returns-in-Pair-clause-stands : goal.returns-in-Pair-clause-stands
returns-in-Pair-clause-stands c = λ h x.
    let s : State = the_view c.self.inside in
    take-pair s h c.args.beat c.take.new.self s.lead c.take_pair.new.self (subst (λ s. Stands s h) (sym c.self.view_is) x)
    (subst IsDrained (sym c.self.view_is) c.requires.drained)
    (λ hunt on. sym c.in-Pair.is ∙ c.take.ensures.turn hunt on) c.take.ensures.stands c.take_pair.ensures.takes
