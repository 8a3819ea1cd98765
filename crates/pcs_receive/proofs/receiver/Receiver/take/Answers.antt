use Rattle.std.proofs.Common.{refl, sym, subst}
use Rattle.lane_deskew.specs.declared.Turn.TheVariants.{Waiting}
use Rattle.pcs_receive.specs.contracts.receiver.Receiver.{the_view}
use Rattle.pcs_receive.specs.Hearings.{with_beat}
use Rattle.pcs_receive.specs.State.{State, IsDrained, Stands}
use Rattle.pcs_receive.proofs.Taking.{take-simple, turned}
use Rattle.pcs_receive.proofs.receiver.Receiver.take.Goals as goal

pub returns-then-wait-clause-stands : goal.returns-then-wait-clause-stands
returns-then-wait-clause-stands c = λ h x.
    let s : State = the_view c.self.inside in
    let drained = subst IsDrained (sym c.self.view_is) c.requires.drained in
    subst (λ l. Stands (turned s c.wait.new.self l) (with_beat h c.args.beat)) (sym drained.no_lead)
    (take-simple s h c.args.beat c.wait.new.self Waiting (subst (λ s. Stands s h) (sym c.self.view_is) x) drained refl
    (λ hunt on. sym (c.wait.ensures.turn hunt on c.if-wait.true)) (λ hunt on. c.wait.ensures.stands hunt on c.if-wait.true))

pub returns-clause-stands : goal.returns-clause-stands
returns-clause-stands c = λ h x.
    let s : State = the_view c.self.inside in
    c.take_turn.ensures.stands h
    (subst (λ a. Stands (record s { aligner = a }) h) (sym (c.wait.ensures.none c.if-wait.false)) (subst (λ s. Stands s h) (sym c.self.view_is) x))
