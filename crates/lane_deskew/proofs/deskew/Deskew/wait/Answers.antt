use Rattle.std.proofs.Common.{List, ℕ, sym, ap, ◌∙◌, subst}
use Rattle.circular_buffer.specs.Buffer.{Buffer}
use Rattle.lane_deskew.specs.State.{Stands, beats_kept}
use Rattle.lane_deskew.proofs.Steps.{waits, pushed, any-room}
use Rattle.lane_deskew.proofs.deskew.Deskew.wait.Goals as goal

pub returns-clause-turn : goal.returns-clause-turn
returns-clause-turn c = λ h stands _.
    let s = subst (λ a. Stands a h) (sym c.self.view_is) stands in
    let kept = pushed (beats_kept h.skew) c.self.inside.kept.capacity c.self.inside.kept.items c.push_back.new.self.items h.heard.beats c.args.beat
    (ap (λ (b : Buffer (List ℕ)). b.items) c.push_back.ensures.items) (c.self.invariant.7 ∙ ap beats_kept s.skew) s.kept in
    sym (waits _ h c.in-Some.field-0 c.args.beat c.push_back.new.self.items s (sym s.order ∙ c.in-Some.is) c.if-self.false kept).0

pub returns-clause-stands : goal.returns-clause-stands
returns-clause-stands c = λ h stands _.
    let s = subst (λ a. Stands a h) (sym c.self.view_is) stands in
    let kept = pushed (beats_kept h.skew) c.self.inside.kept.capacity c.self.inside.kept.items c.push_back.new.self.items h.heard.beats c.args.beat
    (ap (λ (b : Buffer (List ℕ)). b.items) c.push_back.ensures.items) (c.self.invariant.7 ∙ ap beats_kept s.skew) s.kept in
    any-room _ _ c.push_back.new.self.capacity ((waits _ h c.in-Some.field-0 c.args.beat c.push_back.new.self.items s (sym s.order
    ∙ c.in-Some.is) c.if-self.false kept).1)
