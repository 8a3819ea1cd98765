use Rattle.std.proofs.Common.{◌≤◌, ◌+◌, [], ◌∷◌, ◌++◌, ap, sym, ◌∙◌, subst, arith}
use Rattle.circular_buffer.specs.Buffer.{keep_last}
use Rattle.pcs_bits.specs.Captures.{longer}
use Rattle.lane_deskew.specs.Lanes.{Lanes, LanesStand}
use Rattle.lane_deskew.proofs.LaneColumns.{stands-longer, found-longer, found-quietly}
use Rattle.lane_deskew.proofs.lanes.LaneLocks.take.Goals as goal

pub returns-then-is_quiet-clause-stands : goal.returns-then-is_quiet-clause-stands
returns-then-is_quiet-clause-stands c = λ c' from stands.
    let s = subst (λ v. LanesStand v c' from) (sym c.self.view_is) stands in
    let positive = c.self.invariant.0 in
    let some : 1 ≤ c'.period = omega (arith, positive, s.period) in
    let kept : Lanes → Lanes = λ v. record v { kept = keep_last v.room (v.kept ++ c.args.beat.now ∷ []); recent = keep_last 15 (v.recent ++ c.args.beat.now ∷ []); fed = v.fed + 1 } in
    subst (λ v. LanesStand v (longer c' (c.args.beat.now ∷ [])) from) (ap kept c.self.view_is ∙ sym c.keep.ensures)
    (stands-longer _ c' from c.args.beat.now c.self.inside.founds s
    (λ l low. found-quietly _ c' from l c.args.beat.now low some s (λ k least most. c.is_quiet.ensures c.if-is_quiet.true k least most l low)))

pub returns-clause-stands : goal.returns-clause-stands
returns-clause-stands c = λ c' from stands.
    let s = subst (λ v. LanesStand v c' from) (sym c.self.view_is) stands in
    let positive = c.self.invariant.0 in
    let some : 1 ≤ c'.period = omega (arith, positive, s.period) in
    subst (λ v. LanesStand v (longer c' (c.args.beat.now ∷ [])) from) (sym c.keep-2.ensures)
    (stands-longer _ c' from c.args.beat.now c.look_at.new.founds s
    (λ l low. c.look_at.ensures.founds l low ∙ found-longer _ c' from l c.args.beat.now low some s))
