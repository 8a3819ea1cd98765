use Rattle.std.proofs.Common.{◌≡◌, ◌+◌, ◌∙◌, length, get_or, sym, ap, ap₂, arith}
use Rattle.std.specs.Prelude.{bit_or, if◌then◌else◌}
use Rattle.std.proofs.lemmas.List.{get_or_past}
use Rattle.lane_impair.specs.Holding.{Held, is_at, with_row}
use Rattle.lane_impair.specs.contracts.lane_rows.LaneRows.{the_view}
use Rattle.lane_impair.proofs.GrowthFacts.{group_grows}
use Rattle.lane_impair.proofs.lane_rows.LaneRows.put_group.Goals as goal

pub returns-clause-grows : goal.returns-clause-grows
returns-clause-grows c =
    let s = c.args.self.now in
    let octets = c.args.octets.now in
    let number = c.args.number in
    let lengths = c.longer-self-inside.result in
    let before : the_view c.self-2.inside ≡ record s { rows = with_row s number c.joined-row.result } = c.self-2.view_is ∙ c.set_row.ensures in
    group_grows s _ octets c.joined-row.result number
    (λ l low. c.fits-octets l)
    (λ from there l low. c.joined-row.ensures.octets l low
    ∙ ap₂ (λ ls row. if is_at ls number l then bit_or (get_or row l 0) (get_or octets l 0) else get_or row l 0)
    (ap (λ r. r.lengths) c.self.view_is) (c.row.ensures from there))
    (ap (λ (r : Held). record r { lengths = lengths }) before)
    (λ l low. c.longer-self-inside.ensures.lengths l low
    ∙ ap (λ (r : Held). if is_at r.lengths number l then get_or r.lengths l 0 + 8 else get_or r.lengths l 0) before)
    (λ l high. get_or_past lengths l 0 (omega (arith, c.longer-self-inside.ensures.size))
    ∙ sym (get_or_past s.lengths l 0 (omega (arith, ap (λ r. length r.lengths) c.self.view_is, c.self.invariant.lanes))))
