use Rattle.std.proofs.Common.{◌≡◌, true, [], length, take, Some, None, sym, ap, ◌∙◌, arith, length-take, eqb-true}
use Rattle.std.specs.Prelude.{◌==◌, if◌then◌else◌, slice_index}
use Rattle.std.proofs.lemmas.List.{ext_get_or, get_or-take, get_or-map, length-map}
use Rattle.lane_deskew.specs.Lanes.{column}
use Rattle.lane_deskew.proofs.each_lane.first_of.Goals as goal

pub returns : goal.returns
returns c =
    let items = c.args.kept.now.items in
    let lane = c.args.lane in
    let inv = c.loop-i.invariant in
    let most = c.loop-i-test.false in
    let full : (length items == c.args.kept.now.capacity) ≡ true = sym c.is_full.ensures ∙ c.if-not-is_full.false in
    let same : length items ≡ c.args.kept.now.capacity = eqb-true (length items) c.args.kept.now.capacity full in
    let sixteen : length (take 16 items) ≡ 16 = length-take 16 items ∙ omega (arith, same, c.requires.0) in
    let size : length (column lane (take 16 items)) ≡ 16 = length-map (take 16 items) (λ beat. slice_index beat lane) ∙ sixteen in
    ap Some (ext_get_or 0 c.loop-i.octets (column lane (take 16 items)) (inv.size ∙ sym size)
    (λ k low. inv.done k (omega (arith, low, inv.size, most))
    ∙ sym (get_or-map (λ beat. slice_index beat lane) (take 16 items) k [] 0 (omega (arith, low, inv.size, sixteen))
    ∙ ap (λ beat. slice_index beat lane) (get_or-take 16 items k [] (omega (arith, low, inv.size))))))
    ∙ sym (ap (λ b. if b then Some (column lane (take 16 items)) else None) full)
