use Rattle.std.proofs.Common.{◌≡◌, true, length, take, Some, None, sym, ap, ◌∙◌, arith, length-take, eqb-true}
use Rattle.std.specs.Prelude.{◌==◌, if◌then◌else◌}
use Rattle.std.proofs.lemmas.List.{ext_get_or, get_or-take}
use Rattle.lane_lock.proofs.kept.first_octets.Goals as goal

pub returns : goal.returns
returns c =
    let items = c.args.kept.now.items in
    let inv = c.loop-i.invariant in
    let most = c.loop-i-test.false in
    let full : (length items == c.args.kept.now.capacity) ≡ true = sym c.is_full.ensures ∙ c.if-not-is_full.false in
    let same : length items ≡ c.args.kept.now.capacity = eqb-true (length items) c.args.kept.now.capacity full in
    let size : length (take 16 items) ≡ 16 = length-take 16 items ∙ omega (arith, same, c.requires) in
    ap Some (ext_get_or 0 c.loop-i.octets (take 16 items) (inv.size ∙ sym size)
    (λ k low. inv.done k (omega (arith, low, inv.size, most)) ∙ sym (get_or-take 16 items k 0 (omega (arith, low, inv.size)))))
    ∙ sym (ap (λ b. if b then Some (take 16 items) else None) full)
