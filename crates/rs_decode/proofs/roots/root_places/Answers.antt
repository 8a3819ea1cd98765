use Rattle.std.proofs.Common.{◌≡◌, ◌≤◌, ℕ, List, ◌++◌, ◌∷◌, [], ◌+◌, ◌-◌, ◌*◌, length, take, true, sym, ap, ◌∙◌, subst, arith}
use Rattle.std.proofs.lemmas.Bool.{eq-eqb, false≢true}
use Rattle.std.proofs.lemmas.List.{length-append}
use Rattle.gf1024.specs.Symbol.{gf}
use Rattle.field_base.specs.Poly.{value}
use Rattle.rs_decode.specs.Repair.{place, back_power, is_root, roots_below}
use Rattle.rs_decode.proofs.Repair.{root_test}
use Rattle.rs_decode.proofs.Rows.{IsScaled, scaled_first, scaled_next, scaled_at_place}
use Rattle.rs_decode.proofs.Search.{roots_from, found_first, found_root, found_other, found_enough, found_past, found_last}
use Rattle.rs_decode.proofs.roots.root_places.Goals.{then-is_zero+then-place-count+then-len-lt16, else-is_zero, else-is_zero-via-then-is_zero+then-place-count+else-len-lt16, else-is_zero-via-then-is_zero+else-place-count, else-is_zero-via-else-is_zero}
use Rattle.rs_decode.proofs.roots.root_places.Goals as goal

pub loop-row-init : goal.loop-row-init
loop-row-init c = record {
  scaled = scaled_next 0 31 c.args.locator.now c.lanes_of.result c.inverse_powers_of.result c.mul-scaled.result c.requires.few
      c.inverse_powers_of.ensures c.mul-scaled.ensures
      (scaled_first c.args.locator.now c.lanes_of.result (omega arith) c.lanes_of.ensures);
  room = omega (arith, ap length c.new-places.ensures);
  found = found_first c.args.locator.now c.new-places.result.items c.args.count c.new-places.ensures;
}

pub loop-k-preserved : goal.loop-k-preserved
loop-k-preserved c =
    let locator = c.args.locator.now in
    let n = c.args.count in
    let k = c.loop-k.k in
    let i = 32 * c.loop-row.row + k in
    let inside = c.loop-row-test.true in
    let found = c.loop-k.places.items in
    let all = take 16 (roots_below n locator) in
    let h = c.loop-k.invariant in
    let P : List ℕ → ℕ → Type 0 = λ l m. take 16 (l ++ roots_from locator m (n - m)) ≡ all in
    let up : i + 1 ≡ 32 * c.loop-row.row + (k + 1) = omega arith in
    let root_value = c.lane.ensures ∙ c.values_in_row-values.ensures (31 - k) (omega arith)
    ∙ ap (λ m. value gf (take m c.loop-row.scaled) (place (31 - k))) c.len.ensures.value
    ∙ scaled_at_place (32 * c.loop-row.row + 31) i (31 - k) locator c.loop-row.scaled (omega arith) (omega arith) c.loop-row.invariant.scaled in
    elim c.if-is_zero.branch [
      | then-is_zero+then-place-count+then-len-lt16 w ↦
          let root : is_root locator i ≡ true = eq-eqb (value gf locator (back_power i)).value 0
          (ap (λ v. v.value) (sym root_value ∙ c.is_zero.ensures.0 w.if-is_zero.true)) in
          let items : c.if-is_zero.places.items ≡ found ++ i ∷ [] =
          ap (λ v. v.items) w.places-is ∙ w.push.ensures.items in
          record {
            room = omega (arith, ap length items, length-append found (i ∷ []), w.if-len-lt16.true, w.len-then-place-count.ensures);
            found = subst (P c.if-is_zero.places.items) up (subst (λ l. P l (i + 1)) (sym items)
                (found_root locator found all n i w.if-place-count.true root h.found));
          }
      | else-is_zero w ↦
          let items : c.if-is_zero.places.items ≡ found = ap (λ v. v.items) w.places-is in
          let few : length c.if-is_zero.places.items ≤ 16 = subst (λ l. length l ≤ 16) (sym items) h.room in
          let same : P found (i + 1) = elim w.else-is_zero.branch [
            | else-is_zero-via-then-is_zero+then-place-count+else-len-lt16 v ↦
                found_enough locator found all n i (omega (arith, v.if-len-lt16.false, v.len-then-place-count.ensures)) h.found
            | else-is_zero-via-then-is_zero+else-place-count v ↦
                found_past locator found all n i v.if-place-count.false h.found
            | else-is_zero-via-else-is_zero v ↦
                found_other locator found all n i
                (root_test (value gf locator (back_power i))
                (λ e. false≢true (sym v.if-is_zero.false ∙ c.is_zero.ensures.1 (root_value ∙ e)))) h.found
          ] in
          record {
            room = few;
            found = subst (P c.if-is_zero.places.items) up (subst (λ l. P l (i + 1)) (sym items) same);
          }
    ]

pub loop-row-preserved : goal.loop-row-preserved
loop-row-preserved c =
    let locator = c.args.locator.now in
    let found = c.loop-k.places.items in
    let n = c.args.count in
    let on : 32 * c.loop-row.row + c.loop-k.k ≡ 32 * (c.loop-row.row + 1) = omega (arith, c.loop-k-test.false) in
    let more : 32 * c.loop-row.row + 31 + 32 ≡ 32 * (c.loop-row.row + 1) + 31 = omega arith in
    record {
      scaled = subst (λ m. IsScaled m locator c.mul-scaled-in-loop-row.result) more
          (scaled_next (32 * c.loop-row.row + 31) 32 locator c.loop-row.scaled c.inverse_powers_of-step.result c.mul-scaled-in-loop-row.result
          c.requires.few c.inverse_powers_of-step.ensures c.mul-scaled-in-loop-row.ensures c.loop-row.invariant.scaled);
      room = c.loop-k.invariant.room;
      found = subst (λ m. take 16 (found ++ roots_from locator m (n - m)) ≡ take 16 (roots_below n locator)) on c.loop-k.invariant.found;
    }

pub returns : goal.returns
returns c =
    found_last c.args.locator.now c.loop-row.places.items (take 16 (roots_below c.args.count c.args.locator.now)) c.args.count (32 * c.loop-row.row)
    (omega (arith, c.loop-row-test.false)) c.loop-row.invariant.room c.loop-row.invariant.found
