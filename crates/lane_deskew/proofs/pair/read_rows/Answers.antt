use Rattle.std.proofs.Common.{◌≡◌, ℕ, ◌+◌, ◌-◌, ◌*◌, ◌/◌, ◌%◌, ◌^◌, ◌<◌, [], List, length, ap, ap₂, ◌∙◌, arith, length-set, rules}
use Rattle.std.specs.Prelude.{slice_index, slice_index_or, slice_range}
use Rattle.std.proofs.lemmas.List.{length-map}
use Rattle.std.proofs.lemmas.List.Elements.{All-set}
use Rattle.bit_lists.specs.Bits.{all_bits, number}
use Rattle.bit_lists.proofs.ByPlaces.{by_places, same_for_each}
use Rattle.gf1024.specs.Symbol.{symbol, zero_symbol}
use Rattle.lane_deskew.specs.Lanes.{column}
use Rattle.lane_deskew.specs.State.{kept_row, kept_rows, kept_octets}
use Rattle.lane_deskew.proofs.CutRows.{set_more}
use Rattle.lane_deskew.proofs.Vectors.{column_at}
use Rattle.lane_deskew.proofs.pair.read_rows.Goals as goal

pub loop-u-preserved : goal.loop-u-preserved
loop-u-preserved c =
    let inv = c.loop-u.invariant in
    let low = c.loop-u-test.true in
    let places = c.args.order.now.places in
    let lane = c.lane_of-lane.ensures in
    let far = c.requires.places c.lane_of-lane.result 0 (omega (arith, lane.within)) in
    let skipped = c.saturating_sub-skipped.ensures ∙ ap (λ n. c.args.beats - n) c.len.ensures.len in
    let at = ap (λ l. slice_index places l + 680 * c.args.i) lane.lane in
    let from = c.saturating_sub.ensures ∙ ap₂ (λ n m. n / 8 - m) at skipped in
    record {
      sizes = (length-set _ _ _ ∙ inv.sizes.0, length-set _ _ _ ∙ inv.sizes.1, length-set _ _ _ ∙ inv.sizes.2);
      few = All-set (λ n. n < 16) c.loop-u.lanes c.loop-u.u _ lane.within inv.few;
      near = All-set (λ n. n < 2 ^ 60) c.loop-u.froms c.loop-u.u _ (omega (arith, far)) inv.near;
      small = All-set (λ n. n < 8) c.loop-u.shifts c.loop-u.u _ (omega arith) inv.small;
      lane = set_more 0 c.loop-u.lanes c.loop-u.u _ (omega (arith, inv.sizes, low)) inv.lane lane.lane;
      from = set_more 0 c.loop-u.froms c.loop-u.u _ (omega (arith, inv.sizes, low)) inv.from from;
      shift = set_more 0 c.loop-u.shifts c.loop-u.u _ (omega (arith, inv.sizes, low)) inv.shift (ap (λ n. n % 8) at);
    }

pub returns : goal.returns
unfolding kept_rows kept_row kept_octets
returns c =
    let inv = c.loop-u.invariant in
    let octets = c.octets_from.result in
    let long : length octets ≡ 88 = search rules in
    c.cut_rows.ensures
    ∙ same_for_each 68 _ _ [] (λ k low. same_for_each 16 _ _ zero_symbol (λ u few.
    ap₂ (λ xs n. symbol (number (slice_range (all_bits 8 xs) (n + 10 * k) (n + 10 * k + 10))))
    (by_places 88 _ (column u octets) 0 (length-map octets (λ (beat : List ℕ). slice_index beat u) ∙ long)
    (λ j less. column_at u j octets [] (omega (arith, long)) ∙ c.octets_from.ensures j u less few
    ∙ ap (λ xs. slice_index (slice_index_or xs (slice_index c.loop-u.froms u + j) []) (slice_index c.loop-u.lanes u)) c.as_slices.ensures
    ∙ ap₂ (λ n l. slice_index (slice_index_or c.args.kept.now.items (n + j) []) l) (inv.from u (omega arith)) (inv.lane u (omega arith))))
    (inv.shift u (omega arith))))
