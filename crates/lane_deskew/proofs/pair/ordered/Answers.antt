use Rattle.std.proofs.Common.{◌≡◌, ◌+◌, ◌*◌, ◌/◌, ◌<◌, arith, w8, ap, ◌∙◌}
use Rattle.std.specs.Prelude.{slice_index}
use Rattle.std.proofs.lemmas.Simd.{Each1-from_get_or, SwzOk-from_below, get_or-swz_l_below}
use Rattle.lane_deskew.proofs.pair.ordered.Goals as goal

pub returns : goal.returns
returns c =
    λ v few.
    let low : slice_index c.args.lanes.now v < 16 = c.requires v 0 (omega (arith, c.told-lanes)) in
    let at : 16 * ((0 + v) / 16) + slice_index c.args.lanes.now v ≡ slice_index c.args.lanes.now v = omega arith in
    get_or-swz_l_below w8 16 c.args.beat.now 0 c.args.lanes.now v (omega (arith, c.told-lanes)) low ∙ ap (slice_index c.args.beat.now) at

pub swizzle : goal.swizzle
swizzle c =
    SwzOk-from_below w8 16 1 16 0 c.args.lanes.now (omega arith) (omega (arith, c.told-lanes)) (Each1-from_get_or (λ j. j < 16) c.args.lanes.now 0 (λ i low. c.requires i 0 low))
