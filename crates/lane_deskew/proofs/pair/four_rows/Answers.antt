use Rattle.std.proofs.Common.{◌≡◌, ℕ, ◌+◌, ◌*◌, ◌<◌, ◌∷◌, [], arith, ap, ap₂, ◌∙◌, refl, length-set}
use Rattle.std.specs.Prelude.{slice_index, slice_index_or}
use Rattle.gf1024.specs.Symbol.{zero_symbol}
use Rattle.lane_deskew.proofs.CutRows.{cut-symbol, row-is, set_more}
use Rattle.lane_deskew.proofs.pair.four_rows.Goals as goal

pub loop-u-preserved : goal.loop-u-preserved
loop-u-preserved c =
    let inv = c.loop-u.invariant in
    let low = c.loop-u-test.true in
    let octets = c.args.octets.now in
    let shifts = c.args.shifts.now in
    let k = c.args.k in
    let u = c.loop-u.u in
    let shift = slice_index shifts u in
    let small : shift < 8 = c.requires.1 u 0 (omega (arith, c.told-shifts, low)) in
    let at : (i j n : ℕ) → i + j ≡ n → slice_index (slice_index_or octets (5 * k + i + j) []) u ≡ slice_index (slice_index_or octets (5 * k + n) []) u =
    λ i j n e. let same : 5 * k + i + j ≡ 5 * k + n = omega (arith, e) in ap (λ m. slice_index (slice_index_or octets m []) u) same in
    record {
      sizes = (length-set _ _ _ ∙ inv.sizes.0, length-set _ _ _ ∙ inv.sizes.1, length-set _ _ _ ∙ inv.sizes.2, length-set _ _ _ ∙ inv.sizes.3);
      first = set_more zero_symbol c.loop-u.first u _ (omega (arith, low, inv.sizes)) inv.first (c.ten_bits.ensures.symbol
          ∙ cut-symbol octets shifts (4 * k) u (5 * k) shift 0 _ _ _ c.told-octets (omega arith) (omega arith) refl (omega arith) refl refl refl c.ten_bits.ensures.octets.0 c.ten_bits.ensures.octets.1 c.ten_bits.ensures.octets.2);
      second = set_more zero_symbol c.loop-u.second u _ (omega (arith, low, inv.sizes)) inv.second (c.ten_bits-in-loop-u.ensures.symbol
          ∙ cut-symbol octets shifts (4 * k + 1) u (5 * k + 1) shift 2 _ _ _ c.told-octets (omega arith) (omega arith) refl (omega arith) refl (at 1 1 2 refl) (at 1 2 3 refl) c.ten_bits-in-loop-u.ensures.octets.0 c.ten_bits-in-loop-u.ensures.octets.1 c.ten_bits-in-loop-u.ensures.octets.2);
      third = set_more zero_symbol c.loop-u.third u _ (omega (arith, low, inv.sizes)) inv.third (c.ten_bits-in-loop-u-2.ensures.symbol
          ∙ cut-symbol octets shifts (4 * k + 2) u (5 * k + 2) shift 4 _ _ _ c.told-octets (omega arith) (omega arith) refl (omega arith) refl (at 2 1 3 refl) (at 2 2 4 refl) c.ten_bits-in-loop-u-2.ensures.octets.0 c.ten_bits-in-loop-u-2.ensures.octets.1 c.ten_bits-in-loop-u-2.ensures.octets.2);
      fourth = set_more zero_symbol c.loop-u.fourth u _ (omega (arith, low, inv.sizes)) inv.fourth (c.ten_bits-in-loop-u-3.ensures.symbol
          ∙ cut-symbol octets shifts (4 * k + 3) u (5 * k + 3) shift 6 _ _ _ c.told-octets (omega arith) (omega arith) refl (omega arith) refl (at 3 1 4 refl) (at 3 2 5 refl) c.ten_bits-in-loop-u-3.ensures.octets.0 c.ten_bits-in-loop-u-3.ensures.octets.1 c.ten_bits-in-loop-u-3.ensures.octets.2);
    }

pub returns : goal.returns
returns c =
    let most = c.loop-u-test.false in
    let inv = c.loop-u.invariant in
    let is = row-is c.args.octets.now c.args.shifts.now in
    ap₂ (λ a rest. a ∷ rest) (is _ c.loop-u.first inv.sizes.0 (λ v low. inv.first v (omega arith)))
    (ap₂ (λ a rest. a ∷ rest) (is _ c.loop-u.second inv.sizes.1 (λ v low. inv.second v (omega arith)))
    (ap₂ (λ a b. a ∷ b ∷ []) (is _ c.loop-u.third inv.sizes.2 (λ v low. inv.third v (omega arith))) (is _ c.loop-u.fourth inv.sizes.3 (λ v low. inv.fourth v (omega arith)))))
