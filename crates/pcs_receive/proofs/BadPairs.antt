-- What bad pairs leave to the columns and frames.
use Rattle.std.proofs.Common.{◌≡◌, ℕ, suc, ◌+◌, ◌-◌, ◌*◌, ◌%◌, ◌<◌, ◌≤◌, true, false, List, [], length, take, refl, sym, ap, ap₂, ◌∙◌, arith, inl, inr}
use Rattle.std.specs.Prelude.{slice_range, if◌then◌else◌, not, reverse}
use Rattle.std.proofs.lemmas.Bool.{cases_Bool}
use Rattle.std.proofs.lemmas.List.{ext_get_or, take_more}
use Rattle.bit_lists.specs.Bits.{bit}
use Rattle.bit_lists.specs.Places.{joined}
use Rattle.bit_lists.proofs.Lists.{flat_map-range-same}
use Rattle.bit_lists.proofs.Slices.{bit-slice, length-slice_range}
use Rattle.mac_columns.specs.Frames.{open_frame}
use Rattle.scramble58.specs.Scrambling.{ones58, descrambled}
use Rattle.scramble58.proofs.Equation.{descrambled_meets, in_line}
use Rattle.scramble58.proofs.Stretch.{length-descrambled}
use Rattle.scramble58.proofs.Tapped.{each_of}
use Rattle.pcs_send.specs.Transmission.{wides_before, wides_of_pair}
use Rattle.pcs_send.proofs.Pairs.{wides-suc}
use Rattle.pcs_receive.specs.Reports.{Rows, is_good}
use Rattle.pcs_receive.specs.Received.{pair_at, is_bad, is_marked, four_errors, columns_of_wide, payload, wide_at, columns_of_pair, received}
use Rattle.pcs_receive.specs.Laws.{BadBitsDoNotCount, BadPairsCloseFrames}
use Rattle.pcs_receive.proofs.Clear.{GoodPairsStand, history-bit, past-history}
use Rattle.pcs_receive.proofs.Settled.{length-payload}
use Rattle.pcs_receive.proofs.TakingPairs.{bad-closes}
use Rattle.pcs_receive.proofs.Wides.{wides_before-mono}

-- a bit descrambled of two lists that have the same three bits
same-bit : (z y : List ℕ) (n : ℕ) → 58 ≤ n → n < length z → n < length y → bit z n ≡ bit y n → bit z (n - 39) ≡ bit y (n - 39)
    → bit z (n - 58) ≡ bit y (n - 58)
    → bit (descrambled ones58 z) n ≡ bit (descrambled ones58 y) n
same-bit z y n low in_z in_y here far farther =
    by z in_z ∙ ap₂ (λ a b. (bit z n + a + b) % 2) far farther ∙ ap (λ a. (a + bit y (n - 39) + bit y (n - 58)) % 2) here ∙ sym (by y in_y)
  where
    by : (x : List ℕ) → n < length x → bit (descrambled ones58 x) n ≡ (bit x n + bit x (n - 39) + bit x (n - 58)) % 2
    by x inside =
        each_of ones58 x x (descrambled ones58 x) (descrambled_meets ones58 x refl) n inside
        ∙ ap₂ (λ a b. (bit x n + a + b) % 2) (in_line ones58 x (n + 19) (n - 39) refl (omega arith)) (in_line ones58 x n (n - 58) refl (omega arith))

-- an unmarked wide, whatever stands for the payload of bad pairs
same-wide : (p : ℕ) (pairs : List Rows) (ys : List ℕ) (i w : ℕ) → length ys ≡ length (payload p pairs) → GoodPairsStand p pairs ys 0
    → i < length pairs → w < wides_of_pair p i → is_marked pairs i w ≡ false
    → slice_range (descrambled ones58 ys) (257 * (wides_before p i + w)) (257 * (wides_before p i + w) + 257) ≡ wide_at p pairs (wides_before p i + w)
unfolding wide_at
same-wide p pairs ys i w same stand h hw clear =
    let n = wides_before p i + w in
    let within = wides_before-mono p (suc i) (length pairs) h in
    let next = wides-suc p i in
    let count = length-payload p pairs in
    let some = past-history p pairs i w h clear in
    let left = length-slice_range (descrambled ones58 ys) (257 * n) 257 (omega (arith, within, next, count, same, length-descrambled ys)) in
    let right = length-slice_range (descrambled ones58 (payload p pairs)) (257 * n) 257 (omega (arith, within, next, count, length-descrambled (payload p pairs))) in
    ext_get_or 0 _ _ (left ∙ sym right)
    (λ r hr.
    let hr' : r < 257 = omega (arith, left, hr) in
    let at : (k : ℕ) → 257 * 0 + (257 * n + r) - k ≡ 257 * n + r - k = λ k. omega arith in
    let zero_back : 257 * n + r - 0 ≡ 257 * n + r = omega arith in
    let back : (k : ℕ) → k ≤ 58 → bit ys (257 * n + r - k) ≡ bit (payload p pairs) (257 * n + r - k) =
    λ k le. ap (bit ys) (sym (at k)) ∙ sym (history-bit p pairs ys 0 i w r k stand h hw hr' le clear) in
    bit-slice (descrambled ones58 ys) (257 * n) (257 * n + 257) r (omega arith)
    ∙ same-bit ys (payload p pairs) (257 * n + r) (omega (arith, some)) (omega (arith, within, next, count, same)) (omega (arith, within, next, count))
    (ap (bit ys) (sym zero_back) ∙ back 0 (omega arith) ∙ ap (bit (payload p pairs)) zero_back) (back 39 (omega arith)) (back 58 (omega arith))
    ∙ sym (bit-slice (descrambled ones58 (payload p pairs)) (257 * n) (257 * n + 257) r (omega arith)))

good-not-bad : (pairs : List Rows) (i : ℕ) → is_good (pair_at pairs i) ≡ true → is_bad pairs i ≡ false
unfolding is_bad
good-not-bad pairs i e = ap not e

bad-not-good : (pairs : List Rows) (i : ℕ) → is_bad pairs i ≡ true → is_good (pair_at pairs i) ≡ false
unfolding is_bad
bad-not-good pairs i e = elim (cases_Bool (is_good (pair_at pairs i))) [
  | inl is ↦ let bad : false ≡ true = sym (ap not is) ∙ e in absurd cc
  | inr is ↦ is
]

pub bad_bits_do_not_count : BadBitsDoNotCount
unfolding columns_of_pair joined
bad_bits_do_not_count p pairs ys same stand i h =
    flat_map-range-same _ _ 0 (wides_of_pair p i)
    (λ w a b. elim (cases_Bool (is_marked pairs i w)) [
      | inl is ↦
          ap (λ m. if m then four_errors else columns_of_wide (slice_range (descrambled ones58 ys) (257 * (wides_before p i + w)) (257 * (wides_before p i + w) + 257))) is
          ∙ sym (ap (λ m. if m then four_errors else columns_of_wide (wide_at p pairs (wides_before p i + w))) is)
      | inr is ↦
          ap (λ wide. if is_marked pairs i w then four_errors else columns_of_wide wide) (same-wide p pairs ys i w same good h (omega arith) is)
    ])
  where
    good : GoodPairsStand p pairs ys 0
    good j hj is =
        let from : 257 * wides_before p j ≡ 257 * (0 + wides_before p j) = omega arith in
        let next : j + 1 ≡ suc j = omega arith in
        let to : 257 * wides_before p (suc j) ≡ 257 * (0 + wides_before p (suc j)) = omega arith in
        sym (stand j hj (good-not-bad pairs j is))
        ∙ ap (λ k. slice_range ys (257 * wides_before p j) (257 * wides_before p k)) next
        ∙ ap₂ (slice_range ys) from to

pub bad_pairs_close_frames : BadPairsCloseFrames
bad_pairs_close_frames p pairs i h bad =
    ap (λ qs. open_frame (reverse (received p qs))) (take_more pairs i [] h)
    ∙ bad-closes p (take i pairs) (pair_at pairs i) (bad-not-good pairs i bad)
