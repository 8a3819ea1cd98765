-- The gaps of the frames of a trial are legal. The slack of columns counts up by one with each column of a frame and down by four with each
-- Idle. It bounds the columns that are kept by those that are left out.
use Rattle.std.proofs.Common.{◌≡◌, ℕ, zero, suc, ◌+◌, ◌-◌, ◌*◌, ◌/◌, ◌<◌, ◌≤◌, Bool, true, false, ◌&&◌, List, [], ◌∷◌, ◌++◌, length, take, reverse, replicate, refl, sym, ap, ◌∙◌, inl, inr, arith, length-append}
use Rattle.std.specs.Prelude.{nat_lt, if◌then◌else◌, slice_range}
use Rattle.std.specs.Int.{to_le_bytes, w64}
use Rattle.std.proofs.lemmas.Nat.{mod_below}
use Rattle.std.proofs.lemmas.Bool.{cases_lt}
use Rattle.std.proofs.lemmas.Bool.Decides.{nat_tests}
use Rattle.std.proofs.lemmas.Grind.{div_ceil_times}
use Rattle.std.proofs.lemmas.List.{length-take, append_assoc}
use Rattle.rate_match.proofs.Keeping.{kept_count-le}
use Rattle.bit_lists.specs.Places.{joined}
use Rattle.bit_lists.proofs.ByPlaces.{length-for_each}
use mathlib.Core.List.{reverse_aux}
use Rattle.mac_columns.specs.declared.column.Column.{Column}
use Rattle.mac_columns.specs.declared.column.Column.TheVariants.{Start, Data, End, Idle}
use Rattle.mac_columns.specs.Columns.{preamble, data_columns, remainder, body_of, columns_of}
use Rattle.rate_match.specs.Thinning.{is_idle}
use Rattle.rate_match.specs.Kept.{room, groups_of, kept_count, debt}
use Rattle.pcs_send.specs.SentFrames.{columns_of_items}
use Rattle.lane_impair.specs.Noise.{word}
use Rattle.trial_laws.specs.TrialFrames.{length_of, words_of, frame_of, gap_of, behind_frame, trial_frames}
use Rattle.trial_laws.specs.Laws.{TrialGapsAreLegal}

-- ---- the slack
abbrev slack_step : ℕ → Column → ℕ
slack_step slack column = if is_idle column then slack - 4 else slack + 1

abbrev slack_of : List Column → ℕ
slack_of [] = 0
slack_of (column ∷ past) = slack_step (slack_of past) column

-- the slack after more columns
abbrev slack_after : ℕ → List Column → ℕ
slack_after slack [] = slack
slack_after slack (column ∷ columns) = slack_after (slack_step slack column) columns

slack-reversed : (columns past : List Column) → slack_of (reverse_aux columns past) ≡ slack_after (slack_of past) columns
slack-reversed [] past = refl
slack-reversed (column ∷ columns) past = slack-reversed columns (column ∷ past)

slack-append : (slack : ℕ) (xs ys : List Column) → slack_after slack (xs ++ ys) ≡ slack_after (slack_after slack xs) ys
slack-append slack [] ys = refl
slack-append slack (x ∷ xs) ys = slack-append (slack_step slack x) xs ys

step-most : (slack : ℕ) (idle : Bool) → (if idle then slack - 4 else slack + 1) ≤ slack + 1
step-most slack true = omega arith
step-most slack false = omega arith

slack-most : (slack : ℕ) (columns : List Column) → slack_after slack columns ≤ slack + length columns
slack-most slack [] = omega arith
slack-most slack (column ∷ columns) = omega (arith, slack-most (slack_step slack column) columns, step-most slack (is_idle column))

slack-idles : (slack gap : ℕ) → slack_after slack (replicate gap Idle) ≡ slack - 4 * gap
slack-idles slack zero = omega arith
slack-idles slack (suc gap) = slack-idles (slack - 4) gap ∙ omega arith

-- ---- the columns that are kept, by the slack
bound_left : (r n k s : ℕ) → 128 ≤ r → k ≤ n → 32 * k ≤ r * (n - k) + 32 + 32 * s → 32 * k ≤ r * (suc n - k) + 32 + 32 * (s - 4)
bound_left r n k s big le h =
    let more : suc n - k ≡ n - k + 1 = omega arith in
    let product : r * (suc n - k) ≡ r * (n - k + 1) = ap (λ m. r * m) more in
    omega (arith, h, product, big)

bound_kept : (r n k s : ℕ) → k ≤ n → 32 * k ≤ r * (n - k) + 32 + 32 * s → 32 * (k + 1) ≤ r * (suc n - (k + 1)) + 32 + 32 * (s + 1)
bound_kept r n k s le h =
    let same : suc n - (k + 1) ≡ n - k = omega arith in
    let product : r * (suc n - (k + 1)) ≡ r * (n - k) = ap (λ m. r * m) same in
    omega (arith, h, product)

-- where all debt is gone, the columns that are kept fill no more periods than were paid for
bound_full : (r n k s g : ℕ) → k ≤ n → k ≤ g * r → 32 * g ≤ n - k → 32 * (k + 1) ≤ r * (suc n - (k + 1)) + 32 + 32 * (s - 4)
bound_full r n k s g le few paid =
    let d = n - k - 32 * g in
    let same : suc n - (k + 1) ≡ 32 * g + d = omega arith in
    let product : r * (suc n - (k + 1)) ≡ r * (32 * g + d) = ap (λ m. r * m) same in
    omega (arith, few, product)

bound_step : (r n k s g : ℕ) (idle low : Bool) → 128 ≤ r → k ≤ n → k ≤ g * r → (low ≡ false → 32 * g ≤ n - k)
    → 32 * k ≤ r * (n - k) + 32 + 32 * s
    → 32 * (if idle && low then k else k + 1)
    ≤ r * (suc n - (if idle && low then k else k + 1)) + 32 + 32 * (if idle then s - 4 else s + 1)
bound_step r n k s g true true big le few paid h = bound_left r n k s big le h
bound_step r n k s g true false big le few paid h = bound_full r n k s g le few (paid refl)
bound_step r n k s g false low big le few paid h = bound_kept r n k s le h

not_less : (x y : ℕ) → nat_lt x y ≡ false → y ≤ x
not_less x y e = grind (arith, nat_tests)

slack_bounds : (p : ℕ) (past : List Column) → 1 ≤ p → 32 * kept_count p past ≤ room p * (length past - kept_count p past) + 32 + 32 * slack_of past
unfolding kept_count groups_of
slack_bounds p [] some = omega arith
slack_bounds p (column ∷ past) some =
    let kept : ℕ = kept_count p past in
    let big : 128 ≤ room p = omega arith in
    bound_step (room p) (length past) kept (slack_of past) (groups_of p kept) (is_idle column)
    (nat_lt (length past - kept) (32 * groups_of p kept)) big
    (kept_count-le p past) ((div_ceil_times kept (room p) (omega (arith, big))).0)
    (not_less (length past - kept) (32 * groups_of p kept)) (slack_bounds p past some)

-- ---- the debt, by the slack
debt_low : (r k l g s : ℕ) → 128 ≤ r → g * r < k + r → 32 * k ≤ r * l + 32 + 32 * s → s ≤ 137 → 32 * g - l ≤ 128
debt_low r k l g s big few bound small =
    elim (cases_lt 128 (32 * g - l)) [
      | inl over ↦
          let d = 32 * g - l - 129 in
          let groups : 32 * g ≡ l + 129 + d = omega arith in
          let product : r * (32 * g) ≡ r * (l + 129 + d) = ap (λ m. r * m) groups in
          absurd (omega (arith, product, few, bound, small, big))
      | inr within ↦ within
    ]

debt-low : (p : ℕ) (past : List Column) → 1 ≤ p → slack_of past ≤ 137 → debt p past ≤ 128
unfolding debt groups_of
debt-low p past some small =
    let kept : ℕ = kept_count p past in
    let big : 128 ≤ room p = omega arith in
    debt_low (room p) kept (length past - kept) (groups_of p kept) (slack_of past) big
    ((div_ceil_times kept (room p) (omega (arith, big))).1) (slack_bounds p past some) small

-- ---- the slack of the columns of a trial
abbrev StaysLow : ℕ → List Column → Type 0
StaysLow slack columns = (i : ℕ) → slack_after slack (take i columns) ≤ 137

stays-append : (slack : ℕ) (xs ys : List Column) → StaysLow slack xs → StaysLow (slack_after slack xs) ys → StaysLow slack (xs ++ ys)
stays-append slack [] ys front rest i = rest i
stays-append slack (x ∷ xs) ys front rest zero = front zero
stays-append slack (x ∷ xs) ys front rest (suc i) = stays-append (slack_step slack x) xs ys (λ j. front (suc j)) rest i

stays-short : (columns : List Column) → length columns ≤ 137 → StaysLow 0 columns
stays-short columns few i = omega (arith, slack-most 0 (take i columns), length-take i columns, few)

stays-idles : (slack gap : ℕ) → slack ≤ 137 → StaysLow slack (replicate gap Idle)
stays-idles slack gap low zero = low
stays-idles slack zero low (suc i) = low
stays-idles slack (suc gap) low (suc i) = stays-idles (slack - 4) gap (omega (arith, low)) i

-- the columns of a frame without its gap
abbrev frame_columns : List ℕ → List Column
frame_columns frame = Start preamble ∷ (data_columns frame ++ End (remainder frame) ∷ [])

columns-split : (frame : List ℕ) (gap : ℕ) → columns_of frame gap ≡ frame_columns frame ++ replicate gap Idle
unfolding columns_of body_of
columns-split frame gap = ap (λ rest. Start preamble ∷ rest) (sym (append_assoc (data_columns frame) (End (remainder frame) ∷ []) (replicate gap Idle)))

length-frame_columns : (frame : List ℕ) → length (frame_columns frame) ≡ 2 + length frame / 8
length-frame_columns frame =
    omega (arith, length-append (data_columns frame) (End (remainder frame) ∷ []), length-for_each (length frame / 8) (λ k. Data (slice_range frame (8 * k) (8 * k + 8))))

frame-stays : (frame : List ℕ) (gap : ℕ) → 2 + length frame / 8 ≤ 137 → StaysLow 0 (columns_of frame gap)
frame-stays frame gap few i =
    let size = length-frame_columns frame in
    let own = frame_columns frame in
    let most = slack-most 0 own in
    let h : slack_after 0 (take i (own ++ replicate gap Idle)) ≤ 137 =
    stays-append 0 own (replicate gap Idle) (stays-short own (omega (arith, size, few)))
    (stays-idles (slack_after 0 own) gap (omega (arith, most, size, few))) i in
    rw (columns-split frame gap) h

frame-ends : (frame : List ℕ) (gap : ℕ) → 2 + length frame / 8 ≤ 4 * gap → slack_after 0 (columns_of frame gap) ≡ 0
frame-ends frame gap long =
    let own = frame_columns frame in
    ap (slack_after 0) (columns-split frame gap) ∙ slack-append 0 own (replicate gap Idle)
    ∙ slack-idles (slack_after 0 own) gap ∙ omega (arith, slack-most 0 own, length-frame_columns frame, long)

pub length-frame_of : (state : ℕ) → length (frame_of state) ≤ length_of state
unfolding frame_of
length-frame_of state = omega (arith, length-take (length_of state) (joined (words_of state) (λ k. to_le_bytes w64 (word (k + 1) state))))

pub length_of-most : (state : ℕ) → length_of state ≤ 1087
unfolding length_of
length_of-most state = let low = mod_below (word 0 state) 1024 (omega arith) in omega (arith, low)

gap_of-least : (state : ℕ) → 2 + length_of state / 8 ≤ 4 * gap_of state
unfolding gap_of
gap_of-least state = omega arith

trial-stays : (state count : ℕ) → StaysLow 0 (columns_of_items (trial_frames state count))
unfolding trial_frames
trial-stays state zero zero = omega arith
trial-stays state zero (suc i) = omega arith
trial-stays state (suc count) i =
    let frame = frame_of state in
    let size = length-frame_of state in
    let long = gap_of-least state in
    let few = length_of-most state in
    let rest = columns_of_items (trial_frames (behind_frame state) count) in
    let ends = frame-ends frame (gap_of state) (omega (arith, size, long)) in
    stays-append 0 (columns_of frame (gap_of state)) rest (frame-stays frame (gap_of state) (omega (arith, size, few)))
    (λ j. rw ends (trial-stays (behind_frame state) count j)) i

pub trial_gaps_are_legal : TrialGapsAreLegal
trial_gaps_are_legal seed count p some i within =
    let columns = columns_of_items (trial_frames seed count) in
    debt-low p (reverse (take i columns)) some (omega (arith, slack-reversed (take i columns) [], trial-stays seed count i))
