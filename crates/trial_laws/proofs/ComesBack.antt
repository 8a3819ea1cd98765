-- Where a trial locks truly, all frames come back, and each wrong symbol is told as corrected.
use Rattle.std.proofs.Common.{◌≡◌, ℕ, zero, suc, ◌+◌, ◌-◌, ◌*◌, ◌<◌, ◌≤◌, ◌++◌, ◌&&◌, Bool, true, false, List, [], ◌∷◌, length, map, Option, Some, None, is_some, refl, sym, ap, ap₂, ◌∙◌, inl, inr, arith}
use Rattle.std.proofs.Math.Bool.{and-false}
use Rattle.std.specs.Prelude.{not, sum_by, unwrap_or, option_map, bytes_eq, filter_map}
use Rattle.std.proofs.lemmas.Bool.{cases_lt, eq-eqb, and_parts}
use Rattle.std.proofs.lemmas.List.{append_assoc, append-nil, length-append, length-replicate}
use Rattle.std.proofs.lemmas.List.Sums.{sum_by-cons, sum_by-append}
use Rattle.bit_lists.specs.Places.{joined}
use Rattle.bit_lists.proofs.Least.{least-isnt}
use Rattle.pcs_bits.specs.Captures.{Capture}
use Rattle.mac_columns.specs.declared.column.Column.{Column}
use Rattle.mac_columns.specs.declared.column.Column.TheVariants.{Idle}
use Rattle.mac_columns.specs.Items.{Item, item_frame}
use Rattle.mac_columns.specs.Frames.{Outcome, whole, dropped, frames_of}
use Rattle.lane_deskew.specs.declared.Order.{Order}
use Rattle.lane_deskew.specs.Alignments.{aligned, align}
use Rattle.lane_deskew.specs.Pairs.{pairs_there}
use Rattle.rate_match.specs.Kept.{room, kept}
use Rattle.rs_code.specs.Code.{distance}
use Rattle.symbol_deal.specs.Rows.{word_a, word_b}
use Rattle.pcs_send.specs.Transmission.{columns_before, begun_columns, sent_columns, idles, lacking, sent}
use Rattle.pcs_send.specs.SentFrames.{columns_of_items}
use Rattle.pcs_send.proofs.SentFrames.{frames-are_sent}
use Rattle.pcs_send.proofs.Pairs.{columns-periods, wides-zero}
use Rattle.pcs_send.proofs.Carrying.{joined-none, joined-next}
use Rattle.pcs_receive.specs.Reports.{Rows, report_of, member_a, member_b}
use Rattle.pcs_receive.specs.Received.{pair_at, is_bad}
use Rattle.pcs_receive.specs.Events.{Event, report, events, third_bad, are_bad, heard_of, pairs_of, next_hunt, end_of_pair, hunt_events, frame_events, gathered_in_pair, event_of_outcome, lost_of, alignment, good}
use Rattle.pcs_receive.specs.Images.{HasTrueLock}
use Rattle.pcs_receive.specs.Headline.{AlignsAt, HasAtMostWrong, named_frames, behind_first_wide, behind_pairs}
use Rattle.pcs_receive.proofs.Headline.{headline_of_items, reports_tell_wrong_symbols}
use Rattle.pcs_receive.proofs.Hunts.{events-told, told-equation, told_on}
use Rattle.pcs_receive.proofs.PairsOf.{length-pairs_of}
use Rattle.mac_columns.specs.RunPlaces.{frames_between}
use Rattle.trial_laws.specs.TrialFrames.{behind_frame, trial_frames}
use Rattle.trial_laws.specs.Trial.{limit_of, trial_columns, trial_pairs, trial_lanes, trial_capture, corrected_of, corrected, are_same, made_columns, made_frames, trial_summary}
use Rattle.trial_laws.specs.declared.summary.Summary.{Summary}
use Rattle.trial_laws.specs.Laws.{trial_image, TrialComesBack, TrialTells, SameFrames}
use Rattle.trial_laws.proofs.MadeFrames.{are-frames}
use Rattle.trial_laws.proofs.TrialImage.{trial_is_an_image}
use Rattle.trial_laws.proofs.WrongSymbols.{trial_wrong_symbols}
use Rattle.trial_laws.proofs.FirstGroup.{pairs-many, first-group, all-there}
use Rattle.trial_laws.proofs.AlwaysLocks.{same_octets, trial_locks_truly}
use Rattle.trial_laws.proofs.AllFrames.{all_frames, fills_pairs}

-- ---- equal frames
same-octets : (xs : List ℕ) → bytes_eq xs xs ≡ true
same-octets [] = refl
same-octets (x ∷ xs) = ap (λ b. b && bytes_eq xs xs) (eq-eqb x x refl) ∙ same-octets xs

same-frames : (frames : List (List ℕ)) → are_same frames frames ≡ true
same-frames [] = refl
same-frames (frame ∷ frames) = ap (λ b. b && are_same frames frames) (same-octets frame) ∙ same-frames frames

then-same : (back frames : List (List ℕ)) → are_same back frames ≡ true → back ≡ frames
then-same [] [] e = refl
then-same [] (made ∷ frames) e = let bad : false ≡ true = e in absurd cc
then-same (given ∷ back) [] e = let bad : false ≡ true = e in absurd cc
then-same (given ∷ back) (made ∷ frames) e =
    let both = and_parts (bytes_eq given made) (are_same back frames) e in
    ap₂ (λ x xs. x ∷ xs) (same_octets given made both.0) (then-same back frames both.1)

pub same_frames : SameFrames
same_frames back frames = (then-same back frames, λ e. ap (are_same back) (sym e) ∙ same-frames back)

-- ---- the corrected symbols of a pair
outcomes-none : (outs : List Outcome) → sum_by corrected_of (map event_of_outcome outs) ≡ 0
outcomes-none [] = refl
outcomes-none (whole octets ∷ outs) =
    sum_by-cons corrected_of (event_of_outcome (whole octets)) (map event_of_outcome outs) ∙ ap (λ n. 0 + n) (outcomes-none outs)
outcomes-none (dropped why ∷ outs) =
    sum_by-cons corrected_of (event_of_outcome (dropped why)) (map event_of_outcome outs) ∙ ap (λ n. 0 + n) (outcomes-none outs)

pair-corrected : (p : ℕ) (pairs : List Rows) (i a b : ℕ) → (report_of i (pair_at pairs i)).a ≡ Some a → (report_of i (pair_at pairs i)).b ≡ Some b
    → sum_by corrected_of (frame_events p pairs i) ≡ a + b
unfolding frame_events
pair-corrected p pairs i a b first second =
    let rest = map event_of_outcome (gathered_in_pair p pairs i) in
    sum_by-cons corrected_of (report (report_of i (pair_at pairs i))) rest
    ∙ ap₂ (λ x y. x + y) (ap₂ (λ x y. unwrap_or x 0 + unwrap_or y 0) first second) (outcomes-none (gathered_in_pair p pairs i))
    ∙ omega arith

-- none of the first p pairs is corrected, and each behind them in thirty symbols
pairs-corrected : (p m : ℕ) (f : ℕ → List Event) → ((i : ℕ) → i < m → i < p → sum_by corrected_of (f i) ≡ 0)
    → ((i : ℕ) → i < m → p ≤ i → sum_by corrected_of (f i) ≡ 30) → sum_by corrected_of (joined m f) ≡ 30 * (m - p)
pairs-corrected p zero f early late = ap (sum_by corrected_of) (joined-none f) ∙ omega arith
pairs-corrected p (suc m) f early late =
    let one : suc m ≡ m + 1 = omega arith in
    let rest = pairs-corrected p m f (λ i low. early i (omega arith)) (λ i low. late i (omega arith)) in
    ap (λ k. sum_by corrected_of (joined k f)) one ∙ ap (sum_by corrected_of) (joined-next f m) ∙ sum_by-append corrected_of (joined m f) (f m)
    ∙ elim (cases_lt m p) [
      | inl before ↦ omega (arith, rest, early m (omega arith) before)
      | inr behind ↦ omega (arith, rest, late m (omega arith) behind)
    ]

-- a report with a number is that of a word with a member
told_some : {X : Type 0} (f : X → ℕ) (o : Option X) (n : ℕ) → option_map f o ≡ Some n → is_some o ≡ true
told_some f None n e = let bad : None ≡ Some n = e in absurd cc
told_some f (Some x) n e = refl

good-pair : (pairs : List Rows) (i a b : ℕ) → (report_of i (pair_at pairs i)).a ≡ Some a → (report_of i (pair_at pairs i)).b ≡ Some b → is_bad pairs i ≡ false
unfolding is_bad report_of
good-pair pairs i a b first second =
    let rows = pair_at pairs i in
    ap₂ (λ x y. not (x && y)) (told_some (distance (word_a rows)) (member_a rows) a first) (told_some (distance (word_b rows)) (member_b rows) b second)

never-lost : (pairs : List Rows) → ((i : ℕ) → i < length pairs → is_bad pairs i ≡ false) → third_bad pairs ≡ None
unfolding third_bad
never-lost pairs none =
    least-isnt (are_bad pairs) 2 (length pairs - 2)
    (λ k low high. ap (λ b. is_bad pairs (k - 2) && is_bad pairs (k - 1) && b) (none k (omega (arith, low, high)))
    ∙ and-false (is_bad pairs (k - 2) && is_bad pairs (k - 1)))

events-whole : (c : Capture) (skew : ℕ) (o : Order) → align c skew 0 ≡ aligned o → third_bad (pairs_of c o) ≡ None
    → events c skew 0 ≡ alignment o ∷ (joined (length (pairs_of c o)) (frame_events c.period (pairs_of c o)) ++ []) ++ []
events-whole c skew o is none =
    let next : next_hunt c (align c skew 0) ≡ None = ap (next_hunt c) is ∙ ap (option_map (end_of_pair o)) none in
    events-told c skew 0 ∙ told-equation frame_events c skew 0
    ∙ ap₂ (λ a b. hunt_events frame_events c a ++ told_on frame_events c skew b) is next
    ∙ ap (λ t. (alignment o ∷ (joined (heard_of (length (pairs_of c o)) t) (frame_events c.period (pairs_of c o)) ++ lost_of o t)) ++ []) none

module _ (seed count p : ℕ) (some : 1 ≤ p)
    (lock : HasTrueLock (trial_capture seed count p) (trial_lanes seed count p) (trial_image seed p) 0) where
  abbrev c : Capture
  c = trial_capture seed count p

  abbrev frames : List Item
  frames = trial_frames seed count

  abbrev columns : List Column
  columns = trial_columns seed count p

  abbrev pairs : ℕ
  pairs = trial_pairs seed count p

  few-wrong : (o : Order) (g : ℕ) → AlignsAt c (limit_of p) (trial_image seed p) 0 o g → HasAtMostWrong 15 columns c (trial_image seed p) o g
  unfolding trial_capture
  few-wrong o g aligns i low =
      let one = first-group seed count p some lock o g aligns in
      let there = all-there seed count p some lock o g aligns in
      let many = pairs-many seed count p some in
      let place : g * p + i ≡ p + i = ap (λ g. g * p + i) one ∙ omega arith in
      let full : g * p + i < pairs = omega (arith, place, low, there, many) in
      let wrong = trial_wrong_symbols seed count p some in
      elim (cases_lt (g * p + i) (2 * p)) [
        | inl early ↦ let w = wrong.lead (g * p + i) early full in (omega (arith, w.0), omega (arith, w.1))
        | inr late ↦ let w = wrong.behind (g * p + i) late full in (omega (arith, w.0), omega (arith, w.1))
      ]

  -- the frames that are named are all
  named : (o : Order) (g : ℕ) → AlignsAt c (limit_of p) (trial_image seed p) 0 o g → named_frames columns c o g ≡ filter_map item_frame frames
  unfolding trial_capture sent_columns begun_columns
  named o g aligns =
      let one = first-group seed count p some lock o g aligns in
      let there = all-there seed count p some lock o g aligns in
      let many = pairs-many seed count p some in
      let front = 2 * room p in
      let cs = kept p (columns_of_items frames) in
      let fill = idles (lacking p (length (idles front ++ cs))) ++ idles (1 * room p) in
      let split : columns ≡ idles front ++ (cs ++ fill) = append_assoc (idles front) cs fill in
      let period : g * p ≡ 0 + 1 * p = ap (λ g. g * p) one ∙ omega arith in
      let before : columns_before p (g * p) ≡ room p = ap (columns_before p) period ∙ columns-periods p 0 1 some ∙ omega (arith, wides-zero p) in
      let last : g * p + pairs_there c o ≡ pairs = omega (arith, period, there, many) in
      let end : columns_before p (g * p + pairs_there c o) ≡ length columns = ap (columns_before p) last ∙ fills_pairs p 2 1 (columns_of_items frames) some in
      let size = length-append (idles front) (cs ++ fill) in
      let long = length-replicate {A = Column} front Idle in
      let from = behind_first_wide p g in
      let to = behind_pairs p g (pairs_there c o) in
      ap (frames_between from to) split
      ∙ all_frames from to front (cs ++ fill) (omega (arith, before, some)) (omega (arith, end, ap length split, size, long))
      ∙ sym (ap frames_of split)
      ∙ (frames-are_sent p 2 1 frames (are-frames seed count)).all

  comes-back : good c (limit_of p) ≡ filter_map item_frame frames
  unfolding trial_capture sent
  comes-back =
      let is = trial_is_an_image seed count p some in
      let (o, g, aligns, gives) = headline_of_items 15 (omega arith) frames 2 1 c (trial_image seed p) (limit_of p) (are-frames seed count)
      is.stands is.within is.limit lock in
      gives (few-wrong o g aligns) ∙ named o g aligns

  symbols : corrected c (limit_of p) ≡ 30 * (pairs - 2 * p)
  unfolding corrected trial_capture
  symbols =
      let is = trial_is_an_image seed count p some in
      let all = frames-are_sent p 2 1 frames (are-frames seed count) in
      let (o, g, aligns, tells) = reports_tell_wrong_symbols columns c (trial_image seed p) (limit_of p) 0
      (record { octets = all.octets; stands = is.stands; within = is.within; limit = is.limit }) lock in
      let one = first-group seed count p some lock o g aligns in
      let there = all-there seed count p some lock o g aligns in
      let many = pairs-many seed count p some in
      let told = tells (few-wrong o g aligns) in
      let wrong = trial_wrong_symbols seed count p some in
      let rows = pairs_of c o in
      let size : length rows ≡ pairs - p = length-pairs_of c o ∙ there in
      let place : (i : ℕ) → g * p + i ≡ p + i = λ i. ap (λ g. g * p + i) one ∙ omega arith in
      let lost = never-lost rows (λ i low. let t = told i (omega (arith, low, length-pairs_of c o)) in good-pair rows i _ _ t.0 t.1) in
      let sum : sum_by corrected_of (joined (length rows) (frame_events p rows)) ≡ 30 * (length rows - p) =
      pairs-corrected p (length rows) (frame_events p rows)
      (λ i low early.
      let t = told i (omega (arith, low, length-pairs_of c o)) in
      let w = wrong.lead (g * p + i) (omega (arith, place i, early)) (omega (arith, place i, low, size, many)) in
      pair-corrected p rows i _ _ t.0 t.1 ∙ ap₂ (λ a b. a + b) w.0 w.1)
      (λ i low late.
      let t = told i (omega (arith, low, length-pairs_of c o)) in
      let w = wrong.behind (g * p + i) (omega (arith, place i, late)) (omega (arith, place i, low, size, many)) in
      pair-corrected p rows i _ _ t.0 t.1 ∙ ap₂ (λ a b. a + b) w.0 w.1) in
      ap (sum_by corrected_of) (events-whole c (limit_of p) o aligns.is lost)
      ∙ ap (sum_by corrected_of) (append-nil (alignment o ∷ (joined (length rows) (frame_events p rows) ++ [])))
      ∙ sum_by-cons corrected_of (alignment o) (joined (length rows) (frame_events p rows) ++ [])
      ∙ ap (λ es. 0 + sum_by corrected_of es) (append-nil (joined (length rows) (frame_events p rows)))
      ∙ omega (arith, sum, size)

length-frames : (state count : ℕ) → length (filter_map item_frame (trial_frames state count)) ≡ count
unfolding trial_frames
length-frames state zero = refl
length-frames state (suc count) = ap suc (length-frames (behind_frame state) count)

pub trial_comes_back : TrialComesBack
unfolding trial_summary
trial_comes_back seed count p some lock =
    let frames = comes-back seed count p some lock in
    record {
      frames = frames;
      equal = ap (λ back. are_same back (made_frames seed count)) frames ∙ same-frames (made_frames seed count);
      back = ap length frames ∙ length-frames seed count;
      corrected = symbols seed count p some lock;
    }

pub trial_tells : TrialTells
unfolding trial_summary
trial_tells seed count p some =
    let comes = trial_comes_back seed count p some (trial_locks_truly seed count p some) in
    let c = trial_capture seed count p in
    let told : ℕ → ℕ → Bool → Summary = λ corrected back equal. record {
      frames = count;
      octets = sum_by length (made_frames seed count);
      columns = length (made_columns seed count);
      pairs = trial_pairs seed count p;
      corrected = corrected;
      back = back;
      equal = equal;
    } in
    ap (λ n. told n (length (good c (limit_of p))) (are_same (good c (limit_of p)) (made_frames seed count))) comes.corrected
    ∙ ap₂ (λ back equal. told (30 * (trial_pairs seed count p - 2 * p)) back equal) comes.back comes.equal
