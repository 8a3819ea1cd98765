-- What a trial has sent and received in the end.
use Rattle.std.proofs.Common.{◌≡◌, ℕ, suc, ◌+◌, ◌*◌, ◌/◌, ◌<◌, List, [], ◌∷◌, ◌++◌, length, take, drop, get_or, Some, refl, sym, ◌∙◌, ap, ap₂, subst, arith, length-append}
use Rattle.std.specs.Prelude.{slice_range}
use Rattle.std.proofs.lemmas.List.{take_at, drop_at}
use Rattle.bit_lists.specs.Bits.{number}
use Rattle.bit_lists.specs.Places.{for_each, flat}
use Rattle.bit_lists.proofs.ByPlaces.{length-for_each, at-for_each, flat-nil, flat-cons}
use Rattle.mac_columns.specs.declared.column.Column.{Column}
use Rattle.lane_impair.specs.Impairments.{beat_count, impaired}
use Rattle.lane_impair.specs.Histories.{lanes_of, beat_at}
use Rattle.lane_impair.proofs.MovedLanes.{lanes_move}
use Rattle.pcs_send.specs.Lanes.{beats_of}
use Rattle.pcs_send.specs.Transmission.{whole_pairs, carried}
use Rattle.pcs_send.proofs.SentLanes.{length-sent_lane}
use Rattle.pcs_words.specs.declared.command.TrialOptions.{TrialOptions}
use Rattle.pcs_drive.specs.Writing.{Wrote}
use Rattle.pcs_drive.proofs.WritingLemmas.{wrote-all}
use Rattle.pcs_receive.specs.Events.{events}
use Rattle.trial_laws.specs.Counting.{Counted}
use Rattle.trial_laws.specs.Trial.{next_seed, limit_of, trial_columns, trial_lanes, received_lanes, trial_capture}
use Rattle.trial_laws.specs.declared.counts.Counts.{Counts}
use Rattle.trial_laws.proofs.TrialOrder.{no-drops}
use Rattle.pcs_top.specs.Captures.{form_header, capture_octets}
use Rattle.pcs_top.specs.EventTexts.{capture}
use Rattle.pcs_top.specs.Channels.{items_of, all_damaged, events_heard}
use Rattle.pcs_top.specs.Trials.{with_beats, HaveBursts}
use Rattle.pcs_top.proofs.Bursts.{lanes-struck}
use Rattle.pcs_top.proofs.Passing.{are-trial_items}

-- ---- beats, by the octets that they are
same-rest : (xs ys zs : List ℕ) → xs ++ ys ≡ xs ++ zs → ys ≡ zs
same-rest [] ys zs e = e
same-rest (x ∷ xs) ys zs e = same-rest xs ys zs (ap (drop 1) e)

abbrev pub AreSixteen : List (List ℕ) → Type 0
AreSixteen beats = (b : ℕ) → b < length beats → length (get_or beats b []) ≡ 16

some-octets : (beat : List ℕ) (beats : List (List ℕ)) → length beat ≡ 16 → flat (beat ∷ beats) ≡ [] → ⊥
some-octets beat beats size none = omega (arith, size, ap length (sym (flat-cons beat beats) ∙ none), length-append beat (flat beats))

same-beats : (xs ys : List (List ℕ)) → AreSixteen xs → AreSixteen ys → flat xs ≡ flat ys → xs ≡ ys
same-beats [] [] a b e = refl
same-beats [] (y ∷ ys) a b e = absurd (some-octets y ys (b 0 (omega arith)) (sym e ∙ flat-nil))
same-beats (x ∷ xs) [] a b e = absurd (some-octets x xs (a 0 (omega arith)) (e ∙ flat-nil))
same-beats (x ∷ xs) (y ∷ ys) a b e =
    let both : x ++ flat xs ≡ y ++ flat ys = sym (flat-cons x xs) ∙ e ∙ flat-cons y ys in
    let first = a 0 (omega arith) in
    let second = b 0 (omega arith) in
    ap₂ (λ z zs. z ∷ zs)
    (sym (take_at x (flat xs) 16 first) ∙ ap (take 16) both ∙ take_at y (flat ys) 16 second)
    (same-beats xs ys (λ k low. a (suc k) (omega (arith, low))) (λ k low. b (suc k) (omega (arith, low)))
    (sym (drop_at x (flat xs) 16 first) ∙ ap (drop 16) both ∙ drop_at y (flat ys) 16 second))

abbrev row : List (List ℕ) → ℕ → List ℕ
row lanes b = for_each 16 (λ l. number (slice_range (get_or lanes l []) (8 * b) (8 * b + 8)))

pub sixteen-beats_of : (lanes : List (List ℕ)) → AreSixteen (beats_of lanes)
unfolding beats_of
sixteen-beats_of lanes b low =
    let n = length (get_or lanes 0 []) / 8 in
    ap length (at-for_each n (row lanes) b [] (subst (λ k. b < k) (length-for_each n (row lanes)) low))
    ∙ length-for_each 16 (λ l. number (slice_range (get_or lanes l []) (8 * b) (8 * b + 8)))

-- ---- all that was sent
module _ (options : TrialOptions) (cs : List Column) (sent : List (List ℕ)) (each : AreSixteen sent)
    (wrote : Wrote (Some []) (with_beats options sent) (capture_octets 1 options.period (carried options.period cs)) []) where
  pub sent-is : sent ≡ beats_of (carried options.period cs)
  unfolding capture_octets
  sent-is =
      let p = options.period in
      let held = wrote-all (Some []) (with_beats options sent) (capture_octets 1 p (carried p cs)) wrote in
      same-beats sent (beats_of (carried p cs)) each (sixteen-beats_of (carried p cs)) (same-rest (form_header 1 p) (flat sent) (flat (beats_of (carried p cs))) held)

  length-sent : length sent ≡ 85 * whole_pairs options.period (length cs)
  unfolding beats_of
  length-sent =
      let p = options.period in
      ap length sent-is ∙ length-for_each (length (get_or (carried p cs) 0 []) / 8) (row (carried p cs)) ∙ omega (arith, length-sent_lane p cs 0 (omega arith))

  pub pairs-are : (pairs : ℕ) → length sent ≡ 85 * pairs → pairs ≡ whole_pairs options.period (length cs)
  pairs-are pairs is = omega (arith, is, length-sent)

-- ---- all that was received
all-beats : (options : TrialOptions) (beats : List (List ℕ)) → all_damaged options beats ≡ beats_of (impaired (lanes_of beats) (items_of options))
unfolding beat_at beats_of
all-beats options beats =
    let lanes = lanes_of beats in
    let items = items_of options in
    let moves = lanes_move lanes items (are-trial_items options) (no-drops (next_seed options.seed) (limit_of options.period)) in
    let count : beat_count lanes items ≡ length (get_or (impaired lanes items) 0 []) / 8 = omega (arith, moves.size 0 (omega arith)) in
    ap (λ n. for_each n (beat_at (impaired lanes items))) count

pub received : (options : TrialOptions) (sent beats : List (List ℕ)) (counts : Counts)
    → sent ≡ beats_of (trial_lanes options.seed options.count options.period)
    → HaveBursts (next_seed options.seed) (2 * options.period) sent beats
    → Counted options.seed options.count counts (events_heard options (all_damaged options beats))
    → Counted options.seed options.count counts (events (trial_capture options.seed options.count options.period) (limit_of options.period) 0)
unfolding trial_capture received_lanes
received options sent beats counts is have counted =
    let p = options.period in
    let lanes = lanes-struck p (trial_columns options.seed options.count p) (next_seed options.seed) (2 * p) sent beats is have in
    let all = all-beats options beats ∙ ap (λ (ls : List (List ℕ)). beats_of (impaired ls (items_of options))) lanes in
    subst (λ bs. Counted options.seed options.count counts (events (capture p bs) (limit_of p) 0)) all counted
