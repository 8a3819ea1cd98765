-- Beats are damaged, and those that are ready are received.
use Rattle.std.proofs.Common.{◌≡◌, ℕ, ◌+◌, ◌-◌, ◌*◌, ◌<◌, ◌≤◌, ◌^◌, Bool, true, false, List, [], ◌∷◌, ◌++◌, length, Option, Some, None, refl, sym, ◌∙◌, ap, subst, arith, inl, inr}
use Rattle.std.specs.Prelude.{nat_lt, if◌then◌else◌}
use Rattle.std.specs.List.{All}
use Rattle.std.proofs.lemmas.Nat.{mod_below}
use Rattle.std.proofs.lemmas.Bool.{cases_lt, lt-ltb, ltb-true, ltb-false}
use Rattle.bit_lists.specs.Places.{for_each, greatest}
use Rattle.bit_lists.proofs.ByPlaces.{length-for_each, same_for_each}
use Rattle.bit_lists.proofs.Lists.{for_each-more}
use Rattle.lane_impair.specs.declared.item.Item.{Item}
use Rattle.lane_impair.specs.Items.{IsItem}
use Rattle.lane_impair.specs.Noise.{word}
use Rattle.lane_impair.specs.Impairments.{changed, beat_count, impaired, is_ready}
use Rattle.lane_impair.specs.Histories.{Impairing, lanes_of, beat_at, opened, after_take, after_finish, after_next, has_next, next_answer}
use Rattle.lane_impair.specs.Standing.{State, Stands, comes}
use Rattle.lane_impair.proofs.Least.{above_greatest, ceil_least}
use Rattle.lane_impair.proofs.Lengths.{length-changed_most}
use Rattle.lane_impair.proofs.ReadyBeats.{ready_stays}
use Rattle.pcs_receive.specs.Hearings.{begun}
use Rattle.pcs_receive.specs.State.{State as Receiver, Stands as Hears, IsDrained}
use Rattle.pcs_words.specs.declared.command.TrialOptions.{TrialOptions}
use Rattle.trial_laws.specs.Counting.{Counted}
use Rattle.trial_laws.specs.Trial.{next_seed, limit_of}
use Rattle.trial_laws.specs.declared.counts.Counts.{Counts}
use Rattle.trial_laws.proofs.TrialOrder.{skew-of_trial, are-items}
use Rattle.pcs_top.specs.Giving.{with_given, AllCome}
use Rattle.pcs_top.specs.Channels.{items_of, damaged_beats, all_damaged, events_heard, HasHeard, HasPassed, taking}
use Rattle.pcs_top.proofs.CountedEvents.{nothing-heard}

pub taken-is : (s : State) (h : Impairing) → Stands s h → (s.taken ≡ length h.beats) × (s.finished ≡ h.finished)
unfolding Stands
taken-is s h o = (o.taken, o.finished)

-- ---- how many beats can be given
pub are-trial_items : (options : TrialOptions) → All IsItem (items_of options)
are-trial_items options = are-items (next_seed options.seed) (limit_of options.period) (omega arith)

few-beats : (options : TrialOptions) (beats : List (List ℕ)) → beat_count (lanes_of beats) (items_of options) ≤ length beats + 1024
unfolding beat_count
few-beats options beats =
    let f : ℕ → ℕ = λ l. length (changed (items_of options) (lanes_of beats) l) in
    let most = above_greatest f (8 * (length beats + 1024)) (λ l low.
    omega (
      arith,
      length-changed_most (items_of options) beats l low,
      skew-of_trial (next_seed options.seed) (limit_of options.period) l low,
      mod_below (word (15 + l) (next_seed options.seed)) (limit_of options.period + 1) (omega arith),
    )) in
    ceil_least (greatest (for_each 16 f)) (length beats + 1024) most

below-count : (options : TrialOptions) (beats : List (List ℕ)) (b : ℕ) (finished : Bool)
    → (if finished then nat_lt b (beat_count (lanes_of beats) (items_of options)) else is_ready (lanes_of beats) (items_of options) b) ≡ true
    → b < beat_count (lanes_of beats) (items_of options)
below-count options beats b true e = ltb-true b (beat_count (lanes_of beats) (items_of options)) e
below-count options beats b false e = (ready_stays (items_of options) beats [] (are-trial_items options)).counted b e

given-within : (options : TrialOptions) (h : Impairing) → h.items ≡ items_of options → AllCome h h.given → h.given ≤ beat_count (lanes_of h.beats) (items_of options)
given-within options h is come = elim (cases_lt 0 h.given) [
  | inl some ↦
      let b = h.given - 1 in
      let low : b < h.given = omega (arith, some) in
      let last = below-count options h.beats b h.finished
      (ap (λ items. if h.finished then nat_lt b (beat_count (lanes_of h.beats) items) else is_ready (lanes_of h.beats) items b) (sym is) ∙ come b low) in
      omega (arith, last, some)
  | inr none ↦ omega (arith, none)
]

-- the receiver takes few beats
pub few-heard : (options : TrialOptions) (h : Impairing) (s : State) (x : Receiver) (counts : Counts) → HasPassed options h s x counts
    → length h.beats ≤ 2 ^ 35 → x.aligner.beats < 2 ^ 40
few-heard options h s x counts g few =
    omega (
      arith,
      few,
      g.heard.taken,
      length-for_each h.given (beat_at (impaired (lanes_of h.beats) (items_of options))),
      given-within options h g.items g.come,
      few-beats options h.beats,
    )

-- ---- a call of `next`
module _ (options : TrialOptions) (h : Impairing) (old new : State) (x : Receiver) (counts : Counts) (g : HasPassed options h old x counts)
    (answer : Option (List ℕ)) (answers : (h : Impairing) → Stands old h → answer ≡ next_answer h)
    (stands : (h : Impairing) → Stands old h → Stands new (after_next h)) where
  abbrev beat_of : ℕ → List ℕ
  beat_of = beat_at (impaired (lanes_of h.beats) (items_of options))

  there : (beat : List ℕ) → answer ≡ Some beat → (has_next h ≡ true) × (beat ≡ beat_at (impaired (lanes_of h.beats) h.items) h.given)
  there beat is = by (has_next h) refl
    where
      by : (b : Bool) → has_next h ≡ b → (has_next h ≡ true) × (beat ≡ beat_at (impaired (lanes_of h.beats) h.items) h.given)
      by true has =
          let same = sym is ∙ answers h g.stands ∙ ap (λ b. if b then Some (beat_at (impaired (lanes_of h.beats) h.items) h.given) else None) has in (has, cc)
      by false has =
          let none = sym is ∙ answers h g.stands ∙ ap (λ b. if b then Some (beat_at (impaired (lanes_of h.beats) h.items) h.given) else None) has in absurd (cc)

  come-more : has_next h ≡ true → AllCome h (h.given + 1)
  come-more has b low = elim (cases_lt b h.given) [
    | inl before ↦ g.come b before
    | inr last ↦ let same : b ≡ h.given = omega (arith, low, last) in ap (comes h) same ∙ has
  ]

  -- it gave a beat, which is received
  pub passes-beat : (beat : List ℕ) (y : Receiver) (later : Counts) → answer ≡ Some beat
      → (HasHeard options x counts (damaged_beats options h.beats h.given) → HasHeard options y later (damaged_beats options h.beats h.given ++ beat ∷ []))
      → HasPassed options (with_given h (h.given + 1)) new y later
  passes-beat beat y later is hears =
      let (has, same) = there beat is in
      let own : beat ≡ beat_of h.given = same ∙ ap (λ items. beat_at (impaired (lanes_of h.beats) items) h.given) g.items in
      let more : damaged_beats options h.beats h.given ++ beat ∷ [] ≡ damaged_beats options h.beats (h.given + 1) =
      ap (λ b. damaged_beats options h.beats h.given ++ b ∷ []) own ∙ sym (for_each-more beat_of h.given 1) in
      record {
        items = g.items;
        stands = subst (λ b. Stands new (if b then with_given h (h.given + 1) else h)) has (stands h g.stands);
        come = come-more has;
        heard = subst (HasHeard options y later) more (hears g.heard);
      }

  -- it gave none
  pub passes-none : answer ≡ None → HasPassed options h new x counts × (comes h h.given ≡ false)
  passes-none is = by (has_next h) refl
    where
      by : (b : Bool) → has_next h ≡ b → HasPassed options h new x counts × (comes h h.given ≡ false)
      by true has =
          let some = sym is ∙ answers h g.stands ∙ ap (λ b. if b then Some (beat_at (impaired (lanes_of h.beats) h.items) h.given) else None) has in absurd (cc)
      by false has = (
        record {
          items = g.items;
          stands = subst (λ b. Stands new (if b then with_given h (h.given + 1) else h)) has (stands h g.stands);
          come = g.come;
          heard = g.heard;
        },
        has,
      )

-- ---- the other calls
-- an impairer that was just opened
pub nothing-passed : (options : TrialOptions) (s : State) (x : Receiver) (counts : Counts) → Stands s (taking options [] 0) → HasHeard options x counts []
    → HasPassed options (taking options [] 0) s x counts
unfolding for_each
nothing-passed options s x counts stands heard = record { items = refl; stands = stands; come = λ b low. absurd (omega (arith, low)); heard = heard }

-- a channel that was just opened
pub just-opened : (options : TrialOptions) (items : List Item) (limit : ℕ) (s : State) (x : Receiver) (counts : Counts) → items ≡ items_of options → limit ≡ limit_of options.period
    → Stands s (opened items) → Hears x (begun options.period limit false) → IsDrained x → x.aligner.beats ≡ 0 → Counted options.seed options.count counts []
    → HasPassed options (taking options [] 0) s x counts
just-opened options items limit s x counts items-is limit-is stands hears drained none counted =
    nothing-passed options s x counts (subst (λ xs. Stands s (opened xs)) items-is stands)
    (nothing-heard options x counts (subst (λ n. Hears x (begun options.period n false)) limit-is hears) drained none counted)

module _ (options : TrialOptions) (beats : List (List ℕ)) (given : ℕ) (old new : State) (x : Receiver) (counts : Counts)
    (g : HasPassed options (taking options beats given) old x counts) where
  -- one more beat is taken
  pub takes-beat : (beat : List ℕ) → ((h : Impairing) → Stands old h → Stands new (after_take h beat))
      → HasPassed options (taking options (beats ++ beat ∷ []) given) new x counts
  takes-beat beat takes =
      let keeps = ready_stays (items_of options) beats beat (are-trial_items options) in
      let f : List (List ℕ) → ℕ → List ℕ = λ bs. beat_at (impaired (lanes_of bs) (items_of options)) in
      record {
        items = refl;
        stands = takes (taking options beats given) g.stands;
        come = λ b low. keeps.ready b (g.come b low);
        heard = subst (HasHeard options x counts)
            (sym (same_for_each given (f (beats ++ beat ∷ [])) (f beats) [] (λ b low. keeps.same b (g.come b low)))) g.heard;
      }

  -- the beats end
  pub ends-beats : ((h : Impairing) → Stands old h → Stands new (after_finish h)) → HasPassed options (after_finish (taking options beats given)) new x counts
  ends-beats finishes = record {
    items = refl;
    stands = finishes (taking options beats given) g.stands;
    come = λ b low.
        lt-ltb b (beat_count (lanes_of beats) (items_of options)) (below-count options beats b false (g.come b low));
    heard = g.heard;
  }

-- all beats were given and received
pub all-passed : (options : TrialOptions) (beats : List (List ℕ)) (given from : ℕ) (s : State) (x : Receiver) (counts : Counts)
    → HasPassed options (with_given (after_finish (taking options beats from)) given) s x counts
    → comes (after_finish (taking options beats from)) given ≡ false
    → Counted options.seed options.count counts (events_heard options (all_damaged options beats))
all-passed options beats given from s x counts g last =
    let count = beat_count (lanes_of beats) (items_of options) in
    let h = with_given (after_finish (taking options beats from)) given in
    let all : given ≡ count = omega (arith, given-within options h refl g.come, ltb-false given count last) in
    subst (λ n. Counted options.seed options.count counts (events_heard options (damaged_beats options beats n))) all g.heard.counted
