-- The capture of a trial is an image of what was sent.
use Rattle.std.proofs.Common.{◌≡◌, ℕ, ◌+◌, ◌-◌, ◌*◌, ◌%◌, ◌<◌, ◌≤◌, List, [], length, sym, ap, ◌∙◌, inl, inr, arith}
use Rattle.std.specs.Prelude.{slice_index_or, count_by}
use Rattle.std.proofs.lemmas.Nat.{mod_below}
use Rattle.std.proofs.Math.Nat.{mod-eq_of_lt}
use Rattle.std.proofs.lemmas.Bool.{cases_lt}
use Rattle.bit_lists.specs.Bits.{bit, bit_of, IsBits}
use Rattle.bit_lists.specs.Places.{for_each}
use Rattle.bit_lists.proofs.ByPlaces.{length-for_each, at-for_each, by_places}
use Rattle.pcs_bits.specs.Captures.{Capture, lane}
use Rattle.pcs_send.specs.Lanes.{beats_of, lane_octets}
use Rattle.pcs_send.proofs.CarriedBeats.{has-beats_of}
use Rattle.lane_impair.specs.declared.item.Item.{Item}
use Rattle.lane_impair.specs.Noise.{word}
use Rattle.lane_impair.specs.Impairments.{source, beat_count, impaired, inverts}
use Rattle.lane_impair.specs.Impairments as items
use Rattle.lane_impair.specs.Laws.{MovesLanes}
use Rattle.lane_impair.proofs.MovedLanes.{lanes_move}
use Rattle.lane_impair.proofs.Least.{above_greatest}
use Rattle.pcs_receive.specs.Images.{IsImage, skew_of}
use Rattle.impaired_image.specs.ImpairedImage.{AreLanes, HasImpaired, ImageOfItems}
use Rattle.impaired_image.proofs.ImpairedImage.{impaired_is_an_image, lanes-carried}
use Rattle.trial_laws.specs.Damage.{skew_word, trial_items, strikes, damaged}
use Rattle.trial_laws.specs.Trial.{next_seed, limit_of, trial_columns, trial_pairs, trial_lanes, received_lanes, trial_capture}
use Rattle.trial_laws.specs.Laws.{trial_image, TrialIsAnImage}
use Rattle.trial_laws.proofs.TrialOrder.{keeps-all, skew-of_trial, are-items, no-drops}

-- ---- damaged lanes
module _ (seed first : ℕ) (lanes : List (List ℕ)) where
  abbrev line : ℕ → List ℕ
  line l = slice_index_or lanes l []

  abbrev hit : ℕ → ℕ → ℕ
  hit l n = (bit (line l) n + bit_of (strikes seed first l n)) % 2

  damaged-lane : (l : ℕ) → l < 16 → slice_index_or (damaged seed first lanes) l [] ≡ for_each (length (line l)) (hit l)
  unfolding damaged
  damaged-lane l low = at-for_each 16 (λ l. for_each (length (line l)) (hit l)) l [] low

  damaged-lanes : (n : ℕ) → AreLanes lanes n → AreLanes (damaged seed first lanes) n
  unfolding damaged
  damaged-lanes n are = record {
    sixteen = length-for_each 16 (λ l. for_each (length (line l)) (hit l));
    each = λ l low. ap length (damaged-lane l low) ∙ length-for_each (length (line l)) (hit l) ∙ are.each l low;
  }

  pub bit-damaged : (l m : ℕ) → l < 16 → m < length (line l) → bit (slice_index_or (damaged seed first lanes) l []) m ≡ hit l m
  bit-damaged l m low small = ap (λ bits. bit bits m) (damaged-lane l low) ∙ at-for_each (length (line l)) (hit l) m 0 small

-- ---- lanes of impaired lanes
below_2 : (n : ℕ) → n % 2 < 2
below_2 n = mod_below n 2 (omega arith)

module _ (lanes : List (List ℕ)) (its : List Item) (moves : MovesLanes lanes its) where
  abbrev out : ℕ → List ℕ
  out l = slice_index_or (impaired lanes its) (l % 16) []

  out-bits : (l : ℕ) → IsBits (out l)
  out-bits l k =
      let low : l % 16 < 16 = mod_below l 16 (omega arith) in
      let u = source its (l % 16) in
      let skew = items.skew_of its u in
      elim (cases_lt k skew) [
        | inl before ↦ omega (arith, moves.before (l % 16) k low before)
        | inr from ↦ elim (cases_lt (k - skew) (length (slice_index_or lanes u []))) [
          | inl there ↦
              let place : k ≡ k - skew + skew = omega (arith, from) in
              omega (
                arith,
                moves.carried (l % 16) (k - skew) k low place there,
                below_2 (bit (slice_index_or lanes u []) (k - skew) + count_by (inverts u (k - skew)) its),
              )
          | inr behind ↦ omega (arith, moves.behind (l % 16) k low (omega (arith, from, behind)))
        ]
      ]

  all-out : for_each 16 out ≡ impaired lanes its
  unfolding impaired
  all-out =
      sym (by_places 16 out (impaired lanes its) [] (length-for_each 16 _) (λ k low.
      ap (λ l. slice_index_or (impaired lanes its) l []) (sym (mod-eq_of_lt low))))

  -- the lanes of their beats are these lanes
  pub lanes-back : (p l : ℕ) → l < 16 → lane (record { period = p; beats = beats_of (impaired lanes its) }) l ≡ slice_index_or (impaired lanes its) l []
  unfolding lane_octets
  lanes-back p l low =
      let has = has-beats_of out (beat_count lanes its)
      (λ l. moves.size (l % 16) (mod_below l 16 (omega arith)) ∙ omega arith) out-bits in
      ap (λ xs. lane (record { period = p; beats = beats_of xs }) l) (sym all-out)
      ∙ sym (has.each l low) ∙ ap (λ k. slice_index_or (impaired lanes its) k []) (mod-eq_of_lt low)

-- ---- the capture of a trial
module _ (seed count p : ℕ) (some : 1 ≤ p) where
  abbrev c : Capture
  c = trial_capture seed count p

  abbrev sent : List (List ℕ)
  sent = trial_lanes seed count p

  abbrev its : List Item
  its = trial_items (next_seed seed) (limit_of p)

  abbrev hits : List (List ℕ)
  hits = damaged (next_seed seed) (2 * p) sent

  abbrev size : ℕ
  size = 680 * trial_pairs seed count p

  abbrev skew : ℕ → ℕ
  skew = skew_word (next_seed seed) (limit_of p)

  pub sent-lanes : AreLanes sent size
  sent-lanes = lanes-carried p (trial_columns seed count p)

  pub hit-lanes : AreLanes hits size
  hit-lanes = damaged-lanes (next_seed seed) (2 * p) sent size sent-lanes

  pub moves : MovesLanes hits its
  moves = lanes_move hits its (are-items (next_seed seed) (limit_of p) (omega arith)) (no-drops (next_seed seed) (limit_of p))

  pub has-impaired : HasImpaired c hits its
  unfolding trial_capture received_lanes
  has-impaired l low = lanes-back hits its moves p l low

  pub image : ImageOfItems c hits its size
  image = impaired_is_an_image c hits its size hit-lanes (keeps-all (next_seed seed) (limit_of p)) has-impaired

  -- its end is told by the length of the lanes, which the damage leaves
  stands : IsImage c sent (trial_image seed p)
  stands =
      let is = image.stands in
      record {
        sixteen = is.sixteen;
        in_range = is.in_range;
        apart = is.apart;
        ends = omega (arith, is.ends, hit-lanes.each 0 (omega arith), sent-lanes.each 0 (omega arith));
      }

  within : skew_of (trial_image seed p) ≤ limit_of p
  within =
      let most = above_greatest (items.skew_of its) (limit_of p) (λ l low.
      omega (arith, skew-of_trial (next_seed seed) (limit_of p) l low, mod_below (word (15 + l) (next_seed seed)) (limit_of p + 1) (omega arith))) in
      omega (arith, image.skew, most)

pub trial_is_an_image : TrialIsAnImage
trial_is_an_image seed count p some = record { stands = stands seed count p some; within = within seed count p some; limit = omega (arith, some) }
