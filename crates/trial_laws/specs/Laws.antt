-- What is known of each trial.
--     TrialGapsAreLegal        the gaps of the frames are legal for every period
--     TrialOpens               an impairer can be opened with the items of the damage
--     TrialIsAnImage           the capture is an image of what was sent, with a skew within the limit
--     TrialWrongSymbols        fifteen symbols of each codeword are wrong in each pair behind the lead, and none before
--     TrialLocksTruly          the capture locks truly from its begin on
--     TrialComesBack           where the capture locks truly, all frames come back, and each wrong symbol is told as corrected
--     SameFrames               what is asked of the frames given
--     TrialTells               the summary of each trial, without a capture
use Rattle.std.specs.Prelude.{◌≡◌, ◌↔◌, ℕ, ◌-◌, ◌*◌, ◌<◌, ◌≤◌, true, List, length, sum_by}
use Rattle.pcs_receive.specs.Images.{Image, IsImage, skew_of, HasTrueLock, wrong_a, wrong_b}
use Rattle.pcs_receive.specs.Events.{good}
use Rattle.rate_match.specs.Kept.{HasLegalGaps}
use Rattle.lane_impair.specs.Items.{AreItems, most_bits}
use Rattle.impaired_image.specs.ImpairedImage.{image_of}
use Rattle.trial_laws.specs.Damage.{trial_items}
use Rattle.trial_laws.specs.Trial.{next_seed, limit_of, made_columns, made_frames, trial_pairs, trial_lanes, trial_capture, trial_summary, are_same}

abbrev pub TrialGapsAreLegal : Type 0
TrialGapsAreLegal = (seed count p : ℕ) → 1 ≤ p → HasLegalGaps p (made_columns seed count)

-- an impairer can be opened with the items
abbrev pub TrialOpens : Type 0
TrialOpens = (seed limit : ℕ) → limit ≤ most_bits → AreItems (trial_items seed limit)

-- the order of the trial, and for each lane its skew with the opposite sign
abbrev pub trial_image : ℕ → ℕ → Image
trial_image seed p = image_of (trial_items (next_seed seed) (limit_of p))

pub record IsTrialImage (seed count p : ℕ) : Type 0 where
  pub stands : IsImage (trial_capture seed count p) (trial_lanes seed count p) (trial_image seed p)
  pub within : skew_of (trial_image seed p) ≤ limit_of p
  pub limit : 2 * limit_of p < 680 * p

abbrev pub TrialIsAnImage : Type 0
TrialIsAnImage = (seed count p : ℕ) → 1 ≤ p → IsTrialImage seed count p

-- the wrong symbols of both codewords of a pair
abbrev pub HasWrong : ℕ → ℕ → ℕ → ℕ → ℕ → Type 0
HasWrong seed count p t wrong =
    let c = trial_capture seed count p in
    let lanes = trial_lanes seed count p in
    (wrong_a c lanes (trial_image seed p) t ≡ wrong) × (wrong_b c lanes (trial_image seed p) t ≡ wrong)

pub record HasWrongSymbols (seed count p : ℕ) : Type 0 where
  pub lead : (t : ℕ) → t < 2 * p → t < trial_pairs seed count p → HasWrong seed count p t 0
  pub behind : (t : ℕ) → 2 * p ≤ t → t < trial_pairs seed count p → HasWrong seed count p t 15

abbrev pub TrialWrongSymbols : Type 0
TrialWrongSymbols = (seed count p : ℕ) → 1 ≤ p → HasWrongSymbols seed count p

abbrev pub TrialLocksTruly : Type 0
TrialLocksTruly =
    (seed count p : ℕ) → 1 ≤ p → HasTrueLock (trial_capture seed count p) (trial_lanes seed count p) (trial_image seed p) 0

-- the frames given are those made, all of them, in order, and thirty symbols are corrected for each pair behind the lead
pub record ComesBack (seed count p : ℕ) : Type 0 where
  pub frames : good (trial_capture seed count p) (limit_of p) ≡ made_frames seed count
  pub equal : (trial_summary seed count p).equal ≡ true
  pub back : (trial_summary seed count p).back ≡ count
  pub corrected : (trial_summary seed count p).corrected ≡ 30 * (trial_pairs seed count p - 2 * p)

abbrev pub TrialComesBack : Type 0
TrialComesBack =
    (seed count p : ℕ) → 1 ≤ p → HasTrueLock (trial_capture seed count p) (trial_lanes seed count p) (trial_image seed p) 0
    → ComesBack seed count p

-- so the summary of each trial is this
abbrev pub TrialTells : Type 0
TrialTells =
    (seed count p : ℕ) → 1 ≤ p
    → trial_summary seed count p
    ≡ record {
      frames = count;
      octets = sum_by length (made_frames seed count);
      columns = length (made_columns seed count);
      pairs = trial_pairs seed count p;
      corrected = 30 * (trial_pairs seed count p - 2 * p);
      back = count;
      equal = true;
    }

-- frames that are found to be the same are the same
abbrev pub SameFrames : Type 0
SameFrames = (back frames : List (List ℕ)) → (are_same back frames ≡ true) ↔ (back ≡ frames)
