-- What is counted of the events of a receiver, beside the frames that were made.
use Rattle.std.specs.Prelude.{◌≡◌, ℕ, Bool, true, false, ◌&&◌, List, [], ◌∷◌, length, drop, filter_map, sum_by, bytes_eq}
use Rattle.pcs_receive.specs.Events.{Event, frame_of_event}
use Rattle.trial_laws.specs.Trial.{corrected_of, made_frames}
use Rattle.trial_laws.specs.declared.counts.Counts.{Counts}

-- the frames given are a front of those made
abbrev pub are_front : List (List ℕ) → List (List ℕ) → Bool
are_front [] frames = true
are_front (given ∷ back) [] = false
are_front (given ∷ back) (made ∷ frames) = bytes_eq given made && are_front back frames

-- the frames among events
abbrev pub given_frames : List Event → List (List ℕ)
given_frames es = filter_map frame_of_event es

-- These are the numbers of some events, and the frames that are still to be made are those behind the ones that were compared.
pub record Counted (seed count : ℕ) (x : Counts) (es : List Event) : Type 0 where
  pub corrected : x.corrected ≡ sum_by corrected_of es
  pub back : x.back ≡ length (given_frames es)
  pub equal : x.equal ≡ are_front (given_frames es) (made_frames seed count)
  pub rest : made_frames x.made.state x.left ≡ drop (length (given_frames es)) (made_frames seed count)

-- the frame is the first of those still to be made
abbrev pub is_next : List ℕ → List (List ℕ) → Bool
is_next given [] = false
is_next given (made ∷ frames) = bytes_eq given made

-- a frame was compared with the first of those still to be made
pub record Compares (old new : Counts) (given : List ℕ) (result : Bool) : Type 0 where
  pub answer : result ≡ is_next given (made_frames old.made.state old.left)
  pub rest : made_frames new.made.state new.left ≡ drop 1 (made_frames old.made.state old.left)
  pub same : (new.corrected ≡ old.corrected) × (new.back ≡ old.back) × (new.equal ≡ old.equal)
