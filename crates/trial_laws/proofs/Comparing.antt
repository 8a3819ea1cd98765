-- Frames that come are compared with those that are made.
use Rattle.std.proofs.Common.{◌≡◌, ℕ, zero, suc, ◌+◌, ◌&&◌, List, [], ◌∷◌, ◌++◌, length, drop, None, refl, sym, ◌∙◌, ap, ap₂, arith, append-nil}
use Rattle.std.proofs.Math.Bool.{and-true, and_assoc}
use Rattle.std.specs.Prelude.{nat_eq, sum_by, bytes_eq}
use Rattle.std.proofs.lemmas.Bool.{ne_eqb}
use Rattle.std.proofs.lemmas.List.Elements.{filter_map-append}
use Rattle.std.proofs.lemmas.List.Sums.{sum_by-append}
use Rattle.pcs_watch.specs.declared.Report.{Report}
use Rattle.pcs_receive.specs.Events.{Event, report, frame, frame_of_event}
use Rattle.trial_laws.specs.TrialFrames.{frame_of, behind_frame, trial_frames}
use Rattle.trial_laws.specs.Trial.{are_same, corrected_of, made_frames}
use Rattle.trial_laws.specs.Counting.{are_front, given_frames, is_next, Counted}
use Rattle.trial_laws.specs.declared.counts.Counts.{Counts}

pub next-made : (state n : ℕ) → made_frames state (suc n) ≡ frame_of state ∷ made_frames (behind_frame state) n
unfolding trial_frames
next-made state n = refl

pub none-made : (state : ℕ) → made_frames state 0 ≡ []
unfolding trial_frames
none-made state = refl

pub length-made : (state n : ℕ) → length (made_frames state n) ≡ n
length-made state zero = ap length (none-made state)
length-made state (suc n) = ap length (next-made state n) ∙ ap suc (length-made (behind_frame state) n)

-- one frame more
pub one-frame : (back made : List (List ℕ)) (given : List ℕ)
    → are_front (back ++ given ∷ []) made ≡ (are_front back made && is_next given (drop (length back) made))
one-frame [] [] given = refl
one-frame [] (m ∷ made) given = and-true (bytes_eq given m)
one-frame (b ∷ back) [] given = refl
one-frame (b ∷ back) (m ∷ made) given =
    ap (λ t. bytes_eq b m && t) (one-frame back made given) ∙ sym (and_assoc (bytes_eq b m) (are_front back made) (is_next given (drop (length back) made)))

-- a front of all is all where none is left
pub all-same : (back made : List (List ℕ)) → are_same back made ≡ (are_front back made && nat_eq (length (drop (length back) made)) 0)
all-same [] [] = refl
all-same [] (m ∷ made) = sym (ne_eqb (suc (length made)) 0 (λ none. omega (arith, none)))
all-same (b ∷ back) [] = refl
all-same (b ∷ back) (m ∷ made) =
    ap (λ t. bytes_eq b m && t) (all-same back made) ∙ sym (and_assoc (bytes_eq b m) (are_front back made) (nat_eq (length (drop (length back) made)) 0))

pub more-corrected : (es : List Event) (e : Event) → sum_by corrected_of (es ++ e ∷ []) ≡ sum_by corrected_of es + corrected_of e
more-corrected es e = sum_by-append corrected_of es (e ∷ []) ∙ ap (λ n. sum_by corrected_of es + n) (omega arith)

pub same-given : (es : List Event) (r : Report) → given_frames (es ++ report r ∷ []) ≡ given_frames es
same-given es r = filter_map-append frame_of_event es (report r ∷ []) ∙ append-nil (given_frames es)

-- the answer to whether all frames are the same
pub equal-is : (seed count : ℕ) (x : Counts) (es : List Event) → Counted seed count x es
    → are_same (given_frames es) (made_frames seed count) ≡ (x.equal && nat_eq x.left 0)
equal-is seed count x es k =
    all-same (given_frames es) (made_frames seed count)
    ∙ ap₂ (λ a n. a && nat_eq n 0) (sym k.equal) (ap length (sym k.rest) ∙ length-made x.made.state x.left)

pub more-given : (es : List Event) (f : List ℕ) → given_frames (es ++ frame f ∷ []) ≡ given_frames es ++ f ∷ []
more-given es f = filter_map-append frame_of_event es (frame f ∷ [])

-- an event that is neither a report nor a frame changes no number
pub other-counted : (seed count : ℕ) (x : Counts) (es : List Event) (e : Event) → corrected_of e ≡ 0 → frame_of_event e ≡ None
    → Counted seed count x es → Counted seed count x (es ++ e ∷ [])
other-counted seed count x es e nothing none k =
    let same : given_frames es ≡ given_frames (es ++ e ∷ []) =
    sym (filter_map-append frame_of_event es (e ∷ []) ∙ ap (λ t. given_frames es ++ t) (left-out e none) ∙ append-nil (given_frames es)) in
    record {
      corrected = omega (arith, k.corrected, more-corrected es e, nothing);
      back = k.back ∙ ap length same;
      equal = k.equal ∙ ap (λ back. are_front back (made_frames seed count)) same;
      rest = k.rest ∙ ap (λ back. drop (length back) (made_frames seed count)) same;
    }
  where
    left-out : (e : Event) → frame_of_event e ≡ None → given_frames (e ∷ []) ≡ []
    left-out e none = rw none refl
