-- The frames of a trial are frames: octets, and no more than a frame may have.
use Rattle.std.proofs.Common.{◌≡◌, ℕ, zero, suc, ◌+◌, ◌-◌, ◌++◌, List, length, refl, sym, ap, ◌∙◌, inl, inr, arith, subst}
use Rattle.std.specs.Int.{to_le_bytes, w64}
use Rattle.std.proofs.lemmas.Bool.{cases_lt}
use Rattle.std.proofs.lemmas.List.{get_or_append_left, get_or-append_right}
use Rattle.bit_lists.specs.Places.{joined}
use Rattle.block66.specs.Blocks.{AreOctets}
use Rattle.block66.proofs.Octets.{no-octets, take-octets, number-eight}
use Rattle.std.specs.List.{AllByRecursion}
use Rattle.pcs_send.specs.SentFrames.{CanBeSent}
use Rattle.pcs_send.proofs.Carrying.{joined-none, joined-next}
use Rattle.lane_impair.specs.Noise.{word}
use Rattle.trial_laws.specs.TrialFrames.{length_of, words_of, frame_of, behind_frame, trial_frames}
use Rattle.trial_laws.proofs.LegalGaps.{length-frame_of, length_of-most}

append-octets : (xs ys : List ℕ) → AreOctets xs → AreOctets ys → AreOctets (xs ++ ys)
append-octets xs ys first second i = elim (cases_lt i (length xs)) [
  | inl low ↦ omega (arith, get_or_append_left xs ys 0 i low, first i)
  | inr high ↦ omega (arith, get_or-append_right xs ys (length xs) i 0 refl high, second (i - length xs))
]

joined-octets : (n : ℕ) (f : ℕ → List ℕ) → ((k : ℕ) → AreOctets (f k)) → AreOctets (joined n f)
joined-octets zero f each = subst AreOctets (sym (joined-none f)) no-octets
joined-octets (suc n) f each =
    let one : suc n ≡ n + 1 = omega arith in
    subst AreOctets (sym (ap (λ k. joined k f) one ∙ joined-next f n)) (append-octets (joined n f) (f n) (joined-octets n f each) (each n))

frame-octets : (state : ℕ) → AreOctets (frame_of state)
unfolding frame_of
frame-octets state =
    take-octets (length_of state) (joined (words_of state) (λ k. to_le_bytes w64 (word (k + 1) state)))
    (joined-octets (words_of state) (λ k. to_le_bytes w64 (word (k + 1) state)) (λ k. (number-eight (word (k + 1) state)).1))

pub are-frames : (state count : ℕ) → AllByRecursion CanBeSent (trial_frames state count)
unfolding trial_frames
are-frames state zero = tt
are-frames state (suc count) = ((frame-octets state, omega (arith, length-frame_of state, length_of-most state)), are-frames (behind_frame state) count)
