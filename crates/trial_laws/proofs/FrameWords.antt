-- The words of a trial, one after the other.
use Rattle.std.proofs.Common.{◌≡◌, ℕ, ◌+◌, ◌*◌, ◌%◌, ◌<◌, ◌≤◌, List, [], ◌++◌, take, refl, sym, ◌∙◌, ap, ap₂, arith, add-one, append-nil}
use Rattle.std.specs.Int.{to_le_bytes, w64, div_ceil}
use Rattle.std.proofs.lemmas.List.{take-take}
use Rattle.bit_lists.specs.Places.{joined}
use Rattle.bit_lists.proofs.Lists.{joined-more}
use Rattle.rand_xoshiro.specs.SplitMix64.{next_state}
use Rattle.lane_impair.specs.Noise.{state_after, word}
use Rattle.lane_impair.proofs.Least.{ceil_least, ceil_holds}
use Rattle.trial_laws.specs.TrialFrames.{length_of, words_of, frame_of}

pub first_state : (seed : ℕ) → state_after 0 seed ≡ seed
unfolding state_after
first_state seed = refl

pub next_word_state : (n seed : ℕ) → next_state (state_after n seed) ≡ state_after (n + 1) seed
unfolding state_after
next_word_state n seed = ap (λ k. state_after k seed) (sym (add-one n))

-- the words of a frame, of eight octets each
abbrev pub frame_words : ℕ → ℕ → List ℕ
frame_words state k = to_le_bytes w64 (word (k + 1) state)

pub one-word : (state k : ℕ) → joined (k + 1) (frame_words state) ≡ joined k (frame_words state) ++ frame_words state k
one-word state k = joined-more (frame_words state) k 1 ∙ ap (λ o. joined k (frame_words state) ++ o) (append-nil (frame_words state k))

pub no-words : (seed : ℕ) → [] ≡ joined 0 (frame_words seed)
unfolding joined
no-words seed = refl

pub first-next : (seed : ℕ) → next_state seed ≡ state_after 1 seed
unfolding state_after
first-next seed = refl

pub size-first : (seed w : ℕ) → w ≡ word 0 seed → 64 + w % 1024 ≡ length_of seed
unfolding length_of
size-first seed w is = ap (λ n. 64 + n % 1024) is

-- the words of the longest frame
pub ceil-room : (w k : ℕ) → k < div_ceil (64 + w % 1024) 8 → 8 * k + 8 ≤ 1088
ceil-room w k low =
    let most = ceil_least (64 + w % 1024) 136 (omega arith) in
    omega (arith, most, low)

-- a frame is cut from its words
pub made-frame : (seed k size : ℕ) (octets : List ℕ) → k ≡ words_of seed → size ≡ length_of seed → take (8 * k) octets ≡ joined k (frame_words seed)
    → take size octets ≡ frame_of seed
unfolding frame_of
made-frame seed k size octets all is same =
    let short : length_of seed ≤ 8 * words_of seed = ceil_holds (length_of seed) in
    sym (take-take size (8 * k) octets (omega (arith, short, all, is))) ∙ ap (take size) same
    ∙ ap₂ (λ n m. take n (joined m (frame_words seed))) is all
