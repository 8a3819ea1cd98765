-- The last fifteen beats.
use Rattle.std.proofs.Common.{◌≡◌, ℕ, zero, suc, ◌+◌, ◌-◌, ◌≤◌, List, [], ◌∷◌, ◌++◌, length, drop, get_or, replicate, refl, sym, ap, ◌∙◌, arith, length-append}
use Rattle.std.proofs.lemmas.List.{drop_all}
use Rattle.circular_buffer.specs.Buffer.{keep_last}
use Rattle.lane_deskew.specs.Lanes.{column, silence, last_beats}

get_or-replicate-any : (n l : ℕ) → get_or (replicate {A = ℕ} n 0) l 0 ≡ zero
get_or-replicate-any zero l = refl
get_or-replicate-any (suc n) zero = refl
get_or-replicate-any (suc n) (suc l) = get_or-replicate-any n l

shift_fifteen : {X : Type 0} (d : X) (xs : List X) (y : X) → length xs ≡ 15
    → get_or xs 1 d ∷ get_or xs 2 d ∷ get_or xs 3 d ∷ get_or xs 4 d ∷ get_or xs 5 d ∷ get_or xs 6 d ∷ get_or xs 7 d ∷ get_or xs 8 d ∷ get_or xs 9 d ∷ get_or xs 10 d ∷ get_or xs 11 d ∷ get_or xs 12 d ∷ get_or xs 13 d ∷ get_or xs 14 d ∷ y ∷ [] ≡ drop 1 (xs ++ y ∷ [])
shift_fifteen d (a0 ∷ a1 ∷ a2 ∷ a3 ∷ a4 ∷ a5 ∷ a6 ∷ a7 ∷ a8 ∷ a9 ∷ a10 ∷ a11 ∷ a12 ∷ a13 ∷ a14 ∷ []) y size = refl
shift_fifteen d ([]) y size = absurd (omega arith)
shift_fifteen d (a0 ∷ []) y size = absurd (omega arith)
shift_fifteen d (a0 ∷ a1 ∷ []) y size = absurd (omega arith)
shift_fifteen d (a0 ∷ a1 ∷ a2 ∷ []) y size = absurd (omega arith)
shift_fifteen d (a0 ∷ a1 ∷ a2 ∷ a3 ∷ []) y size = absurd (omega arith)
shift_fifteen d (a0 ∷ a1 ∷ a2 ∷ a3 ∷ a4 ∷ []) y size = absurd (omega arith)
shift_fifteen d (a0 ∷ a1 ∷ a2 ∷ a3 ∷ a4 ∷ a5 ∷ []) y size = absurd (omega arith)
shift_fifteen d (a0 ∷ a1 ∷ a2 ∷ a3 ∷ a4 ∷ a5 ∷ a6 ∷ []) y size = absurd (omega arith)
shift_fifteen d (a0 ∷ a1 ∷ a2 ∷ a3 ∷ a4 ∷ a5 ∷ a6 ∷ a7 ∷ []) y size = absurd (omega arith)
shift_fifteen d (a0 ∷ a1 ∷ a2 ∷ a3 ∷ a4 ∷ a5 ∷ a6 ∷ a7 ∷ a8 ∷ []) y size = absurd (omega arith)
shift_fifteen d (a0 ∷ a1 ∷ a2 ∷ a3 ∷ a4 ∷ a5 ∷ a6 ∷ a7 ∷ a8 ∷ a9 ∷ []) y size = absurd (omega arith)
shift_fifteen d (a0 ∷ a1 ∷ a2 ∷ a3 ∷ a4 ∷ a5 ∷ a6 ∷ a7 ∷ a8 ∷ a9 ∷ a10 ∷ []) y size = absurd (omega arith)
shift_fifteen d (a0 ∷ a1 ∷ a2 ∷ a3 ∷ a4 ∷ a5 ∷ a6 ∷ a7 ∷ a8 ∷ a9 ∷ a10 ∷ a11 ∷ []) y size = absurd (omega arith)
shift_fifteen d (a0 ∷ a1 ∷ a2 ∷ a3 ∷ a4 ∷ a5 ∷ a6 ∷ a7 ∷ a8 ∷ a9 ∷ a10 ∷ a11 ∷ a12 ∷ []) y size = absurd (omega arith)
shift_fifteen d (a0 ∷ a1 ∷ a2 ∷ a3 ∷ a4 ∷ a5 ∷ a6 ∷ a7 ∷ a8 ∷ a9 ∷ a10 ∷ a11 ∷ a12 ∷ a13 ∷ []) y size = absurd (omega arith)
shift_fifteen d (a0 ∷ a1 ∷ a2 ∷ a3 ∷ a4 ∷ a5 ∷ a6 ∷ a7 ∷ a8 ∷ a9 ∷ a10 ∷ a11 ∷ a12 ∷ a13 ∷ a14 ∷ more ∷ rest) y size = absurd (omega arith)

-- a beat more
pub shifted_beats : (d : List ℕ) (xs : List (List ℕ)) (y : List ℕ) → length xs ≡ 15
    → get_or xs 1 d ∷ get_or xs 2 d ∷ get_or xs 3 d ∷ get_or xs 4 d ∷ get_or xs 5 d ∷ get_or xs 6 d ∷ get_or xs 7 d ∷ get_or xs 8 d ∷ get_or xs 9 d ∷ get_or xs 10 d ∷ get_or xs 11 d ∷ get_or xs 12 d ∷ get_or xs 13 d ∷ get_or xs 14 d ∷ y ∷ [] ≡ keep_last 15 (xs ++ y ∷ [])
shifted_beats d xs y size =
    let one : 1 ≡ length (xs ++ y ∷ []) - 15 = let more : length (xs ++ y ∷ []) ≡ length xs + 1 = length-append xs (y ∷ []) in omega arith in
    shift_fifteen d xs y size ∙ ap (λ n. drop n (xs ++ y ∷ [])) one

-- before the first beat
pub last_beats-none : (beats : List (List ℕ)) (s : ℕ) → length beats ≤ s → silence ≡ last_beats (drop s beats)
last_beats-none beats s past = ap last_beats (sym (drop_all s beats past))

-- the octets of a lane in silence
pub silent : (l : ℕ) → column l silence ≡ replicate 15 0
silent l = ap (λ n. replicate 15 n) (get_or-replicate-any 16 l)
