-- Streams by turns, their Gray numbers, precoding and back.
use Rattle.std.proofs.Common.{◌≡◌, ℕ, zero, suc, ◌+◌, ◌-◌, ◌*◌, ◌%◌, ◌<◌, Bool, true, false, List, [], ◌∷◌, ◌++◌, length, get_or, refl, sym, ap, ap₂, ◌∙◌, arith}
use Rattle.bit_lists.specs.Bits.{IsBits}
use Rattle.pma_link.specs.Levels.{by_turns, gray_of, first_of, second_of, gray_numbers, bits_of_grays, IsPrecoded, precoded, decoded, last_of, coded, uncoded}

-- ---- by turns
pub length-by_turns : (xs ys : List ℕ) → length xs ≡ length ys → length (by_turns xs ys) ≡ 2 * length xs
unfolding by_turns
length-by_turns [] ys e = refl
length-by_turns (x ∷ xs) [] e = absurd (omega (arith, e))
length-by_turns (x ∷ xs) (y ∷ ys) e = omega (arith, length-by_turns xs ys (omega (arith, e)))

pub first-by_turns : (xs ys : List ℕ) (n : ℕ) → length xs ≡ length ys → get_or (by_turns xs ys) (2 * n) 0 ≡ get_or xs n 0
unfolding by_turns
first-by_turns [] ys n e = refl
first-by_turns (x ∷ xs) [] n e = absurd (omega (arith, e))
first-by_turns (x ∷ xs) (y ∷ ys) zero e = refl
first-by_turns (x ∷ xs) (y ∷ ys) (suc n) e =
    let place : 2 * suc n ≡ suc (suc (2 * n)) = omega arith in
    ap (λ k. get_or (x ∷ y ∷ by_turns xs ys) k 0) place ∙ first-by_turns xs ys n (omega (arith, e))

pub second-by_turns : (xs ys : List ℕ) (n : ℕ) → length xs ≡ length ys → get_or (by_turns xs ys) (2 * n + 1) 0 ≡ get_or ys n 0
unfolding by_turns
second-by_turns [] [] n e = refl
second-by_turns [] (y ∷ ys) n e = absurd (omega (arith, e))
second-by_turns (x ∷ xs) [] n e = absurd (omega (arith, e))
second-by_turns (x ∷ xs) (y ∷ ys) zero e = refl
second-by_turns (x ∷ xs) (y ∷ ys) (suc n) e =
    let place : 2 * suc n + 1 ≡ suc (suc (2 * n + 1)) = omega arith in
    ap (λ k. get_or (x ∷ y ∷ by_turns xs ys) k 0) place ∙ second-by_turns xs ys n (omega (arith, e))

pub by_turns-append : (xs ys xs' ys' : List ℕ) → length xs ≡ length ys → by_turns (xs ++ xs') (ys ++ ys') ≡ by_turns xs ys ++ by_turns xs' ys'
unfolding by_turns
by_turns-append [] [] xs' ys' e = refl
by_turns-append [] (y ∷ ys) xs' ys' e = absurd (omega (arith, e))
by_turns-append (x ∷ xs) [] xs' ys' e = absurd (omega (arith, e))
by_turns-append (x ∷ xs) (y ∷ ys) xs' ys' e = ap (λ zs. x ∷ y ∷ zs) (by_turns-append xs ys xs' ys' (omega (arith, e)))

-- ---- Gray numbers
pub gray_numbers-append : (xs ys rest : List ℕ) → length xs ≡ length ys
    → gray_numbers (by_turns xs ys ++ rest) ≡ gray_numbers (by_turns xs ys) ++ gray_numbers rest
unfolding by_turns gray_numbers
gray_numbers-append [] ys rest e = refl
gray_numbers-append (x ∷ xs) [] rest e = absurd (omega (arith, e))
gray_numbers-append (x ∷ xs) (y ∷ ys) rest e = ap (λ gs. gray_of x y ∷ gs) (gray_numbers-append xs ys rest (omega (arith, e)))

pub bits_of_grays-append : (gs hs : List ℕ) → bits_of_grays (gs ++ hs) ≡ bits_of_grays gs ++ bits_of_grays hs
unfolding bits_of_grays
bits_of_grays-append [] hs = refl
bits_of_grays-append (g ∷ gs) hs = ap (λ bs. first_of g ∷ second_of g ∷ bs) (bits_of_grays-append gs hs)

two_back : (a b : ℕ) → a < 2 → b < 2 → (first_of (gray_of a b) ≡ a) × (second_of (gray_of a b) ≡ b)
two_back zero zero ha hb = (refl, refl)
two_back zero (suc zero) ha hb = (refl, refl)
two_back (suc zero) zero ha hb = (refl, refl)
two_back (suc zero) (suc zero) ha hb = (refl, refl)
two_back (suc (suc a)) b ha hb = absurd (omega arith)
two_back zero (suc (suc b)) ha hb = absurd (omega arith)
two_back (suc zero) (suc (suc b)) ha hb = absurd (omega arith)

pub stream_back : (xs ys : List ℕ) → length xs ≡ length ys → IsBits xs → IsBits ys → bits_of_grays (gray_numbers (by_turns xs ys)) ≡ by_turns xs ys
unfolding by_turns gray_numbers bits_of_grays
stream_back [] ys e hx hy = refl
stream_back (x ∷ xs) [] e hx hy = absurd (omega (arith, e))
stream_back (x ∷ xs) (y ∷ ys) e hx hy =
    let back = two_back x y (hx 0) (hy 0) in
    let rest = stream_back xs ys (omega (arith, e)) (λ k. hx (suc k)) (λ k. hy (suc k)) in
    rw (back.0, back.1, rest) refl

four_items : (n : ℕ) → get_or (0 ∷ 1 ∷ 3 ∷ 2 ∷ []) n 0 < 4
four_items zero = omega arith
four_items (suc zero) = omega arith
four_items (suc (suc zero)) = omega arith
four_items (suc (suc (suc zero))) = omega arith
four_items (suc (suc (suc (suc n)))) = omega arith

small_gray : (a b : ℕ) → gray_of a b < 4
small_gray a b = four_items (2 * a + b)

pub small_grays : (bits : List ℕ) (k : ℕ) → get_or (gray_numbers bits) k 0 < 4
unfolding gray_numbers
small_grays [] k = omega arith
small_grays (a ∷ []) k = omega arith
small_grays (a ∷ b ∷ bits) zero = small_gray a b
small_grays (a ∷ b ∷ bits) (suc k) = small_grays bits k

-- ---- precoding
pub precoded-append : (b : ℕ) (gs hs : List ℕ) → precoded b (gs ++ hs) ≡ precoded b gs ++ precoded (last_of b (precoded b gs)) hs
unfolding precoded
precoded-append b [] hs = refl
precoded-append b (g ∷ gs) hs = ap (λ ps. (g + 4 - b) % 4 ∷ ps) (precoded-append ((g + 4 - b) % 4) gs hs)

pub decoded-append : (b : ℕ) (ps qs : List ℕ) → decoded b (ps ++ qs) ≡ decoded b ps ++ decoded (last_of b ps) qs
unfolding decoded
decoded-append b [] qs = refl
decoded-append b (p ∷ ps) qs = ap (λ gs. (p + b) % 4 ∷ gs) (decoded-append p ps qs)

pub last_of-append : (b : ℕ) (ps qs : List ℕ) → last_of b (ps ++ qs) ≡ last_of (last_of b ps) qs
last_of-append b [] qs = refl
last_of-append b (p ∷ ps) qs = last_of-append p ps qs

mod4_back : (g b : ℕ) → b < 4 → g < 4 → ((g + 4 - b) % 4 + b) % 4 ≡ g
mod4_back g b hb hg = omega arith

pub precoded-back : (b : ℕ) (gs : List ℕ) → b < 4 → ((k : ℕ) → get_or gs k 0 < 4) → decoded b (precoded b gs) ≡ gs
unfolding precoded decoded
precoded-back b [] hb small = refl
precoded-back b (g ∷ gs) hb small = ap₂ (λ x xs. x ∷ xs) (mod4_back g b hb (small 0)) (precoded-back ((g + 4 - b) % 4) gs (omega arith) (λ k. small (suc k)))

pub length-precoded : (b : ℕ) (gs : List ℕ) → length (precoded b gs) ≡ length gs
unfolding precoded
length-precoded b [] = refl
length-precoded b (g ∷ gs) = ap suc (length-precoded ((g + 4 - b) % 4) gs)

pub length-decoded : (b : ℕ) (ps : List ℕ) → length (decoded b ps) ≡ length ps
unfolding decoded
length-decoded b [] = refl
length-decoded b (p ∷ ps) = ap suc (length-decoded p ps)

pub at-decoded : (b : ℕ) (ps : List ℕ) (n : ℕ) → n < length ps → get_or (decoded b ps) n 0 ≡ (get_or ps n 0 + get_or (b ∷ ps) n 0) % 4
unfolding decoded
at-decoded b [] n low = absurd (omega arith)
at-decoded b (p ∷ ps) zero low = refl
at-decoded b (p ∷ ps) (suc n) low = at-decoded p ps n (omega arith)

pub small_precoded : (b : ℕ) (gs : List ℕ) (n : ℕ) → get_or (precoded b gs) n 0 < 4
unfolding precoded
small_precoded b [] n = omega arith
small_precoded b (g ∷ gs) zero = omega arith
small_precoded b (g ∷ gs) (suc n) = small_precoded ((g + 4 - b) % 4) gs n

pub is_precoded : (b : ℕ) (gs : List ℕ) → b < 4 → ((k : ℕ) → get_or gs k 0 < 4) → IsPrecoded b gs (precoded b gs)
is_precoded b gs hb small = record {
  same_length = length-precoded b gs;
  small = small_precoded b gs;
  each = λ n low. sym (at-decoded b (precoded b gs) n (omega (arith, low, length-precoded b gs)))
      ∙ ap (λ xs. get_or xs n 0) (precoded-back b gs hb small);
}

pub only_precoded : (b : ℕ) (gs ps : List ℕ) → b < 4 → IsPrecoded b gs ps → ps ≡ precoded b gs
unfolding precoded
only_precoded b [] [] hb is = refl
only_precoded b [] (p ∷ ps) hb is = absurd (omega (arith, is.same_length))
only_precoded b (g ∷ gs) [] hb is = absurd (omega (arith, is.same_length))
only_precoded b (g ∷ gs) (p ∷ ps) hb is =
    let sum : (p + b) % 4 ≡ g = is.each 0 (omega arith) in
    let small : p < 4 = is.small 0 in
    let first : p ≡ (g + 4 - b) % 4 = omega arith in
    let rest : ps ≡ precoded p gs = only_precoded p gs ps small (record {
      same_length = omega (arith, is.same_length);
      small = λ n. is.small (suc n);
      each = λ n low. is.each (suc n) (omega arith);
    }) in
    ap₂ (λ x xs. x ∷ xs) first (rest ∙ ap (λ q. precoded q gs) first)

-- ---- both ways
pub coded-back : (precode : Bool) (gs : List ℕ) → ((k : ℕ) → get_or gs k 0 < 4) → uncoded precode 0 (coded precode 0 gs) ≡ gs
coded-back false gs small = refl
coded-back true gs small = precoded-back 0 gs (omega arith) small

pub coded-append : (precode : Bool) (b : ℕ) (gs hs : List ℕ)
    → coded precode b (gs ++ hs) ≡ coded precode b gs ++ coded precode (last_of b (coded precode b gs)) hs
coded-append false b gs hs = refl
coded-append true b gs hs = precoded-append b gs hs

pub uncoded-append : (precode : Bool) (b : ℕ) (ps qs : List ℕ) → uncoded precode b (ps ++ qs) ≡ uncoded precode b ps ++ uncoded precode (last_of b ps) qs
uncoded-append false b ps qs = refl
uncoded-append true b ps qs = decoded-append b ps qs
