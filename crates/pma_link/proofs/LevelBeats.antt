-- The level beats of some beats, and of more beats behind them.
use Rattle.std.proofs.Common.{◌≡◌, ℕ, zero, suc, ◌+◌, ◌*◌, ◌/◌, ◌%◌, ◌<◌, Bool, true, false, List, [], ◌∷◌, ◌++◌, length, get_or, refl, sym, ap, ap₂, ◌∙◌, arith, inl, inr, subst, append-nil, length-append}
use Rattle.std.proofs.lemmas.Bool.{cases_lt}
use Rattle.std.proofs.lemmas.List.{append_assoc, get_or_append_left, get_or-append_right, get_or_past}
use Rattle.bit_lists.specs.Bits.{all_bits}
use Rattle.bit_lists.specs.Places.{for_each}
use Rattle.bit_lists.proofs.ByPlaces.{length-for_each, at-for_each, by_places, same_for_each}
use Rattle.pma_link.specs.Levels.{by_turns, stream, lane_of, gray_numbers, precoded, last_of, coded, levels, four, eight, levels_in, octet_at, level_beat, level_beats}
use Rattle.pma_link.specs.LevelLaws.{AreLevels, IsBeat, LevelBeatsHold, AreAsMany, LevelBeatsGoOn}
use Rattle.pma_link.proofs.Streams.{by_turns-append, gray_numbers-append, coded-append, length-precoded, small_precoded, small_grays}
use Rattle.pma_link.proofs.Phases.{same_lengths, length-lane_of}
use Rattle.pma_link.proofs.Standing.{lane_of-append, levels_in-push, join-for_each}

-- ---- levels of more beats
length-grays : (xs ys : List ℕ) → length xs ≡ length ys → length (gray_numbers (by_turns xs ys)) ≡ length xs
unfolding by_turns gray_numbers
length-grays [] ys e = refl
length-grays (x ∷ xs) [] e = absurd (omega (arith, e))
length-grays (x ∷ xs) (y ∷ ys) e = ap suc (length-grays xs ys (omega (arith, e)))

length-coded : (p : Bool) (b : ℕ) (gs : List ℕ) → length (coded p b gs) ≡ length gs
length-coded false b gs = refl
length-coded true b gs = length-precoded b gs

small-coded : (p : Bool) (b : ℕ) (gs : List ℕ) → ((k : ℕ) → get_or gs k 0 < 4) → (k : ℕ) → get_or (coded p b gs) k 0 < 4
small-coded false b gs small k = small k
small-coded true b gs small k = small_precoded b gs k

length-levels : (p : Bool) (beats : List (List ℕ)) (j : ℕ) → length (levels p beats j) ≡ 8 * length beats
length-levels p beats j =
    length-coded p 0 (gray_numbers (stream beats j))
    ∙ length-grays (lane_of beats (2 * j)) (lane_of beats (2 * j + 1)) (same_lengths beats (2 * j) (2 * j + 1))
    ∙ length-lane_of beats (2 * j)

-- the levels of the beats behind others
abbrev later : Bool → List (List ℕ) → List (List ℕ) → ℕ → List ℕ
later p xs ys j = coded p (last_of 0 (levels p xs j)) (gray_numbers (stream ys j))

levels-more : (p : Bool) (xs ys : List (List ℕ)) (j : ℕ) → levels p (xs ++ ys) j ≡ levels p xs j ++ later p xs ys j
levels-more p xs ys j =
    let same = same_lengths xs (2 * j) (2 * j + 1) in
    let streams : stream (xs ++ ys) j ≡ stream xs j ++ stream ys j =
    ap₂ by_turns (lane_of-append xs ys (2 * j)) (lane_of-append xs ys (2 * j + 1))
    ∙ by_turns-append (lane_of xs (2 * j)) (lane_of xs (2 * j + 1)) (lane_of ys (2 * j)) (lane_of ys (2 * j + 1)) same in
    ap (λ s. coded p 0 (gray_numbers s)) streams
    ∙ ap (coded p 0) (gray_numbers-append (lane_of xs (2 * j)) (lane_of xs (2 * j + 1)) (stream ys j) same)
    ∙ coded-append p 0 (gray_numbers (stream xs j)) (gray_numbers (stream ys j))

-- ---- octets of levels
octet-front : (xs ys : List ℕ) (n : ℕ) → n + 3 < length xs → octet_at (xs ++ ys) n ≡ octet_at xs n
octet-front xs ys n low =
    let at : (k : ℕ) → k < 4 → get_or (xs ++ ys) (n + k) 0 ≡ get_or xs (n + k) 0 = λ k small. get_or_append_left xs ys 0 (n + k) (omega (arith, low, small)) in
    let first : get_or (xs ++ ys) n 0 ≡ get_or xs n 0 = get_or_append_left xs ys 0 n (omega (arith, low)) in
    omega (arith, first, at 1 (omega arith), at 2 (omega arith), at 3 (omega arith))

octet-behind : (xs ys : List ℕ) (m n : ℕ) → length xs ≡ m → octet_at (xs ++ ys) (m + n) ≡ octet_at ys n
octet-behind xs ys m n is =
    let at : (k : ℕ) → get_or (xs ++ ys) (m + n + k) 0 ≡ get_or ys (n + k) 0 =
    λ k. get_or-append_right xs ys m (m + n + k) 0 is (omega arith) ∙ ap (λ i. get_or ys i 0) (omega arith) in
    let first : get_or (xs ++ ys) (m + n) 0 ≡ get_or ys n 0 =
    get_or-append_right xs ys m (m + n) 0 is (omega arith) ∙ ap (λ i. get_or ys i 0) (omega arith) in
    omega (arith, first, at 1, at 2, at 3)

four-octet : (a b c d : ℕ) → a < 4 → b < 4 → c < 4 → d < 4 → four (a + 4 * b + 16 * c + 64 * d) ≡ a ∷ b ∷ c ∷ d ∷ []
unfolding four
four-octet a b c d sa sb sc sd =
    let octet = a + 4 * b + 16 * c + 64 * d in
    let first : octet % 4 ≡ a = omega arith in
    let second : octet / 4 % 4 ≡ b = omega arith in
    let third : octet / 16 % 4 ≡ c = omega arith in
    let fourth : octet / 64 % 4 ≡ d = omega arith in
    rw (first, second, third, fourth) refl

octet-of-four : (x : ℕ) (rest : List ℕ) → x < 256 → octet_at (four x ++ rest) 0 ≡ x
unfolding four
octet-of-four x rest low = omega arith

octet-behind-four : (x y : ℕ) → y < 256 → octet_at (four x ++ four y) 4 ≡ y
unfolding four
octet-behind-four x y low = omega arith

octet-of-eight : (beat : List ℕ) (j r : ℕ) → r < 2 → ((k : ℕ) → get_or beat k 0 < 256) → octet_at (eight beat j) (4 * r) ≡ get_or beat (2 * j + r) 0
octet-of-eight beat j zero low small =
    octet-of-four (get_or beat (2 * j) 0) (four (get_or beat (2 * j + 1) 0)) (small (2 * j)) ∙ ap (λ k. get_or beat k 0) (omega arith)
octet-of-eight beat j (suc zero) low small = octet-behind-four (get_or beat (2 * j) 0) (get_or beat (2 * j + 1) 0) (small (2 * j + 1))
octet-of-eight beat j (suc (suc r)) low small = absurd (omega arith)

-- ---- level beats of more beats
level_beat-front : (p : Bool) (xs ys : List (List ℕ)) (b : ℕ) → b < length xs → level_beat p (xs ++ ys) b ≡ level_beat p xs b
level_beat-front p xs ys b low =
    same_for_each 16 (λ k. octet_at (levels p (xs ++ ys) (k / 2)) (8 * b + 4 * (k % 2))) (λ k. octet_at (levels p xs (k / 2)) (8 * b + 4 * (k % 2))) 0
    (λ k small.
    ap (λ ls. octet_at ls (8 * b + 4 * (k % 2))) (levels-more p xs ys (k / 2))
    ∙ octet-front (levels p xs (k / 2)) (later p xs ys (k / 2)) (8 * b + 4 * (k % 2)) (omega (arith, low, length-levels p xs (k / 2))))

pub level_beats-more : (p : Bool) (xs ys : List (List ℕ))
    → level_beats p (xs ++ ys) ≡ level_beats p xs ++ for_each (length ys) (λ b. level_beat p (xs ++ ys) (length xs + b))
unfolding level_beats
level_beats-more p xs ys =
    ap (λ n. for_each n (level_beat p (xs ++ ys))) (length-append xs ys)
    ∙ join-for_each [] (length xs) (length ys) (level_beat p xs) (λ b. level_beat p (xs ++ ys) (length xs + b)) (level_beat p (xs ++ ys))
    (λ b low. sym (level_beat-front p xs ys b low)) (λ b low. refl)

for-one : {X : Type 0} (f : ℕ → X) → for_each 1 f ≡ f 0 ∷ []
unfolding for_each
for-one f = refl

-- the level beat of one more beat
abbrev next_beat : Bool → List (List ℕ) → List ℕ → List ℕ
next_beat p beats beat = level_beat p (beats ++ beat ∷ []) (length beats + 0)

level_beats-push : (p : Bool) (beats : List (List ℕ)) (beat : List ℕ) → level_beats p (beats ++ beat ∷ []) ≡ level_beats p beats ++ next_beat p beats beat ∷ []
level_beats-push p beats beat =
    level_beats-more p beats (beat ∷ [])
    ∙ ap (λ t. level_beats p beats ++ t) (for-one (λ b. level_beat p (beats ++ beat ∷ []) (length beats + b)))

-- octet 2j + r of the next level beat has these four levels
octet-next : (p : Bool) (beats : List (List ℕ)) (beat : List ℕ) (k : ℕ) (own : List ℕ)
    → levels p (beats ++ beat ∷ []) (k / 2) ≡ levels p beats (k / 2) ++ own
    → octet_at (levels p (beats ++ beat ∷ []) (k / 2)) (8 * (length beats + 0) + 4 * (k % 2)) ≡ octet_at own (4 * (k % 2))
octet-next p beats beat k own is =
    ap (λ ls. octet_at ls (8 * (length beats + 0) + 4 * (k % 2))) is
    ∙ octet-behind (levels p beats (k / 2)) own (8 * (length beats + 0)) (4 * (k % 2)) (length-levels p beats (k / 2) ∙ omega arith)

pub level_beats_go_on : LevelBeatsGoOn
level_beats_go_on p beats beat more is each =
    level_beats-push p beats beat ∙ ap (λ m. level_beats p beats ++ m ∷ []) (sym same)
  where
    octet : (k : ℕ) → k < 16 → get_or more k 0 ≡ octet_at (levels p (beats ++ beat ∷ []) (k / 2)) (8 * (length beats + 0) + 4 * (k % 2))
    octet k low =
        ap (λ i. get_or more i 0) {x = k} {y = 2 * (k / 2) + k % 2} (omega arith)
        ∙ sym (octet-of-eight more (k / 2) (k % 2) (omega arith) is.octets)
        ∙ sym (octet-next p beats beat k (eight more (k / 2)) (each (k / 2) (omega arith)))

    same : more ≡ next_beat p beats beat
    same = by_places 16 (λ k. octet_at (levels p (beats ++ beat ∷ []) (k / 2)) (8 * (length beats + 0) + 4 * (k % 2))) more 0 is.size octet

-- ---- the levels in level beats
listed : (f : ℕ → ℕ) → for_each 8 f ≡ f 0 ∷ f 1 ∷ f 2 ∷ f 3 ∷ f 4 ∷ f 5 ∷ f 6 ∷ f 7 ∷ []
unfolding for_each
listed f = refl

-- eight levels, from their two octets
eight-octets : (ls : List ℕ) → length ls ≡ 8 → ((k : ℕ) → get_or ls k 0 < 4) → four (octet_at ls 0) ++ four (octet_at ls 4) ≡ ls
eight-octets ls long small =
    ap₂ (λ xs ys. xs ++ ys)
    (four-octet (get_or ls 0 0) (get_or ls 1 0) (get_or ls 2 0) (get_or ls 3 0) (small 0) (small 1) (small 2) (small 3))
    (four-octet (get_or ls 4 0) (get_or ls 5 0) (get_or ls 6 0) (get_or ls 7 0) (small 4) (small 5) (small 6) (small 7))
    ∙ sym (by_places 8 (λ k. get_or ls k 0) ls 0 long (λ k low. refl) ∙ listed (λ k. get_or ls k 0))

eight-next : (p : Bool) (beats : List (List ℕ)) (beat : List ℕ) (j : ℕ) → j < 8 → eight (next_beat p beats beat) j ≡ later p beats (beat ∷ []) j
eight-next p beats beat j low =
    let own = later p beats (beat ∷ []) j in
    ap₂ (λ x y. four x ++ four y) (octet (2 * j) 0 (omega arith) (omega arith) (omega arith)) (octet (2 * j + 1) 4 (omega arith) (omega arith) (omega arith))
    ∙ eight-octets own
    (length-coded p (last_of 0 (levels p beats j)) (gray_numbers (stream (beat ∷ []) j))
    ∙ length-grays (lane_of (beat ∷ []) (2 * j)) (lane_of (beat ∷ []) (2 * j + 1)) (same_lengths (beat ∷ []) (2 * j) (2 * j + 1))
    ∙ length-lane_of (beat ∷ []) (2 * j))
    (small-coded p (last_of 0 (levels p beats j)) (gray_numbers (stream (beat ∷ []) j)) (small_grays (stream (beat ∷ []) j)))
  where
    octet : (k n : ℕ) → k < 16 → k / 2 ≡ j → 4 * (k % 2) ≡ n → get_or (next_beat p beats beat) k 0 ≡ octet_at (later p beats (beat ∷ []) j) n
    octet k n small lane place =
        at-for_each 16 (λ i. octet_at (levels p (beats ++ beat ∷ []) (i / 2)) (8 * (length beats + 0) + 4 * (i % 2))) k 0 small
        ∙ octet-next p beats beat k (later p beats (beat ∷ []) (k / 2)) (levels-more p beats (beat ∷ []) (k / 2))
        ∙ ap₂ (λ i m. octet_at (later p beats (beat ∷ []) i) m) lane place

hold-more : (p : Bool) (xs ys : List (List ℕ)) → AreLevels p xs (level_beats p xs) → AreLevels p (xs ++ ys) (level_beats p (xs ++ ys))
hold-more p xs [] are j low = rw append-nil (are j low)
hold-more p xs (y ∷ ys) are j low =
    rw (← append_assoc xs (y ∷ []) ys) (hold-more p (xs ++ y ∷ []) ys one j low)
  where
    one : AreLevels p (xs ++ y ∷ []) (level_beats p (xs ++ y ∷ []))
    one i small =
        ap (λ bs. levels_in bs i) (level_beats-push p xs y)
        ∙ levels_in-push (level_beats p xs) (next_beat p xs y) i
        ∙ ap₂ (λ a b. a ++ b) (are i small) (eight-next p xs y i small)
        ∙ sym (levels-more p xs (y ∷ []) i)

hold-none : (p : Bool) (j : ℕ) → levels_in (level_beats p []) j ≡ levels p [] j
unfolding level_beats for_each levels_in all_bits by_turns gray_numbers precoded
hold-none false j = refl
hold-none true j = refl

pub level_beats_hold : LevelBeatsHold
level_beats_hold p beats j low = hold-more p [] beats (λ i small. hold-none p i) j low

-- ---- sixteen octets each
small-octet : (ls : List ℕ) (n : ℕ) → ((k : ℕ) → get_or ls k 0 < 4) → octet_at ls n < 256
small-octet ls n small = omega (arith, small n, small (n + 1), small (n + 2), small (n + 3))

small-levels : (p : Bool) (beats : List (List ℕ)) (j k : ℕ) → get_or (levels p beats j) k 0 < 4
small-levels p beats j k = small-coded p 0 (gray_numbers (stream beats j)) (small_grays (stream beats j)) k

is-beat : (p : Bool) (beats : List (List ℕ)) (b : ℕ) → IsBeat (level_beat p beats b)
is-beat p beats b = record { size = length-for_each 16 octet; octets = small }
  where
    octet : ℕ → ℕ
    octet k = octet_at (levels p beats (k / 2)) (8 * b + 4 * (k % 2))

    small : (k : ℕ) → get_or (for_each 16 octet) k 0 < 256
    small k = elim (cases_lt k 16) [
      | inl low ↦ omega (arith, at-for_each 16 octet k 0 low, small-octet (levels p beats (k / 2)) (8 * b + 4 * (k % 2)) (small-levels p beats (k / 2)))
      | inr high ↦ omega (arith, get_or_past (for_each 16 octet) k 0 (omega (arith, high, length-for_each 16 octet)))
    ]

pub level_beats_as_many : AreAsMany
unfolding level_beats
level_beats_as_many p beats = (
  length-for_each (length beats) (level_beat p beats),
  λ b low. subst IsBeat (sym (at-for_each (length beats) (level_beat p beats) b [] low)) (is-beat p beats b),
)
