-- The beats of phased lanes, and those that a demultiplexer gives.
use Rattle.std.proofs.Common.{◌≡◌, ℕ, ◌+◌, ◌-◌, ◌*◌, ◌/◌, ◌%◌, ◌<◌, ◌≤◌, Bool, true, false, List, [], ◌∷◌, ◌++◌, length, map, take, get_or, refl, sym, ap, ap₂, ◌∙◌, subst, arith, length-append}
use Rattle.std.specs.List.{range_with_len}
use Rattle.std.specs.Int.{bit_at}
use Rattle.std.proofs.lemmas.List.{take_at, get_or-take, length-take-le, get_or_append_left, get_or-append_right}
use Rattle.std.proofs.lemmas.List.Concat.{flat_map-append}
use Rattle.std.proofs.lemmas.Nat.Bits.{bit_at-lt}
use Rattle.bit_lists.specs.Bits.{bits, bit, number, all_bits}
use Rattle.bit_lists.specs.Places.{for_each}
use Rattle.bit_lists.proofs.ByPlaces.{length-for_each, at-for_each, by_places, same_for_each}
use Rattle.bit_lists.proofs.Facts.{length-bits, number-bits, get_or-bits, get_or-all_bits}
use Rattle.bit_lists.proofs.Lists.{for_each-more}
use Rattle.bit_lists.proofs.Extremes.{slice_index-map}
use Rattle.pma_link.specs.Levels.{four, eight, bits_of_grays, uncoded, last_of, levels_in, stream_in, phased_lane, phased_beat, phased_beats, given_beats, level_beats}
use Rattle.pma_link.specs.Histories.{given}
use Rattle.pma_link.specs.LevelLaws.{IsBeat, GivenBeatsGoOn, PhasedBeatsEnd, GivenBeatsStay, BeatsGiveBack}
use Rattle.pma_link.proofs.Streams.{bits_of_grays-append, length-decoded, uncoded-append}
use Rattle.pma_link.proofs.Phases.{levels_give_back}
use Rattle.pma_link.proofs.LevelBeats.{level_beats_hold, level_beats_as_many}

-- ---- streams of more level beats
length-bits_of_grays : (gs : List ℕ) → length (bits_of_grays gs) ≡ 2 * length gs
unfolding bits_of_grays
length-bits_of_grays [] = refl
length-bits_of_grays (g ∷ gs) = omega (arith, length-bits_of_grays gs)

length-levels_in : (taken : List (List ℕ)) (j : ℕ) → length (levels_in taken j) ≡ 8 * length taken
unfolding levels_in four
length-levels_in [] j = refl
length-levels_in (beat ∷ taken) j = omega (arith, length-levels_in taken j)

length-uncoded : (p : Bool) (b : ℕ) (ps : List ℕ) → length (uncoded p b ps) ≡ length ps
length-uncoded false b ps = refl
length-uncoded true b ps = length-decoded b ps

length-stream_in : (p : Bool) (taken : List (List ℕ)) (j : ℕ) → length (stream_in p taken j) ≡ 16 * length taken
length-stream_in p taken j =
    let grays = length-bits_of_grays (uncoded p 0 (levels_in taken j)) in
    omega (arith, grays, length-uncoded p 0 (levels_in taken j), length-levels_in taken j)

-- the stream goes on behind that of the first level beats
stream_in-more : (p : Bool) (taken more : List (List ℕ)) (j : ℕ) → (rest : List ℕ) × (stream_in p (taken ++ more) j ≡ stream_in p taken j ++ rest)
unfolding levels_in
stream_in-more p taken more j = (
  bits_of_grays (uncoded p (last_of 0 (levels_in taken j)) (levels_in more j)),
  ap (λ ls. bits_of_grays (uncoded p 0 ls)) (flat_map-append (λ beat. eight beat j) taken more)
      ∙ ap bits_of_grays (uncoded-append p 0 (levels_in taken j) (levels_in more j))
      ∙ bits_of_grays-append (uncoded p 0 (levels_in taken j)) _,
)

-- ---- phased lanes of more level beats
length-phased : (p : Bool) (mask : ℕ) (taken : List (List ℕ)) (l : ℕ) → length (phased_lane mask (stream_in p taken) l) ≡ 8 * length taken
unfolding phased_lane
length-phased p mask taken l = length-for_each _ _ ∙ omega (arith, length-stream_in p taken (l / 2))

at-phased : (p : Bool) (mask : ℕ) (taken : List (List ℕ)) (l n : ℕ) → n < 8 * length taken
    → bit (phased_lane mask (stream_in p taken) l) n ≡ bit (stream_in p taken (l / 2)) (2 * n + l % 2 + bit_at mask (l / 2))
unfolding phased_lane
at-phased p mask taken l n low = at-for_each _ _ n 0 (omega (arith, low, length-stream_in p taken (l / 2)))

-- bits before the last of a lane stay as they are
bit-stays : (p : Bool) (mask : ℕ) (taken more : List (List ℕ)) (l n : ℕ) → n + 1 < 8 * length taken
    → bit (phased_lane mask (stream_in p (taken ++ more)) l) n ≡ bit (phased_lane mask (stream_in p taken) l) n
bit-stays p mask taken more l n low =
    let (rest, is) = stream_in-more p taken more (l / 2) in
    let place = 2 * n + l % 2 + bit_at mask (l / 2) in
    at-phased p mask (taken ++ more) l n (omega (arith, low, length-append taken more))
    ∙ ap (λ s. bit s place) is
    ∙ get_or_append_left (stream_in p taken (l / 2)) rest 0 place (omega (arith, low, bit_at-lt mask (l / 2), length-stream_in p taken (l / 2)))
    ∙ sym (at-phased p mask taken l n (omega (arith, low)))

-- so do all beats but the last
beat-stays : (p : Bool) (mask : ℕ) (taken more : List (List ℕ)) (b : ℕ) → b + 1 < length taken → phased_beat p mask (taken ++ more) b ≡ phased_beat p mask taken b
beat-stays p mask taken more b low =
    same_for_each 16 _ _ 0
    (λ l small. ap number (same_for_each 8 _ _ 0 (λ i place. bit-stays p mask taken more l (8 * b + i) (omega (arith, low, place)))))

front-stays : (p : Bool) (mask : ℕ) (taken more : List (List ℕ)) (n : ℕ) → n ≤ length taken - 1
    → for_each n (phased_beat p mask (taken ++ more)) ≡ for_each n (phased_beat p mask taken)
front-stays p mask taken more n few = same_for_each n _ _ [] (λ b low. beat-stays p mask taken more b (omega (arith, low, few)))

-- ---- the beats that were given
take-each : {X : Type 0} (f : ℕ → X) (n m : ℕ) → take n (for_each (n + m) f) ≡ for_each n f
take-each f n m = ap (take n) (for_each-more f n m) ∙ take_at (for_each n f) (map f (range_with_len n m)) n (length-for_each n f)

one-more : {X : Type 0} (f : ℕ → X) (n : ℕ) → for_each (n + 1) f ≡ for_each n f ++ f n ∷ []
one-more f n = for_each-more f n 1

given-are : (p : Bool) (mask : ℕ) (taken : List (List ℕ)) → given_beats p mask taken ≡ for_each (length taken - 1) (phased_beat p mask taken)
unfolding phased_beats
given-are p mask taken =
    let parts : length taken ≡ length taken - 1 + (length taken - (length taken - 1)) = omega arith in
    ap (λ n. take (length taken - 1) (for_each n (phased_beat p mask taken))) parts
    ∙ take-each (phased_beat p mask taken) (length taken - 1) (length taken - (length taken - 1))

-- an octet with these bits
octet-is : (lane : List ℕ) (at octet : ℕ) → octet < 256 → ((i : ℕ) → i < 8 → bit lane (at + i) ≡ get_or (bits 8 octet) i 0)
    → octet ≡ number (for_each 8 (λ i. bit lane (at + i)))
octet-is lane at octet low each =
    sym (number-bits 8 octet low) ∙ ap number (by_places 8 (λ i. bit lane (at + i)) (bits 8 octet) 0 (length-bits 8 octet) (λ i small. sym (each i small)))

-- the next beat of lanes that go on with its bits
next-is : (p : Bool) (mask : ℕ) (taken : List (List ℕ)) (b : ℕ) (beat : List ℕ) → IsBeat beat
    → ((l i : ℕ) → l < 16 → i < 8 → bit (phased_lane mask (stream_in p taken) l) (8 * b + i) ≡ get_or (bits 8 (get_or beat l 0)) i 0)
    → beat ≡ phased_beat p mask taken b
next-is p mask taken b beat is each =
    by_places 16 (λ l. number (for_each 8 (λ i. bit (phased_lane mask (stream_in p taken) l) (8 * b + i)))) beat 0 is.size
    (λ l low. octet-is (phased_lane mask (stream_in p taken) l) (8 * b) (get_or beat l 0) (is.octets l) (λ i small. each l i low small))

length-given : (mask : ℕ) (p : Bool) (taken : List (List ℕ)) (l : ℕ) → length (given mask p taken l) ≡ 8 * (length taken - 1)
length-given mask p taken l = length-take-le (8 * (length taken - 1)) (phased_lane mask (stream_in p taken) l) (omega (arith, length-phased p mask taken l))

pub given_beats_go_on : GivenBeatsGoOn
given_beats_go_on mask p taken more beat some is goes =
    let new = taken ++ more ∷ [] in
    let m = length taken - 1 in
    let count : length new - 1 ≡ m + 1 = omega (arith, some, length-append taken (more ∷ [])) in
    given-are p mask new ∙ ap (λ n. for_each n (phased_beat p mask new)) count ∙ one-more (phased_beat p mask new) m
    ∙ ap₂ (λ bs b. bs ++ b ∷ []) (front-stays p mask taken (more ∷ []) m (omega arith) ∙ sym (given-are p mask taken)) (sym (next-is p mask new m beat is each))
  where
    each : (l i : ℕ) → l < 16 → i < 8
        → bit (phased_lane mask (stream_in p (taken ++ more ∷ [])) l) (8 * (length taken - 1) + i) ≡ get_or (bits 8 (get_or beat l 0)) i 0
    each l i low small =
        let at = 8 * (length taken - 1) + i in
        let own = bits 8 (get_or beat l 0) in
        sym (get_or-take (8 * (length (taken ++ more ∷ []) - 1)) (phased_lane mask (stream_in p (taken ++ more ∷ [])) l) at 0
        (omega (arith, some, small, length-append taken (more ∷ []))))
        ∙ ap (λ xs. get_or xs at 0) (goes l low)
        ∙ get_or-append_right (given mask p taken l) own (8 * (length taken - 1)) at 0 (length-given mask p taken l) (omega arith)
        ∙ ap (λ k. get_or own k 0) (omega arith)

pub phased_beats_end : PhasedBeatsEnd
unfolding phased_beats
phased_beats_end mask p taken beat some is goes =
    let m = length taken - 1 in
    let count : length taken ≡ m + 1 = omega (arith, some) in
    ap (λ n. for_each n (phased_beat p mask taken)) count ∙ one-more (phased_beat p mask taken) m
    ∙ ap₂ (λ bs b. bs ++ b ∷ []) (sym (given-are p mask taken)) (sym (next-is p mask taken m beat is each))
  where
    each : (l i : ℕ) → l < 16 → i < 8 → bit (phased_lane mask (stream_in p taken) l) (8 * (length taken - 1) + i) ≡ get_or (bits 8 (get_or beat l 0)) i 0
    each l i low small =
        let at = 8 * (length taken - 1) + i in
        let own = bits 8 (get_or beat l 0) in
        ap (λ xs. get_or xs at 0) (goes l low)
        ∙ get_or-append_right (given mask p taken l) own (8 * (length taken - 1)) at 0 (length-given mask p taken l) (omega arith)
        ∙ ap (λ k. get_or own k 0) (omega arith)

pub given_beats_stay : GivenBeatsStay
given_beats_stay mask p taken more =
    let all = taken ++ more in
    let m = length taken - 1 in
    let others = (length all - 1) - m in
    let parts : length all - 1 ≡ m + others = omega (arith, length-append taken more) in (
      map (phased_beat p mask all) (range_with_len m others),
      given-are p mask all ∙ ap (λ n. for_each n (phased_beat p mask all)) parts ∙ for_each-more (phased_beat p mask all) m others
          ∙ ap (λ bs. bs ++ map (phased_beat p mask all) (range_with_len m others)) (front-stays p mask taken more m (omega arith) ∙ sym (given-are p mask taken)),
    )

-- no beats are given before the second level beat
pub none-given : (p : Bool) (mask : ℕ) (taken : List (List ℕ)) → length taken ≤ 1 → given_beats p mask taken ≡ []
unfolding for_each
none-given p mask taken few =
    let none : length taken - 1 ≡ 0 = omega (arith, few) in
    given-are p mask taken ∙ ap (λ n. for_each n (phased_beat p mask taken)) none

pub no-phased-beats : (p : Bool) (mask : ℕ) → phased_beats p mask [] ≡ []
unfolding phased_beats for_each
no-phased-beats p mask = refl

-- ---- at phase 0
pub beats_give_back : BeatsGiveBack
unfolding phased_beats
beats_give_back p beats are =
    let taken = level_beats p beats in
    let many : length taken ≡ length beats = (level_beats_as_many p beats).0 in
    ap (λ n. for_each n (phased_beat p 0 taken)) many
    ∙ sym (by_places (length beats) (phased_beat p 0 taken) beats [] refl (λ b low. next-is p 0 taken b (get_or beats b []) (are b low) (each b low)))
  where
    each : (b : ℕ) → b < length beats → (l i : ℕ) → l < 16 → i < 8
        → bit (phased_lane 0 (stream_in p (level_beats p beats)) l) (8 * b + i) ≡ get_or (bits 8 (get_or (get_or beats b []) l 0)) i 0
    each b low l i lane small =
        let octets = map (λ beat. get_or beat l 0) beats in
        ap (λ xs. get_or xs (8 * b + i) 0) (levels_give_back p beats (level_beats p beats) (level_beats_hold p beats) l lane)
        ∙ ap (λ k. get_or (all_bits 8 octets) k 0) {x = 8 * b + i} {y = b * 8 + i} (omega arith)
        ∙ get_or-all_bits 8 octets b i (subst (λ n. b < n) (sym (length-octets beats)) low) small
        ∙ ap (λ o. bit_at o i) (slice_index-map (λ beat. get_or beat l 0) beats b [] low)
        ∙ sym (get_or-bits 8 (get_or (get_or beats b []) l 0) i 0 small)
      where
        length-octets : (xs : List (List ℕ)) → length (map (λ beat. get_or beat l 0) xs) ≡ length xs
        length-octets [] = refl
        length-octets (x ∷ xs) = omega (arith, length-octets xs)
