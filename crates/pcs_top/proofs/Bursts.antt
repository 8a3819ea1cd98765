-- Pairs with their bursts, one behind the other, and the lanes that they come to.
use Rattle.std.proofs.Common.{◌≡◌, ℕ, zero, suc, ◌+◌, ◌-◌, ◌*◌, ◌/◌, ◌%◌, ◌<◌, ◌≤◌, List, [], ◌++◌, length, map, get_or, refl, sym, ◌∙◌, ap, ap₂, subst, arith, inl, inr, length-append}
use Rattle.std.specs.Prelude.{◌&&◌, nat_le}
use Rattle.std.specs.Int.{bit_at}
use Rattle.std.proofs.lemmas.Nat.{mod_below, div-mul-add, mod-mul-add}
use Rattle.std.proofs.lemmas.Nat.Bits.{bit_at-lt}
use Rattle.std.proofs.lemmas.Bool.{cases_lt, le-leb, lt-leb}
use Rattle.std.proofs.lemmas.List.{get_or_append_left, get_or-append_right, get_or-map, length-map}
use Rattle.rand_xoshiro.specs.SplitMix64.{next_state}
use Rattle.bit_lists.specs.Bits.{bit, bit_of, all_bits}
use Rattle.bit_lists.specs.Places.{for_each}
use Rattle.bit_lists.proofs.Facts.{length-all_bits, at-all_bits}
use Rattle.bit_lists.proofs.ByPlaces.{length-for_each, by_places, same_for_each}
use Rattle.mac_columns.specs.declared.column.Column.{Column}
use Rattle.lane_impair.specs.Noise.{state_after, word_of}
use Rattle.lane_impair.specs.Histories.{lanes_of}
use Rattle.pcs_send.specs.Lanes.{lane_octets, beats_of}
use Rattle.pcs_send.specs.Transmission.{whole_pairs, carried}
use Rattle.pcs_send.proofs.CarriedBeats.{HasLanes, has-beats_of}
use Rattle.pcs_send.proofs.SentLanes.{length-sent_lane}
use Rattle.trial_laws.specs.Damage.{pair_word, bursts, strikes, damaged}
use Rattle.trial_laws.proofs.FrameWords.{next_word_state}
use Rattle.trial_laws.proofs.WrongSymbols.{are_bits-carried}
use Rattle.std.proofs.Math.Nat.{mod-eq_of_lt}
use Rattle.pcs_top.specs.Trials.{lane_bit, HasBurst, HaveBursts}

-- ---- a pair
module _ (seed first t l n : ℕ) (small : n < 680) where
  place : 680 * t + n ≡ t * 680 + n
  place = omega arith

  pair-is : (680 * t + n) / 680 ≡ t
  pair-is = ap (λ k. k / 680) place ∙ div-mul-add t 680 n small

  rest-is : (680 * t + n) % 680 ≡ n
  rest-is = ap (λ k. k % 680) place ∙ mod-mul-add t 680 n small

  strikes-at : first ≤ t → strikes seed first l (680 * t + n) ≡ bursts (pair_word seed (t - first)) l n
  strikes-at from =
      ap₂ (λ q j. nat_le first q && bursts (pair_word seed (q - first)) l j) pair-is rest-is
      ∙ ap (λ b. b && bursts (pair_word seed (t - first)) l n) (le-leb first t from)

  strikes-none : t < first → bit_of (strikes seed first l (680 * t + n)) ≡ 0
  strikes-none low =
      ap bit_of (ap₂ (λ q j. nat_le first q && bursts (pair_word seed (q - first)) l j) pair-is rest-is
      ∙ ap (λ b. b && bursts (pair_word seed (t - first)) l n) (lt-leb first t low))

module _ (seed first t words : ℕ) (is : words ≡ state_after (31 + (t - first)) seed) where
  pub words-next : first ≤ t → next_state words ≡ state_after (31 + (t + 1 - first)) seed
  words-next from =
      let next : 31 + (t - first) + 1 ≡ 31 + (t + 1 - first) = omega (arith, from) in
      ap next_state is ∙ next_word_state (31 + (t - first)) seed ∙ ap (λ k. state_after k seed) next

  pub words-stay : t < first → words ≡ state_after (31 + (t + 1 - first)) seed
  words-stay low = let none : 31 + (t - first) ≡ 31 + (t + 1 - first) = omega (arith, low) in is ∙ ap (λ k. state_after k seed) none

  pub burst-put : (word : ℕ) (old new : List (List ℕ)) → first ≤ t → word ≡ word_of words
      → ((l n : ℕ) → l < 16 → n < 680 → lane_bit new l n ≡ (lane_bit old l n + bit_of (bursts word l n)) % 2) → HasBurst seed first t old new
  burst-put word old new from drawn puts = λ l n low small.
      puts l n low small
      ∙ ap (λ b. (lane_bit old l n + bit_of b) % 2) (ap (λ w. bursts w l n) (drawn ∙ ap word_of is) ∙ sym (strikes-at seed first t l n small from))

same-bit : (b : ℕ) → b < 2 → b ≡ (b + 0) % 2
same-bit zero low = refl
same-bit (suc zero) low = refl
same-bit (suc (suc b)) low = absurd (omega arith)

pub no-burst : (seed first t : ℕ) (pair : List (List ℕ)) → t < first → HasBurst seed first t pair pair
no-burst seed first t pair early = λ l n low small.
    same-bit (lane_bit pair l n) (bit_at-lt (get_or (get_or pair (n / 8) []) l 0) (n % 8))
    ∙ ap (λ k. (lane_bit pair l n + k) % 2) (sym (strikes-none seed first t l n small early))

-- ---- pairs behind pairs
lane_bit-left : (xs ys : List (List ℕ)) (l n : ℕ) → n < 8 * length xs → lane_bit (xs ++ ys) l n ≡ lane_bit xs l n
lane_bit-left xs ys l n low = ap (λ row. bit_at (get_or row l 0) (n % 8)) (get_or_append_left xs ys [] (n / 8) (omega (arith, low)))

lane_bit-right : (xs ys : List (List ℕ)) (l n m : ℕ) → n ≡ 8 * length xs + m → lane_bit (xs ++ ys) l n ≡ lane_bit ys l m
lane_bit-right xs ys l n m is =
    let row : n / 8 - length xs ≡ m / 8 = omega (arith, is) in
    let place : n % 8 ≡ m % 8 = omega (arith, is) in
    ap₂ (λ row k. bit_at (get_or row l 0) k)
    (get_or-append_right xs ys (length xs) (n / 8) [] refl (omega (arith, is)) ∙ ap (λ k. get_or ys k []) row) place

pub no-bursts : (seed first : ℕ) → HaveBursts seed first [] []
no-bursts seed first = record { count = refl; bits = λ l n low small. absurd (omega (arith, small)) }

pub bursts-append : (seed first t : ℕ) (sent beats pair struck : List (List ℕ)) → length sent ≡ 85 * t → length pair ≡ 85 → length struck ≡ 85
    → HaveBursts seed first sent beats → HasBurst seed first t pair struck → HaveBursts seed first (sent ++ pair) (beats ++ struck)
bursts-append seed first t sent beats pair struck count size size' before own = record {
  count = omega (arith, length-append sent pair, length-append beats struck, before.count, size, size');
  bits = λ l n low small. elim (cases_lt n (8 * length sent)) [
    | inl early ↦
        lane_bit-left beats struck l n (omega (arith, early, before.count)) ∙ before.bits l n low early
        ∙ ap (λ b. (b + bit_of (strikes seed first l n)) % 2) (sym (lane_bit-left sent pair l n early))
    | inr late ↦
        let m = n - 8 * length sent in
        let is : n ≡ 8 * length sent + m = omega (arith, late) in
        let is' : n ≡ 8 * length beats + m = omega (arith, late, before.count) in
        let place : 680 * t + m ≡ n = omega (arith, late, count) in
        let within : m < 680 = omega (arith, small, length-append sent pair, size, late) in
        lane_bit-right beats struck l n m is' ∙ own l m low within
        ∙ ap₂ (λ b k. (b + bit_of (strikes seed first l k)) % 2) (sym (lane_bit-right sent pair l n m is)) place
  ];
}

-- ---- the lanes of all pairs
bits_of_lane : List (List ℕ) → ℕ → List ℕ
bits_of_lane beats l = all_bits 8 (map (λ beat. get_or beat l 0) beats)

length-bits_of_lane : (beats : List (List ℕ)) (l : ℕ) → length (bits_of_lane beats l) ≡ 8 * length beats
unfolding bits_of_lane
length-bits_of_lane beats l = length-all_bits 8 (map (λ beat. get_or beat l 0) beats) ∙ omega (arith, length-map beats (λ (beat : List ℕ). get_or beat l 0))

at-bits_of_lane : (beats : List (List ℕ)) (l n : ℕ) → n < 8 * length beats → get_or (bits_of_lane beats l) n 0 ≡ lane_bit beats l n
unfolding bits_of_lane
at-bits_of_lane beats l n low =
    let octet : List ℕ → ℕ = λ beat. get_or beat l 0 in
    at-all_bits 8 (map octet beats) n (n / 8) (n % 8) (omega arith) (mod_below n 8 (omega arith)) (omega (arith, low, length-map beats octet))
    ∙ ap (λ o. bit_at o (n % 8)) (get_or-map octet beats (n / 8) [] 0 (omega (arith, low)))

module _ (p : ℕ) (cs : List Column) where
  abbrev out : ℕ → List ℕ
  out l = get_or (carried p cs) (l % 16) []

  all-out : for_each 16 out ≡ carried p cs
  unfolding carried
  all-out = sym (by_places 16 out (carried p cs) [] (length-for_each 16 _) (λ k low. ap (λ l. get_or (carried p cs) l []) (sym (mod-eq_of_lt low))))

  has-carried : HasLanes (beats_of (carried p cs)) out
  has-carried =
      subst (λ lanes. HasLanes (beats_of lanes) out) all-out
      (has-beats_of out (85 * whole_pairs p (length cs))
      (λ l. length-sent_lane p cs (l % 16) (mod_below l 16 (omega arith)) ∙ omega arith)
      (λ l. are_bits-carried p cs (l % 16) (mod_below l 16 (omega arith))))

  -- a lane that is carried is that of its beats
  carried-lane : (l : ℕ) → l < 16 → get_or (carried p cs) l [] ≡ bits_of_lane (beats_of (carried p cs)) l
  unfolding bits_of_lane lane_octets
  carried-lane l low = ap (λ k. get_or (carried p cs) k []) (sym (mod-eq_of_lt low)) ∙ has-carried.each l low

  -- the lanes of the beats with bursts are the damaged lanes
  pub lanes-struck : (seed first : ℕ) (sent beats : List (List ℕ)) → sent ≡ beats_of (carried p cs) → HaveBursts seed first sent beats
      → lanes_of beats ≡ damaged seed first (carried p cs)
  unfolding lanes_of damaged bits_of_lane
  lanes-struck seed first sent beats is have =
      let line : ℕ → List ℕ = λ l. get_or (carried p cs) l [] in
      let hit : ℕ → ℕ → ℕ = λ l n. (bit (line l) n + bit_of (strikes seed first l n)) % 2 in
      let own : (l : ℕ) → l < 16 → line l ≡ bits_of_lane sent l = λ l low. carried-lane l low ∙ ap (λ bs. bits_of_lane bs l) (sym is) in
      same_for_each 16 (bits_of_lane beats) (λ l. for_each (length (line l)) (hit l)) []
      (λ l low.
      let size : length (line l) ≡ 8 * length sent = ap length (own l low) ∙ length-bits_of_lane sent l in
      by_places (length (line l)) (hit l) (bits_of_lane beats l) 0 (omega (arith, size, length-bits_of_lane beats l, have.count))
      (λ n small.
      at-bits_of_lane beats l n (omega (arith, small, size, have.count)) ∙ have.bits l n low (omega (arith, small, size))
      ∙ ap (λ b. (b + bit_of (strikes seed first l n)) % 2)
      (sym (ap (λ bs. get_or bs n 0) (own l low) ∙ at-bits_of_lane sent l n (omega (arith, small, size))))))
