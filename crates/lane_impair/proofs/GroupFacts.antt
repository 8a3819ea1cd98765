-- A beat put behind the lanes: at once behind those of a group, and then behind each of the others.
use Rattle.std.proofs.Common.{◌≡◌, ℕ, ◌+◌, ◌<◌, List, [], ◌++◌, get_or, set, sym, ◌∙◌, ap, ap₂, subst, inl, inr, arith, get_or-set_other}
use Rattle.std.specs.Prelude.{◌≢◌, true, false, if◌then◌else◌}
use Rattle.std.proofs.lemmas.Bool.{cases_lt, cases_Bool}
use Rattle.std.proofs.lemmas.List.{append-nil}
use Rattle.bit_lists.specs.Bits.{bits}
use Rattle.lane_impair.specs.Holding.{Held, HoldsLane, Grows, is_at}
use Rattle.lane_impair.proofs.GrowthFacts.{GrowsBelow}

-- what a lane of the group gets at once, and what another one gets then
abbrev pub at_once : List ℕ → ℕ → List ℕ → ℕ → List ℕ
at_once lengths number octets l = if is_at lengths number l then bits 8 (get_or octets l 0) else []

abbrev pub then_more : List ℕ → ℕ → List ℕ → ℕ → List ℕ
then_more lengths number octets l = if is_at lengths number l then [] else bits 8 (get_or octets l 0)

-- the lanes of the group are as long as they were
abbrev pub AreSteady : List ℕ → ℕ → Held → Held → Type 0
AreSteady lengths number s t = (l : ℕ) → is_at lengths number l ≡ true → get_or t.lengths l 0 ≡ get_or s.lengths l 0

-- a lane that isn't of the group gets more
pub steady_next : (lengths : List ℕ) (number : ℕ) (start s t : Held) (n width : ℕ) → is_at lengths number n ≡ false
    → t ≡ record s { rows = t.rows; lengths = set s.lengths n (get_or s.lengths n 0 + width) }
    → AreSteady lengths number start s → AreSteady lengths number start t
steady_next lengths number start s t n width outside is before l inside =
    let apart : l ≢ n = λ same. let bad : true ≡ false = sym inside ∙ ap (is_at lengths number) same ∙ outside in cc in
    ap (λ r. get_or r.lengths l 0) is ∙ get_or-set_other s.lengths n l (get_or s.lengths n 0 + width) 0 apart ∙ before l inside

pub grows_both : (old s t : Held) (octets : List ℕ) (number n : ℕ) → n ≡ 16
    → Grows old s (at_once old.lengths number octets)
    → ((l : ℕ) → l < 16 → is_at old.lengths number l ≡ false → get_or s.lengths l 0 ≡ get_or old.lengths l 0)
    → GrowsBelow s t (then_more old.lengths number octets) n → AreSteady old.lengths number s t
    → Grows old t (λ l. bits 8 (get_or octets l 0))
grows_both old s t octets number n all first others after steady = record {
  lanes = λ l xs low h. elim (cases_Bool (is_at old.lengths number l)) [
    | inl inside ↦
        let o = bits 8 (get_or octets l 0) in
        let one : HoldsLane s l (xs ++ o) = subst (λ b. HoldsLane s l (xs ++ (if b then o else []))) inside (first.lanes l xs low h) in
        let two : HoldsLane t l ((xs ++ o) ++ []) =
        subst (λ b. HoldsLane t l ((xs ++ o) ++ (if b then [] else o))) inside (after.done l (xs ++ o) (omega arith) one) in
        subst (HoldsLane t l) (append-nil (xs ++ o)) two
    | inr outside ↦
        let o = bits 8 (get_or octets l 0) in
        let one : HoldsLane s l (xs ++ []) = subst (λ b. HoldsLane s l (xs ++ (if b then o else []))) outside (first.lanes l xs low h) in
        let same : HoldsLane s l xs = subst (HoldsLane s l) (append-nil xs) one in
        subst (λ b. HoldsLane t l (xs ++ (if b then [] else o))) outside (after.done l xs (omega arith) same)
  ];
  rest = rest_is;
  count = after.count ∙ first.count;
  most = λ l. elim (cases_lt l 16) [
    | inl low ↦ elim (cases_Bool (is_at old.lengths number l)) [
      | inl inside ↦ omega (arith, steady l inside, first.most l)
      | inr outside ↦ omega (arith, others l low outside, after.most l)
    ]
    | inr high ↦ omega (arith, after.same l (omega arith), first.most l)
  ];
} where
  rest_is : t ≡ record old { rows = t.rows; lengths = t.lengths }
  rest_is =
      let make : ℕ → ℕ → Held = λ room given. record { rows = t.rows; room = room; lengths = t.lengths; given = given } in
      ap₂ make (ap (λ r. r.room) after.rest ∙ ap (λ r. r.room) first.rest) (ap (λ r. r.given) after.rest ∙ ap (λ r. r.given) first.rest)
