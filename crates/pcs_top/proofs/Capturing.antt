-- The capture of columns, pair by pair.
use Rattle.std.proofs.Common.{refl, ◌≡◌, ℕ, zero, suc, ◌+◌, ◌-◌, ◌<◌, ◌≤◌, List, ◌∷◌, ◌++◌, length, flat_map, Option, sym, ◌∙◌, ap, ap₂, subst, arith, inl, inr, append_assoc, append-nil, length-append, true}
use Rattle.std.specs.List.{range_with_len}
use Rattle.std.proofs.lemmas.Bool.{cases_lt, eq-eqb}
use Rattle.std.proofs.lemmas.List.{length-replicate}
use Rattle.bit_lists.specs.Places.{flat, joined}
use Rattle.bit_lists.proofs.ByPlaces.{flat-append}
use Rattle.bit_lists.proofs.Lists.{joined-more}
use Rattle.mac_columns.specs.declared.column.Column.{Column}
use Rattle.mac_columns.specs.declared.column.Column.TheVariants.{Idle}
use Rattle.pcs_send.specs.Transmission.{wides_before, columns_before, whole_pairs, carried, pair_beats, pairs_octets, idles}
use Rattle.pcs_send.specs.Histories.{Sending, end_column, is_full, after_take}
use Rattle.pcs_send.specs.Holding.{State, Stands}
use Rattle.pcs_send.proofs.Pairs.{wides-mono, whole_pairs-is}
use Rattle.pcs_send.proofs.Carrying.{pairs_octets-next, pairs_octets-later}
use Rattle.pcs_send.proofs.CarriedBeats.{carried_octets}
use Rattle.pcs_send.proofs.Filling.{room_of_pair, whole_pairs-fits}
use Rattle.pcs_top.specs.Captures.{capture_octets, form_header}
use Rattle.pcs_top.specs.Sending.{HasSent, with_pairs, AreWhole}
use Rattle.pcs_drive.specs.Writing.{Wrote, Puts, BreaksOff}
use Rattle.pcs_top.proofs.Idling.{with_idles}
use Rattle.pcs_io.specs.Octets.{AppendsFront}
use Rattle.pcs_drive.proofs.WritingLemmas.{front-more}

-- the capture of all whole pairs
abbrev pub capture : ℕ → ℕ → List Column → List ℕ
capture f p cs = capture_octets f p (carried p cs)

pub capture-is : (f : ℕ) (p : ℕ) (cs : List Column) (t : ℕ) → columns_before p t ≤ length cs → length cs < columns_before p (t + 1)
    → capture f p cs ≡ form_header f p ++ pairs_octets p cs t
unfolding capture_octets
capture-is f p cs t from low = ap (λ o. form_header f p ++ o) (carried_octets p cs ∙ ap (pairs_octets p cs) (whole_pairs-is p (length cs) t from low))

-- columns that fill no pair
pub capture-same : (f : ℕ) (p : ℕ) (cs more : List Column) (t : ℕ) → columns_before p t ≤ length cs → length (cs ++ more) < columns_before p (t + 1)
    → capture f p (cs ++ more) ≡ capture f p cs
capture-same f p cs more t from low =
    let size = length-append cs more in
    capture-is f p (cs ++ more) t (omega (arith, size, from)) low
    ∙ ap (λ o. form_header f p ++ o) (pairs_octets-later p t cs more from)
    ∙ sym (capture-is f p cs t from (omega (arith, size, low)))

-- columns that fill a pair
pub capture-more : (f : ℕ) (p : ℕ) (cs more : List Column) (t : ℕ) → columns_before p t ≤ length cs → length cs < columns_before p (t + 1)
    → length (cs ++ more) ≡ columns_before p (t + 1)
    → capture f p (cs ++ more) ≡ capture f p cs ++ flat (pair_beats p (cs ++ more) t)
capture-more f p cs more t from low full =
    capture-is f p (cs ++ more) (t + 1) (omega (arith, full)) (omega (arith, full, room_of_pair p (t + 1)))
    ∙ ap (λ o. form_header f p ++ o) (pairs_octets-next p (cs ++ more) t ∙ ap (λ o. o ++ flat (pair_beats p (cs ++ more) t)) (pairs_octets-later p t cs more from))
    ∙ sym (append_assoc (form_header f p) (pairs_octets p cs t) (flat (pair_beats p (cs ++ more) t)))
    ∙ ap (λ o. o ++ flat (pair_beats p (cs ++ more) t)) (sym (capture-is f p cs t from low))

-- fewer columns fill no more pairs
pub pairs-in-order : (p t u m : ℕ) → columns_before p t ≤ m → m < columns_before p (u + 1) → t ≤ u
pairs-in-order p t u m from low = elim (cases_lt u t) [
  | inl more ↦
      let there : t ≡ (u + 1) + (t - (u + 1)) = omega (arith, more) in
      absurd (omega (arith, from, low, ap (wides_before p) there, wides-mono p (u + 1) (t - (u + 1))))
  | inr few ↦ few
]

pairs_octets-front : (p : ℕ) (cs : List Column) (t k : ℕ) → (rest : List ℕ) × (pairs_octets p cs (t + k) ≡ pairs_octets p cs t ++ rest)
unfolding pairs_octets
pairs_octets-front p cs t k = (
  flat (flat_map (pair_beats p cs) (range_with_len t k)),
  ap flat (joined-more (pair_beats p cs) t k) ∙ flat-append (joined t (pair_beats p cs)) (flat_map (pair_beats p cs) (range_with_len t k)),
)

-- the capture of more columns goes on with that of the first ones
pub capture-front : (f : ℕ) (p : ℕ) (cs more : List Column) → (rest : List ℕ) × (capture f p (cs ++ more) ≡ capture f p cs ++ rest)
capture-front f p cs more =
    let t = whole_pairs p (length cs) in
    let u = whole_pairs p (length (cs ++ more)) in
    let fits = whole_pairs-fits p (length cs) in
    let fits' = whole_pairs-fits p (length (cs ++ more)) in
    let few : t ≤ u = pairs-in-order p t u (length (cs ++ more)) (omega (arith, fits.0, length-append cs more)) fits'.1 in
    let there : u ≡ t + (u - t) = omega (arith, few) in
    let front = pairs_octets-front p (cs ++ more) t (u - t) in (
      front.0,
      capture-is f p (cs ++ more) u fits'.0 fits'.1
          ∙ ap (λ n. form_header f p ++ pairs_octets p (cs ++ more) n) there
          ∙ ap (λ o. form_header f p ++ o) (front.1 ∙ ap (λ o. o ++ front.0) (pairs_octets-later p t cs more fits.0))
          ∙ sym (append_assoc (form_header f p) (pairs_octets p cs t) front.0)
          ∙ ap (λ o. o ++ front.0) (sym (capture-is f p cs t fits.0 fits.1)),
    )

-- a pair is taken behind these columns, and its beats are put
pub pair-sent : (new : State) (h : Sending) (f : ℕ) (p : ℕ) (cs more : List Column) (owed : ℕ) (start held now : Option (List ℕ))
    (pending after : List ℕ) (beats : List (List ℕ))
    → h.debt ≡ owed → h.period ≡ p → h.placed ≡ cs ++ more → columns_before p h.taken ≤ length cs
    → length cs < columns_before p (h.taken + 1) → length (cs ++ more) ≡ columns_before p (h.taken + 1)
    → Wrote start held (capture f p cs) pending → beats ≡ pair_beats h.period h.placed h.taken → Stands new (after_take h)
    → Puts held pending (flat beats) now after
    → HasSent new f p (cs ++ more) owed start now after
pair-sent new h f p cs more owed start held now pending after beats debt period placed from low full wrote are stands puts = record {
  history = after_take h;
  stands = stands;
  period = period;
  placed = placed;
  debt = debt;
  from = omega (arith, full);
  low = omega (arith, full, room_of_pair p (h.taken + 1));
  wrote = subst (λ t. Wrote start now t after)
      (ap (λ b. capture f p cs ++ flat b) (are ∙ ap₂ (λ q xs. pair_beats q xs h.taken) period placed) ∙ sym (capture-more f p cs more h.taken from low full))
      (puts start (capture f p cs) wrote);
}

pub idles-append : (m n : ℕ) → idles m ++ idles n ≡ idles (m + n)
idles-append zero n = let same : 0 + n ≡ n = omega arith in ap idles (sym same)
idles-append (suc m) n = let next : suc m + n ≡ suc (m + n) = omega arith in ap (λ cs. Idle ∷ cs) (idles-append m n) ∙ ap idles (sym next)

pub length-with_pairs : (p : ℕ) (cs : List Column) (n : ℕ) → AreWhole p cs → length (with_pairs p cs n) ≡ columns_before p (whole_pairs p (length cs) + n)
length-with_pairs p cs n whole =
    let t = whole_pairs p (length cs) in
    length-append cs (idles (columns_before p (t + n) - length cs)) ∙ ap (λ k. length cs + k) (length-replicate (columns_before p (t + n) - length cs) Idle)
    ∙ omega (arith, whole, wides-mono p t n)

pub with_no_pairs : (p : ℕ) (cs : List Column) → AreWhole p cs → with_pairs p cs 0 ≡ cs
with_no_pairs p cs whole =
    let t = whole_pairs p (length cs) in
    let same : t + 0 ≡ t = omega arith in
    let none : columns_before p (t + 0) - length cs ≡ 0 = omega (arith, whole, ap (columns_before p) same) in
    ap (λ n. cs ++ idles n) none ∙ append-nil cs

-- one pair of idles more
pub with_one_pair : (p : ℕ) (cs : List Column) (n : ℕ) → AreWhole p cs → with_pairs p (with_pairs p cs n) 1 ≡ with_pairs p cs (n + 1)
with_one_pair p cs n whole =
    let t = whole_pairs p (length cs) in
    let size = length-with_pairs p cs n whole in
    let count : whole_pairs p (length (with_pairs p cs n)) ≡ t + n =
    ap (whole_pairs p) size ∙ whole_pairs-is p (columns_before p (t + n)) (t + n) (omega arith) (room_of_pair p (t + n)) in
    let last = columns_before p (t + (n + 1)) in
    let place : t + n + 1 ≡ t + (n + 1) = omega arith in
    let more : columns_before p (whole_pairs p (length (with_pairs p cs n)) + 1) ≡ last = ap (λ k. columns_before p (k + 1)) count ∙ ap (columns_before p) place in
    let rise = room_of_pair p (t + n) in
    ap₂ (λ a b. with_pairs p cs n ++ idles (a - b)) more size
    ∙ append_assoc cs (idles (columns_before p (t + n) - length cs)) (idles (last - columns_before p (t + n)))
    ∙ ap (λ xs. cs ++ xs) (idles-append (columns_before p (t + n) - length cs) (last - columns_before p (t + n))
    ∙ ap idles (omega (arith, whole, wides-mono p t n, rise, ap (columns_before p) place)))

-- the pair in hand, filled with idles
module _ (old : State) (f : ℕ) (p : ℕ) (cs : List Column) (owed : ℕ) (start held : Option (List ℕ)) (pending : List ℕ) (o : HasSent old f p cs owed start held pending) where
  abbrev filled : Sending
  filled = with_idles o.history (end_column o.history - length o.history.placed)

  taken-is : whole_pairs p (length cs) ≡ o.history.taken
  taken-is = whole_pairs-is p (length cs) o.history.taken o.from o.low

  filled-placed : filled.placed ≡ with_pairs p cs 1
  filled-placed =
      ap₂ (λ xs q. xs ++ idles (columns_before q (o.history.taken + 1) - length xs)) o.placed o.period
      ∙ ap (λ t. cs ++ idles (columns_before p (t + 1) - length cs)) (sym taken-is)

  filled-size : length (with_pairs p cs 1) ≡ columns_before p (o.history.taken + 1)
  filled-size =
      let n = columns_before p (whole_pairs p (length cs) + 1) - length cs in
      length-append cs (idles n) ∙ ap (λ k. length cs + k) (length-replicate n Idle) ∙ omega (arith, o.low, ap (λ t. columns_before p (t + 1)) taken-is)

  pub filled-full : is_full filled ≡ true
  filled-full =
      eq-eqb (length filled.placed) (end_column o.history)
      (ap length filled-placed ∙ filled-size ∙ ap (λ q. columns_before q (o.history.taken + 1)) (sym o.period))

  module _ (mid : State) (fills : (h : Sending) → Stands old h → Stands mid (with_idles h (end_column h - length h.placed))) where
    pub filled-stands : Stands mid filled
    filled-stands = fills o.history o.stands

    module _ (now : Option (List ℕ)) where
      pub idle-pair-sent : (new : State) (after : List ℕ) → ((h : Sending) → Stands mid h → Stands new (after_take h))
          → ((h : Sending) → Stands mid h → Puts held pending (flat (pair_beats h.period h.placed h.taken)) now after)
          → HasSent new f p (with_pairs p cs 1) owed start now after
      idle-pair-sent new after takes puts =
          pair-sent new filled f p cs (idles (columns_before p (whole_pairs p (length cs) + 1) - length cs)) owed start held now pending after
          (pair_beats filled.period filled.placed filled.taken) o.debt o.period filled-placed o.from o.low filled-size o.wrote refl
          (takes filled filled-stands) (puts filled filled-stands)

      pub idle-pair-failed : ((h : Sending) → Stands mid h → BreaksOff held pending (flat (pair_beats h.period h.placed h.taken)) now)
          → AppendsFront start now (capture f p (with_pairs p cs 1))
      idle-pair-failed failed =
          subst (AppendsFront start now)
          (ap (λ b. capture f p cs ++ flat b) (ap₂ (λ q xs. pair_beats q xs o.history.taken) o.period filled-placed)
          ∙ sym (capture-more f p cs (idles (columns_before p (whole_pairs p (length cs) + 1) - length cs)) o.history.taken o.from o.low filled-size))
          (failed filled filled-stands start (capture f p cs) o.wrote)

-- more pairs of idles go on with the first ones
with_pairs-front : (p : ℕ) (cs : List Column) (m n : ℕ) → AreWhole p cs → m ≤ n → (more : List Column) × (with_pairs p cs n ≡ with_pairs p cs m ++ more)
with_pairs-front p cs m n whole few =
    let t = whole_pairs p (length cs) in
    let a = columns_before p (t + m) - length cs in
    let b = columns_before p (t + n) - columns_before p (t + m) in
    let there : t + n ≡ t + m + (n - m) = omega (arith, few) in
    let count : columns_before p (t + n) - length cs ≡ a + b =
    omega (arith, whole, wides-mono p t m, wides-mono p (t + m) (n - m), ap (wides_before p) there) in
    (idles b, ap (λ k. cs ++ idles k) count ∙ ap (λ xs. cs ++ xs) (sym (idles-append a b)) ∙ sym (append_assoc cs (idles a) (idles b)))

-- a front of the capture of fewer pairs is one of the capture of more
pub front-pairs : (f : ℕ) (p : ℕ) (cs : List Column) (m n : ℕ) (start now : Option (List ℕ)) → AreWhole p cs → m ≤ n
    → AppendsFront start now (capture f p (with_pairs p cs m))
    → AppendsFront start now (capture f p (with_pairs p cs n))
front-pairs f p cs m n start now whole few front =
    let more = with_pairs-front p cs m n whole few in
    let rest = capture-front f p (with_pairs p cs m) more.0 in
    subst (AppendsFront start now) (sym (ap (capture f p) more.1 ∙ rest.1)) (front-more start now (capture f p (with_pairs p cs m)) rest.0 front)

-- pairs of idles, one by one
pub idle-pairs-none : (s : State) (f : ℕ) (p : ℕ) (cs : List Column) (owed : ℕ) (start held : Option (List ℕ)) (pending : List ℕ)
    → HasSent s f p cs owed start held pending → AreWhole p cs
    → HasSent s f p (with_pairs p cs 0) owed start held pending
idle-pairs-none s f p cs owed start held pending o whole = subst (λ xs. HasSent s f p xs owed start held pending) (sym (with_no_pairs p cs whole)) o

pub idle-pairs-next : (s : State) (f : ℕ) (p : ℕ) (cs : List Column) (n : ℕ) (owed : ℕ) (start held : Option (List ℕ)) (pending : List ℕ) → AreWhole p cs
    → HasSent s f p (with_pairs p (with_pairs p cs n) 1) owed start held pending → HasSent s f p (with_pairs p cs (n + 1)) owed start held pending
idle-pairs-next s f p cs n owed start held pending whole o = subst (λ xs. HasSent s f p xs owed start held pending) (with_one_pair p cs n whole) o

pub idle-pairs-failed : (f : ℕ) (p : ℕ) (cs : List Column) (n m : ℕ) (start now : Option (List ℕ)) → AreWhole p cs → n < m
    → AppendsFront start now (capture f p (with_pairs p (with_pairs p cs n) 1)) → AppendsFront start now (capture f p (with_pairs p cs m))
idle-pairs-failed f p cs n m start now whole few front =
    front-pairs f p cs (n + 1) m start now whole (omega (arith, few)) (subst (λ xs. AppendsFront start now (capture f p xs)) (with_one_pair p cs n whole) front)
