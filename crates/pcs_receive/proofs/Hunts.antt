-- Each hunt begins past the one before it and within the capture, so the events meet their equation.
use Rattle.std.proofs.Common.{◌≡◌, ℕ, zero, suc, ◌+◌, ◌<◌, ◌≤◌, List, [], ◌++◌, refl, sym, ap, ◌∙◌, arith, append-nil, Option, Some, None, inl, inr, subst}
use Rattle.std.specs.Prelude.{◌⊎◌, option_map}
use Rattle.lane_deskew.specs.declared.Order.{Order}
use Rattle.lane_deskew.specs.declared.AlignFault.{AlignFault}
use Rattle.pcs_bits.specs.Captures.{Capture, bit_count}
use Rattle.lane_deskew.specs.Alignments.{Alignment, unfound, failed, aligned, align}
use Rattle.pcs_receive.specs.Reports.{Rows}
use Rattle.pcs_receive.specs.Events.{Event, pairs_of, end_of_pair, third_bad, next_hunt, hunts, hunt_events, alignment_events, events, frame_events, column_events, column_events_of_pair}
use Rattle.pcs_receive.specs.Hunting.{told, all_told}
use Rattle.pcs_receive.specs.Laws.{GoesByHunts}
use Rattle.pcs_receive.proofs.Prefix.{told-none, third_bad-below}
use Rattle.lane_deskew.proofs.PairsThere.{pairs_there-inside}
use Rattle.lane_deskew.proofs.Ends.{Ends, order-ends}
use Rattle.lane_deskew.proofs.Known.{open_hunt, failed_hunt, aligned_hunt, state, reached}
use Rattle.pcs_receive.proofs.PairsOf.{length-pairs_of}

pub next-within : (c : Capture) (from : ℕ) (o : Order) (here : Alignment) (n : ℕ) → Ends c from o →
    (((f : AlignFault) × (here ≡ failed o.at f)) ⊎ (here ≡ aligned o)) → next_hunt c here ≡ Some n → (from < n) × (n ≤ bit_count c)
next-within c from o here n ends (inl f) e =
    let at : Some (o.at + 120) ≡ Some n = sym (ap (next_hunt c) f.1) ∙ e in let same : o.at + 120 ≡ n = cc in
    let a = ends.past in let b = ends.whole in (omega arith, omega arith)
next-within c from o here n ends (inr is) e = go (third_bad (pairs_of c o)) refl
  where
    lost : option_map (end_of_pair o) (third_bad (pairs_of c o)) ≡ Some n
    lost = sym (ap (next_hunt c) is) ∙ e

    go : (t : Option ℕ) → third_bad (pairs_of c o) ≡ t → (from < n) × (n ≤ bit_count c)
    go None none = let bad : None ≡ Some n = sym (ap (option_map (end_of_pair o)) none) ∙ lost in absurd cc
    go (Some i) some =
        let at : Some (end_of_pair o i) ≡ Some n = sym (ap (option_map (end_of_pair o)) some) ∙ lost in let same : end_of_pair o i ≡ n = cc in
        let below = third_bad-below (pairs_of c o) i some in
        let inside = pairs_there-inside c o i (subst (λ k. i < k) (length-pairs_of c o) below) in
        let a = ends.past in let b = ends.last in (omega arith, omega arith)

pub next-inside : (c : Capture) (skew from n : ℕ) → next_hunt c (align c skew from) ≡ Some n → (from < n) × (n ≤ bit_count c)
next-inside c skew from n e = elim (state c skew from) [
  | open_hunt is ↦ let bad : None ≡ Some n = sym (ap (next_hunt c) is) ∙ e in absurd cc
  | failed_hunt fs f is here ↦
      next-within c from (reached c skew fs) (align c skew from) n (order-ends c skew from fs is) (inl (f, here)) e
  | aligned_hunt fs is here ↦
      next-within c from (reached c skew fs) (align c skew from) n (order-ends c skew from fs is) (inr here) e
]

-- enough hunts for all that can come from here
abbrev pub Enough : Capture → ℕ → Option ℕ → Type 0
Enough c k None = Unit {0}
Enough c k (Some from) = (bit_count c + 2 ≤ k + from) × (1 ≤ k)

pub enough-next : (c : Capture) (k from : ℕ) (o : Option ℕ) → ((n : ℕ) → o ≡ Some n → (from < n) × (n ≤ bit_count c)) → Enough c (suc k) (Some from)
    → Enough c k o
enough-next c k from None inside h = tt
enough-next c k from (Some n) inside h = let (low, high) = inside n refl in let a = h.0 in (omega arith, omega arith)

-- more hunts than enough give nothing more
pub told-same : (of_pair : ℕ → List Rows → ℕ → List Event) (c : Capture) (skew k m : ℕ) (o : Option ℕ) →
    Enough c k o → Enough c m o → told of_pair k c skew o ≡ told of_pair m c skew o
told-same of_pair c skew zero m None a b = sym (told-none of_pair m c skew None refl)
told-same of_pair c skew zero m (Some from) a b = let bad = a.1 in absurd (omega arith)
told-same of_pair c skew (suc k) zero None a b = refl
told-same of_pair c skew (suc k) zero (Some from) a b = let bad = b.1 in absurd (omega arith)
told-same of_pair c skew (suc k) (suc m) None a b = refl
told-same of_pair c skew (suc k) (suc m) (Some from) a b =
    let inside = next-inside c skew from in
    ap (λ es. hunt_events of_pair c (align c skew from) ++ es)
    (told-same of_pair c skew k m (next_hunt c (align c skew from))
    (enough-next c k from (next_hunt c (align c skew from)) inside a) (enough-next c m from (next_hunt c (align c skew from)) inside b))

pub column_events-told : (c : Capture) (skew from : ℕ) → column_events c skew from ≡ all_told column_events_of_pair c skew from
unfolding column_events hunts all_told
column_events-told c skew from = refl

pub events-told : (c : Capture) (skew from : ℕ) → events c skew from ≡ all_told frame_events c skew from
unfolding events hunts all_told
events-told c skew from = refl

-- those from a place that may be none
abbrev pub told_on : (ℕ → List Rows → ℕ → List Event) → Capture → ℕ → Option ℕ → List Event
told_on of_pair c skew None = []
told_on of_pair c skew (Some from) = all_told of_pair c skew from

-- The equation of the events: nothing, a failure, or an alignment with its pairs; and then those of the next hunt.
pub told-equation : (of_pair : ℕ → List Rows → ℕ → List Event) (c : Capture) (skew from : ℕ) →
    all_told of_pair c skew from ≡ hunt_events of_pair c (align c skew from) ++ told_on of_pair c skew (next_hunt c (align c skew from))
unfolding all_told
told-equation of_pair c skew from =
    ap (λ es. hunt_events of_pair c (align c skew from) ++ es) (on (next_hunt c (align c skew from)) refl)
  where
    on : (o : Option ℕ) → next_hunt c (align c skew from) ≡ o → told of_pair (suc (bit_count c)) c skew o ≡ told_on of_pair c skew o
    on None is = told-none of_pair (suc (bit_count c)) c skew None refl
    on (Some n) is =
        let (low, high) = next-inside c skew from n is in
        told-same of_pair c skew (suc (bit_count c)) (suc (suc (bit_count c))) (Some n) (omega arith, omega arith) (omega arith, omega arith)

-- the same by what the hunt comes to
pub goes_by_hunts : (of_pair : ℕ → List Rows → ℕ → List Event) → GoesByHunts of_pair (all_told of_pair)
goes_by_hunts of_pair = record {
  at_nothing = λ c skew from is. by c skew from unfound is;
  at_failure = λ c skew from at fault is. by c skew from (failed at fault) is;
  at_alignment = λ c skew from o is none.
      by c skew from (aligned o) is
      ∙ ap (λ t. alignment_events of_pair c.period o (pairs_of c o) ++ told_on of_pair c skew (option_map (end_of_pair o) t)) none
      ∙ append-nil (alignment_events of_pair c.period o (pairs_of c o));
  at_loss = λ c skew from i o is some.
      by c skew from (aligned o) is
      ∙ ap (λ t. alignment_events of_pair c.period o (pairs_of c o) ++ told_on of_pair c skew (option_map (end_of_pair o) t)) some;
}
  where
    by : (c : Capture) (skew from : ℕ) (here : Alignment) → align c skew from ≡ here
        → all_told of_pair c skew from ≡ hunt_events of_pair c here ++ told_on of_pair c skew (next_hunt c here)
    by c skew from here is = told-equation of_pair c skew from ∙ ap (λ a. hunt_events of_pair c a ++ told_on of_pair c skew (next_hunt c a)) is

pub frames_by_hunts : GoesByHunts frame_events events
unfolding events hunts all_told
frames_by_hunts = goes_by_hunts frame_events

pub columns_by_hunts : GoesByHunts column_events_of_pair column_events
unfolding column_events hunts all_told
columns_by_hunts = goes_by_hunts column_events_of_pair
