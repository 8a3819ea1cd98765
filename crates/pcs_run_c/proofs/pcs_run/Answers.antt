use Rattle.std.proofs.Common.{◌≡◌, ℕ, ◌<◌, ◌&&◌, ◌⊎◌, inl, inr, Bool, true, false, nat_le, if◌then◌else◌, List, length, take, min, refl, sym, ap, ◌∙◌, subst}
use Rattle.std.proofs.lemmas.Bool.{and_parts, cases_lt, false≢true, le-leb, leb-true}
use Rattle.std.proofs.lemmas.List.{take_min, take_all}
use Rattle.pcs_top.specs.Statuses.{number_of}
use Rattle.pcs_top.specs.declared.status.Status.{Status}
use Rattle.pcs_run_c.specs.Words.{words_in}
use Rattle.pcs_run_c.specs.Running.{four_watchers, HasRun, Answers}
use Rattle.pcs_run_c.proofs.Decoded.{headline, any_damage}
use Rattle.pcs_run_c.proofs.pcs_run.Goals as goal

-- what was put is what there is room for
put-front : (count room : ℕ) (new octets all : List ℕ) → count ≡ min (length new) (length octets) → take count new ≡ take count octets → length new ≡ room → octets ≡ all
    → take count new ≡ take room all
put-front count room new octets all is front same held =
    front ∙ ap (λ n. take n octets) is ∙ take_min (length new) octets ∙ ap (λ n. take n octets) same ∙ ap (take room) held

no-room : (a b c d : ℕ) → false ≡ (nat_le a b && nat_le c d) → (b < a) ⊎ (d < c)
no-room a b c d fits = elim (cases_lt b a) [
  | inl long ↦ inl long
  | inr within ↦ elim (cases_lt d c) [ inl long ↦ inr long | inr short ↦ absurd (false≢true (fits ∙ (λ i. le-leb a b within i && le-leb c d short i))) ]
]

-- a run and what was put of it
answered : (fits : Bool) (words input : List ℕ) (room : ℕ) (text line all whole : List ℕ) (status : Status) (number : ℕ)
    → fits ≡ (nat_le (length all) room && nat_le (length whole) 64) → number ≡ (if fits then number_of status else 4) → text ≡ take room all → line ≡ take 64 whole
    → HasRun four_watchers (words_in words) input all whole status → Answers words input room text line number
answered true words input room text line all whole status number fits is front front_line run =
    let within = and_parts (nat_le (length all) room) (nat_le (length whole) 64) (sym fits) in
    let all-text : text ≡ all = front ∙ take_all room all (leb-true (length all) room within.0) in
    let all-line : line ≡ whole = front_line ∙ take_all 64 whole (leb-true (length whole) 64 within.1) in
    let as-put = subst (λ l. HasRun four_watchers (words_in words) input all l status) (sym all-line) run in
    inl (status, subst (λ t. HasRun four_watchers (words_in words) input t line status) (sym all-text) as-put, is)
answered false words input room text line all whole status number fits is front front_line run =
    inr (inl (all, whole, status, run, front, front_line, is, no-room (length all) room (length whole) 64 fits))

pub returns-in-Ok-clause-ran : goal.returns-in-Ok-clause-ran
returns-in-Ok-clause-ran c =
    let text = put-front _ _ _ _ _ c.put.ensures.count c.put.ensures.front c.put.ensures.room c.held.ensures in
    let line = put-front _ _ _ _ _ c.put-in-Ok.ensures.count c.put-in-Ok.ensures.front (c.put-in-Ok.ensures.room ∙ c.told-line) c.held-in-Ok.ensures in
    answered _ _ _ _ _ _ _ _ _ _ refl c.number_within.ensures text line c.in-Ok.ensures

pub returns-in-Ok-clause-headline : goal.returns-in-Ok-clause-headline
returns-in-Ok-clause-headline c = headline _ _ _ _ _ _ (returns-in-Ok-clause-ran c)

pub returns-in-Ok-clause-any_damage : goal.returns-in-Ok-clause-any_damage
returns-in-Ok-clause-any_damage c = any_damage _ _ _ _ _ _ (returns-in-Ok-clause-ran c)
