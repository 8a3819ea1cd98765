-- What a `Gather` holds, one column after another.
use Rattle.std.proofs.Common.{◌≡◌, ℕ, true, false, List, [], ◌∷◌, ◌++◌, Option, Some, None, IsSome, refl, sym, ◌∙◌, ap, ◌↔◌, ◌⊎◌, inl, inr, length, length-append, arith}
use Rattle.std.specs.Prelude.{option_and_then, option_map}
use Rattle.std.proofs.lemmas.Bool.{cases_Bool, leb-false, lt-leb}
use Rattle.mac_columns.specs.declared.column.Column.{Column}
use Rattle.mac_columns.specs.declared.column.Column.TheVariants.{Start, Data, End, Idle, Error, Set}
use Rattle.mac_columns.specs.declared.gather.Gathered.{Gathered}
use Rattle.mac_columns.specs.declared.gather.Gathered.TheVariants.{Nothing, Whole, Dropped}
use Rattle.mac_columns.specs.declared.gather.Why.TheVariants as why
use Rattle.mac_columns.specs.declared.gather.Stage.{Stage}
use Rattle.mac_columns.specs.declared.gather.Stage.TheVariants as stage
use Rattle.mac_columns.specs.Frames.{Outcome, whole, dropped, most_octets, is_within, if_within, since_start, open_frame, outcome, answer_of, frame_in, ended_frame}
use Rattle.mac_columns.specs.Gathering.{Gathering, gathering, left_open, after, Takes, HasFrame, Stands}

-- too many octets don't become fewer
pub too-long : (x d y : List ℕ) → is_within (x ++ d) ≡ false → is_within (x ++ (d ++ y)) ≡ false
too-long x d y long =
    lt-leb (length (x ++ (d ++ y))) most_octets (omega (
      arith,
      leb-false (length (x ++ d)) most_octets long,
      length-append x d,
      length-append x (d ++ y),
      length-append d y,
    ))

within-more : (x d : List ℕ) → is_within x ≡ false → is_within (x ++ d) ≡ false
within-more x d long = lt-leb (length (x ++ d)) most_octets (omega (arith, leb-false (length x) most_octets long, length-append x d))

within-twice : (o : Option (List ℕ)) (d : List ℕ)
    → if_within (option_map (λ octets. octets ++ d) o) ≡ if_within (option_map (λ octets. octets ++ d) (if_within o))
within-twice None d = refl
within-twice (Some x) d = elim (cases_Bool (is_within x)) [
  | inl fits ↦ rw fits refl
  | inr long ↦ rw (long, within-more x d long) refl
]

-- the frame that is open, one column after another
pub open-more : (past : List Column) (column : Column) → open_frame (column ∷ past) ≡ left_open (open_frame past) column
unfolding open_frame
open-more past (Start s) = refl
open-more past (Data octets) = within-twice (since_start past) octets
open-more past (End octets) = refl
open-more past Idle = refl
open-more past Error = refl
open-more past (Set o) = refl

-- a frame that is open has the octets that are held
pub is-open : (s : Stage) (octets : List ℕ) (g : Gathering) → gathering s octets ≡ g → IsSome g.open_now
    → (s ≡ stage.Open) × (g.open_now ≡ Some octets)
is-open stage.Closed octets g e some = absurd (let h : false ≡ true = rw (← e) at some in cc)
is-open stage.Open octets g e some = (refl, sym (ap (λ h. h.open_now) e))
is-open stage.Whole octets g e some = absurd (let h : false ≡ true = rw (← e) at some in cc)

-- a frame that the last column ended has the octets that are held
pub is-ended : (s : Stage) (octets : List ℕ) (g : Gathering) → gathering s octets ≡ g → HasFrame g → g.just_ended ≡ Some octets
unfolding HasFrame
is-ended stage.Closed octets g e some = absurd (let h : false ≡ true = rw (← e) at some in cc)
is-ended stage.Open octets g e some = absurd (let h : false ≡ true = rw (← e) at some in cc)
is-ended stage.Whole octets g e some = sym (ap (λ h. h.just_ended) e)

-- where a frame is open
pub takes-data : (octets more : List ℕ) → is_within (octets ++ more) ≡ true
    → Takes (Some octets) (Data more) Nothing (gathering stage.Open (octets ++ more))
unfolding outcome after
takes-data octets more fits = record { answers = rw fits refl; holds = rw fits refl }

pub takes-end : (octets more : List ℕ) → is_within (octets ++ more) ≡ true
    → Takes (Some octets) (End more) Whole (gathering stage.Whole (octets ++ more))
unfolding outcome after
takes-end octets more fits = record { answers = rw fits refl; holds = rw fits refl }

pub takes-long-data : (octets more : List ℕ) → is_within (octets ++ more) ≡ false
    → Takes (Some octets) (Data more) (Dropped why.Long) (gathering stage.Closed octets)
unfolding outcome after
takes-long-data octets more long = record { answers = rw long refl; holds = rw long refl }

pub takes-long-end : (octets more : List ℕ) → is_within (octets ++ more) ≡ false
    → Takes (Some octets) (End more) (Dropped why.Long) (gathering stage.Closed octets)
unfolding outcome after
takes-long-end octets more long = record { answers = rw long refl; holds = rw long refl }

pub takes-start : (octets before s : List ℕ) → octets ≡ [] → Takes (Some before) (Start s) (Dropped why.Start) (gathering stage.Open octets)
unfolding outcome after
takes-start octets before s empty = record { answers = refl; holds = rw empty refl }

-- where none is open
none-open : (s : Stage) (octets : List ℕ) (g : Gathering) → gathering s octets ≡ g → (s ≡ stage.Closed) ⊎ (s ≡ stage.Whole) → None ≡ g.open_now
none-open s octets g e (inl is) = ap (λ h. h.open_now) (rw is at e)
none-open s octets g e (inr is) = ap (λ h. h.open_now) (rw is at e)

pub waits-start : (s : List ℕ) → gathering stage.Open [] ≡ after None (Start s)
unfolding outcome after
waits-start s = refl

pub waits-other : (column : Column) → ((s : List ℕ) → column ≡ Start s → ⊥) → gathering stage.Closed [] ≡ after None column
unfolding outcome after
waits-other (Start s) other = absurd (other s refl)
waits-other (Data octets) other = refl
waits-other (End octets) other = refl
waits-other Idle other = refl
waits-other Error other = refl
waits-other (Set o) other = refl

pub takes-none : (s : Stage) (octets : List ℕ) (old now : Gathering) (column : Column) → gathering s octets ≡ old
    → (s ≡ stage.Closed) ⊎ (s ≡ stage.Whole)
    → now ≡ after None column → Takes old.open_now column Nothing now
unfolding outcome
takes-none s octets old now column e closed is = rw (← none-open s octets old e closed) (record { answers = refl; holds = is })

-- from the column to the columns taken so far
pub takes-answer : (old now : Gathering) (column : Column) (answer : Gathered) → Takes old.open_now column answer now
    → (past : List Column) → Stands old past → answer ≡ answer_of (outcome (open_frame past) column)
unfolding Stands
takes-answer old now column answer takes past stands = takes.answers ∙ ap (λ g. answer_of (outcome g.open_now column)) stands

pub takes-stands : (old now : Gathering) (column : Column) (answer : Gathered) → Takes old.open_now column answer now
    → (past : List Column) → Stands old past → Stands now (column ∷ past)
unfolding Stands after ended_frame
takes-stands old now column answer takes past stands =
    let left : left_open old.open_now column ≡ open_frame (column ∷ past) =
    ap (λ g. left_open g.open_now column) stands ∙ sym (open-more past column) in
    let ended : option_and_then frame_in (outcome old.open_now column) ≡ ended_frame (column ∷ past) =
    ap (λ g. option_and_then frame_in (outcome g.open_now column)) stands in
    takes.holds
    ∙ ap (λ o. record { open_now = o; just_ended = option_and_then frame_in (outcome old.open_now column) }) left
    ∙ ap (λ o. record { open_now = open_frame (column ∷ past); just_ended = o }) ended

whole-has : (o : Option Outcome) → (answer_of o ≡ Whole) ↔ IsSome (option_and_then frame_in o)
whole-has None = (λ e. absurd (cc), λ some. absurd (let h : false ≡ true = some in cc))
whole-has (Some (whole octets)) = (λ e. refl, λ some. refl)
whole-has (Some (dropped why)) = (λ e. absurd (cc), λ some. absurd (let h : false ≡ true = some in cc))

pub takes-frame : (before : Option (List ℕ)) (column : Column) (answer : Gathered) (now : Gathering) → Takes before column answer now
    → (answer ≡ Whole) ↔ HasFrame now
unfolding HasFrame after
takes-frame before column answer now takes = rw (takes.answers, takes.holds) (whole-has (outcome before column))

-- where the answer isn't `Whole`, the column ended no frame
no-frame-in : (o : Option Outcome) (answer : Gathered) → answer ≡ answer_of o → (answer ≡ Whole → ⊥) → option_and_then frame_in o ≡ None
no-frame-in None answer is other = refl
no-frame-in (Some (whole octets)) answer is other = absurd (other is)
no-frame-in (Some (dropped why)) answer is other = refl

pub no-frame : (past : List Column) (column : Column) (answer : Gathered) → answer ≡ answer_of (outcome (open_frame past) column)
    → (answer ≡ Whole → ⊥)
    → ended_frame (column ∷ past) ≡ None
unfolding ended_frame
no-frame past column answer is other = no-frame-in (outcome (open_frame past) column) answer is other
