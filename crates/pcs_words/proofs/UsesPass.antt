-- What one use of an argument leaves in the rows: the values that an argument has passed its parser.
use Rattle.std.proofs.Common.{◌≡◌, ◌∙◌, ◌<◌, ◌+◌, ◌&&◌, ◌||◌, ℕ, Bool, cond, true, false, not, zero, suc, refl, sym, ap₂, subst, arith, List, [], ◌∷◌, ◌++◌, length, min, nat_lt, length-append}
use Rattle.std.proofs.lemmas.Bool.{and_parts}
use Rattle.std.specs.Prelude.{⊤}
use Rattle.std.specs.List.{list_all}
use Rattle.std.specs.Str.{bytes_eq}
use Rattle.std.proofs.lemmas.Slice.Eq.{bytes_eq-Decides}
use Rattle.std.proofs.lemmas.List.Folds.{list_all-append}
use Rattle.clap.specs.Facts.{unwrap_or_range}
use Rattle.clap.specs.ValueTests.{accepts}
use Rattle.clap.specs.Values.{refused_kind}
use Rattle.clap.specs.Takes.{values_pass, value_passes}
use Rattle.clap.specs.Kinds.{Kinds, or_else, range_kinds, value_kinds, values_kinds}
use Rattle.clap.specs.Faults.{action_fault, use_fault, values_fault}
use Rattle.clap.specs.Walk.{Row, Rule, Text, action_of, at_row, is_empty, more_values, most_values, new_count, reading_by, used, used_as, values_or_missing, with_count, with_values, without, count_of}
use Rattle.clap.specs.declared.builder.value_parser.Reading.{Reading}
use Rattle.clap.specs.declared.builder.value_parser.ValueParser.{ValueParser}
use Rattle.clap.specs.declared.parser.matches.ValueSource.{ValueSource}
use Rattle.clap.specs.declared.parser.matches.ValueSource.TheVariants.{CommandLine}
use Rattle.clap.specs.declared.builder.action.ArgAction.{ArgAction}
use Rattle.clap.specs.declared.builder.action.ArgAction.TheVariants.{Set, Append, SetTrue, SetFalse, Count}

-- the row has values, they all passed the rule's parser, and are read as it says
pub record IsOf (a : Rule) (r : Row) : Type 0 where
  pub some : 0 < length r.values
  pub pass : values_pass a r.values ≡ true
  pub reading : r.reading ≡ reading_by a

-- each row of the rule's id is so
abbrev pub Good : Rule → List Row → Type 0
Good a [] = ⊤
Good a (r ∷ rows) = (r.id ≡ a.id → IsOf a r) × Good a rows

-- the action keeps values
abbrev pub keeps_values : ArgAction → Bool
keeps_values Set = true
keeps_values Append = true
keeps_values SetTrue = true
keeps_values SetFalse = true
keeps_values action = false

-- each use of the argument gives it a value at least
abbrev pub gives_value : Rule → Bool
gives_value a = keeps_values (action_of a) && (nat_lt 0 (unwrap_or_range a.range).start_inclusive || not (is_empty a.missing))

-- ---- no kind

pub neither : (a b : Kinds) → or_else a b ≡ [] → (a ≡ []) × (b ≡ [])
neither [] b none = (refl, none)
neither (k ∷ ks) b none = absurd (cc)

value-passed : (ignore_case : Bool) (parser : ValueParser) (text : Text) → value_kinds ignore_case parser text ≡ [] → accepts ignore_case parser text ≡ true
value-passed ignore_case parser text none = go (accepts ignore_case parser text) none
  where
    go : (b : Bool) → cond b [] (refused_kind parser ∷ []) ≡ [] → b ≡ true
    go true e = refl
    go false e = absurd (cc)

pub values-passed : (ignore_case : Bool) (parser : ValueParser) (values : List Text) → values_kinds ignore_case parser values ≡ []
    → list_all (accepts ignore_case parser) values ≡ true
values-passed ignore_case parser [] none = refl
values-passed ignore_case parser (v ∷ values) none =
    let parts = neither _ _ none in
    rw (value-passed ignore_case parser v parts.0) (values-passed ignore_case parser values parts.1)

values-of-action : (action : ArgAction) (again : Bool) (a : Rule) (values : List Text) (rows : List Row) → keeps_values action ≡ true
    → action_fault action again a values rows ≡ [] → values_fault a values ≡ []
values-of-action Set again a values rows keeps none = (neither _ _ none).1
values-of-action SetTrue again a values rows keeps none = (neither _ _ none).1
values-of-action SetFalse again a values rows keeps none = (neither _ _ none).1
values-of-action Append again a values rows keeps none = none
values-of-action action again a values rows keeps none = absurd (cc)

some-in-range : (least most n : ℕ) → nat_lt 0 least ≡ true → range_kinds least most n ≡ [] → 0 < n
some-in-range least most zero some none =
    let bad = rw some at none in
    absurd (cc)
some-in-range least most (suc n) some none = omega arith

some-values : (a : Rule) (values : List Text) → (nat_lt 0 (unwrap_or_range a.range).start_inclusive || not (is_empty a.missing)) ≡ true
    → range_kinds (unwrap_or_range a.range).start_inclusive (most_values a) (length values) ≡ [] → 0 < length (values_or_missing a values)
some-values a (v ∷ values) gives none = omega arith
some-values a [] gives none = go (nat_lt 0 (unwrap_or_range a.range).start_inclusive) refl a.missing gives
  where
    go : (b : Bool) → nat_lt 0 (unwrap_or_range a.range).start_inclusive ≡ b → (missing : List Text) → (b || not (is_empty missing)) ≡ true → 0 < length missing
    go true is missing some =
        let bad : 0 < 0 = some-in-range _ _ 0 is none in
        absurd (omega arith)
    go false is [] some = absurd (cc)
    go false is (m ∷ missing) some = omega arith

-- what a use without a fault gives
pub use-gives : (again : Bool) (a : Rule) (values : List Text) (rows : List Row) → gives_value a ≡ true → use_fault again a values rows ≡ []
    → (0 < length (values_or_missing a values)) × (values_pass a (values_or_missing a values) ≡ true)
use-gives again a values rows gives none =
    let test = and_parts (keeps_values (action_of a)) _ gives in
    let parts = neither (range_kinds (unwrap_or_range a.range).start_inclusive (most_values a) (length values)) _ none in (
      some-values a values test.1 parts.0,
      values-passed _ _ (values_or_missing a values) (values-of-action (action_of a) again a (values_or_missing a values) rows test.0 parts.1),
    )

-- ---- rows

pub good-append : (a : Rule) (xs ys : List Row) → Good a xs → Good a ys → Good a (xs ++ ys)
good-append a [] ys good more = more
good-append a (x ∷ xs) ys good more = (good.0, good-append a xs ys good.1 more)

at_row-good : (a : Rule) (id : Text) (change : Row → List Row) (missing rows : List Row)
    → ((r : Row) → r.id ≡ id → (r.id ≡ a.id → IsOf a r) → Good a (change r)) → Good a missing → Good a rows → Good a (at_row id change missing rows)
at_row-good a id change missing [] changes miss good = miss
at_row-good a id change missing (r ∷ rows) changes miss good =
    go (at_row-good a id change missing rows changes miss good.1) (bytes_eq r.id id) refl
  where
    go : Good a (at_row id change missing rows) → (b : Bool) → bytes_eq r.id id ≡ b → Good a (cond b (change r ++ rows) (r ∷ at_row id change missing rows))
    go rest true is = good-append a (change r) rows (changes r ((bytes_eq-Decides r.id id).0 is) good.0) good.1
    go rest false is = (good.0, rest)

pub without-good : (a : Rule) (id : Text) (rows : List Row) → Good a rows → Good a (without id rows)
without-good a id rows good = at_row-good a id (λ r. []) [] rows (λ r is old. tt) tt good

-- what values come to that join the rule's rows
pub record Joins (a : Rule) (how : Reading) (values : List Text) : Type 0 where
  pub some : 0 < length values
  pub pass : values_pass a values ≡ true
  pub reading : how ≡ reading_by a

pub with_values-good : (a : Rule) (id : Text) (how : Reading) (source : ValueSource) (values : List Text) (rows : List Row)
    → (id ≡ a.id → Joins a how values) → Good a rows → Good a (with_values id how source values rows)
with_values-good a id how source values rows joins good =
    at_row-good a id (more_values source values) _ rows more
    ((λ is. let new = joins is in record { some = new.some; pass = new.pass; reading = new.reading }), tt) good
  where
    more : (r : Row) → r.id ≡ id → (r.id ≡ a.id → IsOf a r) → Good a (more_values source values r)
    more r is old = (
      (λ own.
          let new = joins (sym is ∙ own) in
          let had = old own in
          record {
            some = omega (arith, had.some, length-append r.values values);
            pass = list_all-append (value_passes a) r.values values ∙ ap₂ ◌&&◌ had.pass new.pass;
            reading = had.reading;
          }),
      tt,
    )

with_count-good : (a : Rule) (id : Text) (how : Reading) (source : ValueSource) (n : ℕ) (rows : List Row)
    → (id ≡ a.id → ⊥) → Good a rows → Good a (with_count id how source n rows)
with_count-good a id how source n rows other good =
    at_row-good a id (new_count source n) _ rows (λ r is old. ((λ own. absurd (other (sym is ∙ own))), tt)) ((λ is. absurd (other is)), tt) good

used_as-good : (action : ArgAction) (a : Rule) (id : Text) (how : Reading) (values : List Text) (rows : List Row)
    → (id ≡ a.id → keeps_values action ≡ true) → (id ≡ a.id → Joins a how values) → Good a rows → Good a (used_as action id how values rows)
used_as-good Set a id how values rows keeps joins good = with_values-good a id how _ values _ joins (without-good a id rows good)
used_as-good SetTrue a id how values rows keeps joins good = with_values-good a id how _ values _ joins (without-good a id rows good)
used_as-good SetFalse a id how values rows keeps joins good = with_values-good a id how _ values _ joins (without-good a id rows good)
used_as-good Append a id how values rows keeps joins good = with_values-good a id how _ values rows joins good
used_as-good Count a id how [] rows keeps joins good = with_count-good a id how CommandLine (min (count_of id rows + 1) 255) (without id rows) (λ is. let bad = keeps is in cc) (without-good a id rows good)
used_as-good Count a id how (v ∷ values) rows keeps joins good = with_values-good a id how _ (v ∷ values) _ joins (without-good a id rows good)
used_as-good action a id how values rows keeps joins good = good

-- a use without a fault, of any argument of the command
pub used-good : (again : Bool) (a b : Rule) (values : List Text) (rows : List Row) → (b.id ≡ a.id → b ≡ a) → gives_value a ≡ true
    → use_fault again b values rows ≡ [] → Good a rows → Good a (used b values rows)
used-good again a b values rows only gives none good =
    used_as-good (action_of b) a b.id (reading_by b) (values_or_missing b values) rows keeps joins good
  where
    keeps : b.id ≡ a.id → keeps_values (action_of b) ≡ true
    keeps is = rw (only is) (and_parts (keeps_values (action_of a)) _ gives).0

    joins : b.id ≡ a.id → Joins a (reading_by b) (values_or_missing b values)
    joins is =
        let same = only is in
        let got = use-gives again a values rows gives (subst (λ (y : Rule). use_fault again y values rows ≡ []) same none) in
        subst (λ (y : Rule). Joins a (reading_by y) (values_or_missing y values)) (sym same) (record { some = got.0; pass = got.1; reading = refl })
