-- What a parse without a fault reads: the rule has its value, which passed the rule's parser.
use Rattle.std.proofs.Common.{◌≡◌, ◌<◌, ◌&&◌, ◌||◌, Bool, cond, true, false, not, refl, sym, ap, subst, arith, List, [], ◌∷◌, length, Some, inl, inr, ◌⊎◌, fold, ne_eqb, ◌++◌, option_map}
use Rattle.std.proofs.lemmas.Bool.{and_parts, or_left, or_right}
use Rattle.std.specs.List.{find, list_any}
use Rattle.std.specs.Option.{option_map_or}
use Rattle.std.specs.Str.{bytes_eq}
use Rattle.std.proofs.lemmas.Slice.Eq.{bytes_eq-Decides}
use Rattle.clap.specs.Facts.{explicit_source, parser_of_value}
use Rattle.clap.specs.Values.{read_as}
use Rattle.clap.specs.Simple.{Shape}
use Rattle.clap.specs.Takes.{is_given, value_passes, values_pass}
use Rattle.clap.specs.Kinds.{Kinds, check_kinds, request_kinds}
use Rattle.clap.specs.Faults.{default_fault, defaults_fault, given_default_fault, level_fault, settle_fault, values_fault, walk_fault}
use Rattle.clap.specs.Walk.{Names, Row, Rule, Text, action_of, all_of, default_rows, finished, has_row, is_empty, more_values, nothing_held, one_of, reading_by, row_text, rows_after, settled, walk, walk_from, with_default, with_values}
use Rattle.clap.specs.declared.builder.value_parser.Reading.{Reading}
use Rattle.clap.specs.declared.parser.matches.ValueSource.{ValueSource}
use Rattle.clap.specs.declared.parser.matches.ValueSource.TheVariants.{DefaultValue}
use Rattle.pcs_words.proofs.UsesPass.{Good, gives_value, neither, values-passed, with_values-good}
use Rattle.pcs_words.proofs.WalkPasses.{Only, settled-good, walk-good}

-- ---- the defaults

default-good : (a b : Rule) (rows : List Row) → (b.id ≡ a.id → b ≡ a) → default_fault rows b ≡ [] → Good a rows → Good a (with_default rows b)
default-good a b rows only none good = go (has_row b.id rows) none
  where
    fill : (values : List Text) → (b.id ≡ a.id → b ≡ a) → cond (is_empty values) [] (given_default_fault b values) ≡ [] → Good a (default_rows b.id (reading_by b) values rows)
    fill [] is e = good
    fill (v ∷ values) is e =
        let some : is_empty (v ∷ values) ≡ false = ne_eqb _ _ (λ zero. omega arith) in
        let none = neither (request_kinds (action_of b)) (values_fault b (v ∷ values)) (rw some at e) in
        let pass = values-passed b.ignore_case (parser_of_value b.parser) (v ∷ values) none.1 in
        with_values-good a b.id (reading_by b) DefaultValue (v ∷ values) rows
        (λ own. record {
          some = omega arith;
          pass = subst (λ (y : Rule). values_pass y (v ∷ values) ≡ true) (is own) pass;
          reading = ap reading_by (is own);
        }) good

    go : (h : Bool) → cond (h || is_empty b.defaults) [] (given_default_fault b b.defaults) ≡ [] → Good a (cond h rows (default_rows b.id (reading_by b) b.defaults rows))
    go true e = good
    go false e = fill b.defaults only e

defaults-good : (a : Rule) (rules : List Rule) (rows : List Row) → Only a rules → defaults_fault rows rules ≡ [] → Good a rows → Good a (fold with_default rows rules)
unfolding defaults_fault
defaults-good a [] rows only none good = good
defaults-good a (b ∷ rules) rows only none good =
    let parts = neither (default_fault rows b) _ none in
    defaults-good a rules (with_default rows b) only.1 parts.1 (default-good a b rows only.0 parts.0 good)

-- ---- a row is there

same-text : (text : Text) → bytes_eq text text ≡ true
same-text text = (bytes_eq-Decides text text).1 refl

row-made : (id : Text) (how : Reading) (source : ValueSource) (values : List Text) (rows : List Row) → has_row id (with_values id how source values rows) ≡ true
row-made id how source values [] = or_left (bytes_eq id id) false (same-text id)
row-made id how source values (r ∷ rows) = go (row-made id how source values rows) (bytes_eq r.id id) refl
  where
    go : has_row id (with_values id how source values rows) ≡ true → (t : Bool) → bytes_eq r.id id ≡ t
        → has_row id (cond t (more_values source values r ++ rows) (r ∷ with_values id how source values rows)) ≡ true
    go rest true is = or_left (bytes_eq r.id id) _ is
    go rest false is = or_right (bytes_eq r.id id) _ rest

row-kept : (id other : Text) (how : Reading) (source : ValueSource) (values : List Text) (rows : List Row)
    → has_row id rows ≡ true → has_row id (with_values other how source values rows) ≡ true
row-kept id other how source values [] is = absurd (cc)
row-kept id other how source values (r ∷ rows) is = go (row-kept id other how source values rows) (bytes_eq r.id id) refl (bytes_eq r.id other) is
  where
    go : (has_row id rows ≡ true → has_row id (with_values other how source values rows) ≡ true) → (own : Bool) → bytes_eq r.id id ≡ own → (t : Bool)
        → (own || has_row id rows) ≡ true → has_row id (cond t (more_values source values r ++ rows) (r ∷ with_values other how source values rows)) ≡ true
    go rest true own true is = or_left (bytes_eq r.id id) _ own
    go rest true own false is = or_left (bytes_eq r.id id) _ own
    go rest false own true is = or_right (bytes_eq r.id id) _ is
    go rest false own false is = or_right (bytes_eq r.id id) _ (rest is)

default-kept : (id : Text) (b : Rule) (rows : List Row) → has_row id rows ≡ true → has_row id (with_default rows b) ≡ true
default-kept id b rows is = go (has_row b.id rows) b.defaults
  where
    go : (t : Bool) (values : List Text) → has_row id (cond t rows (default_rows b.id (reading_by b) values rows)) ≡ true
    go true values = is
    go false [] = is
    go false (v ∷ values) = row-kept id b.id (reading_by b) DefaultValue (v ∷ values) rows is

defaults-kept : (id : Text) (rules : List Rule) (rows : List Row) → has_row id rows ≡ true → has_row id (fold with_default rows rules) ≡ true
defaults-kept id [] rows is = is
defaults-kept id (b ∷ rules) rows is = defaults-kept id rules (with_default rows b) (default-kept id b rows is)

-- the rule gives a default, so there is a row
default-made : (a : Rule) (rows : List Row) → is_empty a.defaults ≡ false → has_row a.id (with_default rows a) ≡ true
default-made a rows some = go (has_row a.id rows) refl a.defaults some
  where
    go : (t : Bool) → has_row a.id rows ≡ t → (values : List Text) → is_empty values ≡ false → has_row a.id (cond t rows (default_rows a.id (reading_by a) values rows)) ≡ true
    go true is values some = is
    go false is [] some = absurd (cc)
    go false is (v ∷ values) some = row-made a.id (reading_by a) DefaultValue (v ∷ values) rows

-- the rule is one of the rules
abbrev pub IsIn : Rule → List Rule → Type 0
IsIn a [] = ⊥
IsIn a (b ∷ rules) = (b ≡ a) ⊎ IsIn a rules

defaults-made : (a : Rule) (rules : List Rule) (rows : List Row) → IsIn a rules → is_empty a.defaults ≡ false → has_row a.id (fold with_default rows rules) ≡ true
defaults-made a [] rows in_rules some = absurd in_rules
defaults-made a (b ∷ rules) rows in_rules some = elim in_rules [
  | inl is ↦ defaults-kept a.id rules (with_default rows b) (subst (λ (y : Rule). has_row a.id (with_default rows y) ≡ true) (sym is) (default-made a rows some))
  | inr later ↦ defaults-made a rules (with_default rows b) later some
]

-- ---- what is required

abbrev wanted : List Row → Rule → Bool
wanted rows a = a.required && not (is_given a.id rows)

none-wanted : (a : Rule) (rules : List Rule) (rows : List Row) → IsIn a rules → list_any (wanted rows) rules ≡ false → wanted rows a ≡ false
none-wanted a [] rows in_rules none = absurd in_rules
none-wanted a (b ∷ rules) rows in_rules none = go (none-wanted a rules rows) (wanted rows b) refl none
  where
    go : (IsIn a rules → list_any (wanted rows) rules ≡ false → wanted rows a ≡ false) → (t : Bool) → wanted rows b ≡ t → (t || list_any (wanted rows) rules) ≡ false → wanted rows a ≡ false
    go rest true is none = absurd (cc)
    go rest false is none = elim in_rules [
      | inl same ↦ subst (λ (y : Rule). wanted rows y ≡ false) same is
      | inr later ↦ rest later none
    ]

given-row : (id : Text) (rows : List Row) → is_given id rows ≡ true → has_row id rows ≡ true
given-row id [] given = absurd (cc)
given-row id (r ∷ rows) given = go (given-row id rows) (bytes_eq r.id id) given
  where
    go : (is_given id rows ≡ true → has_row id rows ≡ true) → (t : Bool) → option_map_or (λ (x : Row). explicit_source x.source) (cond t (Some r) (find (λ x. bytes_eq x.id id) rows)) false ≡ true
        → (t || has_row id rows) ≡ true
    go rest true given = refl
    go rest false given = rest given

required-given : (required given : Bool) → required ≡ true → (required && not given) ≡ false → given ≡ true
required-given true true is none = refl
required-given true false is none = absurd (cc)
required-given false given is none = absurd (cc)

-- the last check, of a command without subcommands
check-passed : (help subcommand argument : Bool) → check_kinds help subcommand argument ≡ [] → argument ≡ false
check-passed true subcommand argument none = absurd (cc)
check-passed false true argument none = absurd (cc)
check-passed false false true none = absurd (cc)
check-passed false false false none = refl

-- ---- the value

-- the first value of a rule, and those behind it
pub record IsRead (a : Rule) (rows : List Row) : Type 0 where
  pub first : Text
  pub behind : List Text
  pub values : all_of a.id rows ≡ Some (first ∷ behind)
  pub text : one_of a.id rows ≡ Some (read_as (reading_by a) first)
  pub passes : value_passes a first ≡ true

row-read : (a : Rule) (r : Row) (values : List Text) → values ≡ r.values → 0 < length values → values_pass a values ≡ true → r.reading ≡ reading_by a
    → (first : Text) × (behind : List Text) × (option_map (λ (x : Row). x.values) (Some r) ≡ Some (first ∷ behind))
    × (row_text r ≡ Some (read_as (reading_by a) first)) × (value_passes a first ≡ true)
row-read a r [] is some pass reading = absurd (omega arith)
row-read a r (v ∷ values) is some pass reading = (v, values, ap Some (sym is), rw (← is, reading) refl, (and_parts (value_passes a v) _ pass).0)

pub good-read : (a : Rule) (rows : List Row) → Good a rows → has_row a.id rows ≡ true → IsRead a rows
good-read a [] good there = absurd (cc)
good-read a (r ∷ rows) good there = go (good-read a rows good.1) (bytes_eq r.id a.id) refl there
  where
    go : (has_row a.id rows ≡ true → IsRead a rows) → (t : Bool) → bytes_eq r.id a.id ≡ t → (t || has_row a.id rows) ≡ true → IsRead a (r ∷ rows)
    go rest true is there =
        let of = good.0 ((bytes_eq-Decides r.id a.id).0 is) in
        let read = row-read a r r.values refl of.some of.pass of.reading in
        record { first = read.0; behind = read.1; values = rw is read.2; text = rw is read.3; passes = read.4 }
    go rest false is there =
        let later = rest there in
        record { first = later.first; behind = later.behind; values = rw is later.values; text = rw is later.text; passes = later.passes }

-- ---- one level

-- the rule's value is there after each parse: it has a default, or is required
abbrev pub IsThere : Rule → Type 0
IsThere a = (is_empty a.defaults ≡ false) ⊎ (a.required ≡ true)

pub level-read : (a : Rule) (s : Shape) (names : Names) (words : List Text) (below : Kinds) → gives_value a ≡ true → Only a s.rules → IsIn a s.rules → IsThere a
    → s.subcommand_negates_reqs ≡ false → level_fault s names nothing_held words false below ≡ [] → IsRead a (rows_after s.rules names words)
level-read a s names words below gives only in_rules there negates none =
    let end = (walk s.rules names nothing_held words).held in
    let walked = neither (walk_fault s names (walk_from nothing_held) words) _ none in
    let entered = neither below _ walked.1 in
    let settling = neither (settle_fault s.rules s.args_override_self end) _ entered.1 in
    let filling = neither (defaults_fault (settled s.rules end).rows s.rules) _ settling.1 in
    let good_end = walk-good a s gives only names words (walk_from nothing_held) walked.0 tt in
    let good_settled = settled-good a s.rules s.args_override_self gives only end settling.0 good_end in
    let rows = finished s.rules end in
    let good = defaults-good a s.rules (settled s.rules end).rows only filling.0 good_settled in
    let checked = check-passed _ _ _ filling.1 in
    let no_argument : list_any (wanted rows) s.rules ≡ false = rw negates at checked in
    good-read a rows good (elim there [
      | inl some ↦ defaults-made a s.rules (settled s.rules end).rows in_rules some
      | inr required ↦ given-row a.id rows (required-given a.required (is_given a.id rows) required (none-wanted a s.rules rows in_rules no_argument))
    ])
