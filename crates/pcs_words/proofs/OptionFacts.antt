-- The number or the flag that a rule's value is.
use Rattle.std.proofs.Common.{◌≡◌, ◌∙◌, ◌≤◌, ◌||◌, ℕ, Bool, cond, true, false, not, refl, ap, arith, List, [], ◌∷◌, drop, Some, None, inl, inr, ◌⊎◌, filter, codes, unwrap_or, pos, ne_eqb}
use Rattle.std.proofs.lemmas.Bool.{or_cases}
use Rattle.std.specs.Prelude.{◌==◌}
use Rattle.std.specs.Str.{bytes_eq}
use Rattle.std.specs.Str.Parse.{IsNumeral, starts_with_minus, without_leading_plus}
use Rattle.std.proofs.lemmas.Slice.Eq.{bytes_eq-Decides}
use Rattle.std.proofs.lemmas.Int.{ints}
use Rattle.std.proofs.lemmas.Str.Parse.{digit_from_value}
use Rattle.clap.specs.Lexer.{without_minus}
use Rattle.clap.specs.Values.{IsSignedIn, IsUnsignedIn}
use Rattle.clap.specs.ValueTests.{accepts}
use Rattle.clap.proofs.ValueTestLemmas.{accepts-Accepts}
use Rattle.clap.specs.Simple.{Shape}
use Rattle.clap.specs.Faults.{level_fault}
use Rattle.clap.specs.Walk.{Row, Rule, Text, is_empty, nothing_held, one_of, rows_after}
use Rattle.clap.specs.declared.builder.value_parser.ValueParser.TheVariants as vp
use Rattle.pcs_words.specs.Options.{IsFlag, IsNumber, number_of}
use Rattle.pcs_words.proofs.UsesPass.{gives_value}
use Rattle.pcs_words.proofs.WalkPasses.{Only}
use Rattle.pcs_words.proofs.LevelReads.{IsIn, IsRead, level-read}

-- ---- numbers

without_minus-cond : (text : Text) → without_minus text ≡ cond (starts_with_minus text) (drop 1 text) text
without_minus-cond [] = refl
without_minus-cond (x ∷ xs) = go (x == 45)
  where
    go : (b : Bool) → unwrap_or (cond b (Some xs) None) (x ∷ xs) ≡ cond b xs (x ∷ xs)
    go true = refl
    go false = refl

no-plus : (digits : Text) → IsNumeral 10 digits → without_leading_plus digits ≡ digits
no-plus [] numeral = refl
no-plus (d ∷ digits) numeral =
    let plus : (d == 43) ≡ false = ne_eqb _ _ (λ is. omega (arith, digit_from_value d numeral.1.0)) in
    ap (λ (b : Bool). drop (cond b 1 0) (d ∷ digits)) plus

-- what a text comes to that passed a range without negative numbers
pub record IsNumberIn (least most : ℕ) (text : Text) : Type 0 where
  pub numeral : IsNumeral 10 (without_leading_plus text)
  pub low : least ≤ number_of text
  pub high : number_of text ≤ most

signed-number : (least most : ℕ) (text : Text) → IsSignedIn (pos least) (pos most) text → IsNumberIn least most (without_minus text)
signed-number least most text passed = rw (without_minus-cond text) (go (starts_with_minus text) refl)
  where
    go : (b : Bool) → starts_with_minus text ≡ b → IsNumberIn least most (cond b (drop 1 text) text)
    go true minus =
        let low = rw minus at passed.2 in
        let numeral : IsNumeral 10 (drop 1 text) = rw minus at passed.0 in
        let plain = no-plus (drop 1 text) numeral in
        record { numeral = rw plain numeral; low = rw plain (omega (arith, ints)); high = rw plain (omega (arith, ints)) }
    go false minus =
        let low = rw minus at passed.2 in
        let high = rw minus at passed.3 in
        let numeral : IsNumeral 10 (without_leading_plus text) = rw minus at passed.0 in
        record { numeral = numeral; low = omega (arith, ints); high = omega (arith, ints) }

number-read : (least most : ℕ) (a : Rule) (rows : List Row) → a.parser ≡ Some (vp.Signed (pos least) (pos most)) → IsRead a rows → IsNumber a.id least most rows
number-read least most a rows parser read =
    let passed : accepts a.ignore_case (vp.Signed (pos least) (pos most)) read.first ≡ true = rw parser at read.passes in
    let number = signed-number least most read.first (accepts-Accepts a.ignore_case (vp.Signed (pos least) (pos most)) read.first passed) in
    let text : one_of a.id rows ≡ Some (without_minus read.first) = rw parser at read.text in
    record { text = without_minus read.first; is = text; numeral = number.numeral; low = number.low; high = number.high }

unsigned-read : (least most : ℕ) (a : Rule) (rows : List Row) → a.parser ≡ Some (vp.Unsigned least most) → IsRead a rows → IsNumber a.id least most rows
unsigned-read least most a rows parser read =
    let passed : accepts a.ignore_case (vp.Unsigned least most) read.first ≡ true = rw parser at read.passes in
    let number : IsUnsignedIn least most read.first = accepts-Accepts a.ignore_case (vp.Unsigned least most) read.first passed in
    let text : one_of a.id rows ≡ Some read.first = rw parser at read.text in
    record { text = read.first; is = text; numeral = number.0; low = number.2; high = number.3 }

-- ---- flags

flag-read : (a : Rule) (rows : List Row) → a.parser ≡ Some vp.Bool → IsRead a rows → IsFlag a.id rows
flag-read a rows parser read =
    let passed : (bytes_eq read.first (codes "true") || bytes_eq read.first (codes "false")) ≡ true = rw parser at read.passes in
    let text : one_of a.id rows ≡ Some read.first = rw parser at read.text in
    elim (or_cases _ _ passed) [
      | inl is ↦ inl (text ∙ ap Some ((bytes_eq-Decides read.first (codes "true")).0 is))
      | inr is ↦ inr (text ∙ ap Some ((bytes_eq-Decides read.first (codes "false")).0 is))
    ]

-- ---- a rule of a command

-- the rule has its value after each parse without a fault; each part computes at a rule that is written out
pub record Answers (a : Rule) (s : Shape) : Type 0 where
  pub gives : gives_value a ≡ true
  pub there : (not (is_empty a.defaults) || a.required) ≡ true
  pub negates : s.subcommand_negates_reqs ≡ false
  pub alone : filter (λ b. bytes_eq b.id a.id) s.rules ≡ a ∷ []

none-left : (a : Rule) (rules : List Rule) → filter (λ b. bytes_eq b.id a.id) rules ≡ [] → Only a rules
none-left a [] none = tt
none-left a (b ∷ rules) none = go (none-left a rules) (bytes_eq b.id a.id) refl none
  where
    go : (filter (λ x. bytes_eq x.id a.id) rules ≡ [] → Only a rules) → (t : Bool) → bytes_eq b.id a.id ≡ t
        → cond t (b ∷ filter (λ x. bytes_eq x.id a.id) rules) (filter (λ x. bytes_eq x.id a.id) rules) ≡ [] → (b.id ≡ a.id → b ≡ a) × Only a rules
    go rest true is none = absurd (cc)
    go rest false is none = (λ own. let same : bytes_eq b.id a.id ≡ true = (bytes_eq-Decides b.id a.id).1 own in absurd (cc), rest none)

alone-only : (a : Rule) (rules : List Rule) → filter (λ b. bytes_eq b.id a.id) rules ≡ a ∷ [] → Only a rules × IsIn a rules
alone-only a [] alone = absurd (cc)
alone-only a (b ∷ rules) alone = go (alone-only a rules) (bytes_eq b.id a.id) refl alone
  where
    go : (filter (λ x. bytes_eq x.id a.id) rules ≡ a ∷ [] → Only a rules × IsIn a rules) → (t : Bool) → bytes_eq b.id a.id ≡ t
        → cond t (b ∷ filter (λ x. bytes_eq x.id a.id) rules) (filter (λ x. bytes_eq x.id a.id) rules) ≡ a ∷ []
        → ((b.id ≡ a.id → b ≡ a) × Only a rules) × ((b ≡ a) ⊎ IsIn a rules)
    go rest true is alone =
        let first : b ≡ a = cc in
        let none : filter (λ x. bytes_eq x.id a.id) rules ≡ [] = cc in
        ((λ own. first, none-left a rules none), inl first)
    go rest false is alone =
        let later = rest alone in
        ((λ own. let same : bytes_eq b.id a.id ≡ true = (bytes_eq-Decides b.id a.id).1 own in absurd (cc), later.0), inr later.1)

is-there : (defaults : List Text) (required : Bool) → (not (is_empty defaults) || required) ≡ true → (is_empty defaults ≡ false) ⊎ (required ≡ true)
is-there defaults required there = go (is_empty defaults) there
  where
    go : (t : Bool) → (not t || required) ≡ true → (t ≡ false) ⊎ (required ≡ true)
    go true there = inr there
    go false there = inl refl

-- the value of a rule after words without a fault
pub rule-read : (a : Rule) (s : Shape) (words : List Text) → Answers a s → level_fault s [] nothing_held words false [] ≡ [] → IsRead a (rows_after s.rules [] words)
rule-read a s words answers none =
    let alone = alone-only a s.rules answers.alone in
    level-read a s [] words [] answers.gives alone.0 alone.1 (is-there a.defaults a.required answers.there) answers.negates none

pub number-of-rule : (least most : ℕ) (a : Rule) (s : Shape) (words : List Text) → Answers a s → a.parser ≡ Some (vp.Signed (pos least) (pos most))
    → level_fault s [] nothing_held words false [] ≡ [] → IsNumber a.id least most (rows_after s.rules [] words)
number-of-rule least most a s words answers parser none = number-read least most a _ parser (rule-read a s words answers none)

pub unsigned-of-rule : (least most : ℕ) (a : Rule) (s : Shape) (words : List Text) → Answers a s → a.parser ≡ Some (vp.Unsigned least most)
    → level_fault s [] nothing_held words false [] ≡ [] → IsNumber a.id least most (rows_after s.rules [] words)
unsigned-of-rule least most a s words answers parser none = unsigned-read least most a _ parser (rule-read a s words answers none)

pub flag-of-rule : (a : Rule) (s : Shape) (words : List Text) → Answers a s → a.parser ≡ Some vp.Bool
    → level_fault s [] nothing_held words false [] ≡ [] → IsFlag a.id (rows_after s.rules [] words)
flag-of-rule a s words answers parser none = flag-read a _ parser (rule-read a s words answers none)
