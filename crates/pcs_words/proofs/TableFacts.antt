-- What `clap` computes of the table of commands.
use Rattle.std.proofs.Common.{◌≡◌, ◌∙◌, true, false, refl, sym, ap, subst, List, [], ◌∷◌, Some, codes, filter}
use Rattle.std.specs.Str.{bytes_eq}
use Rattle.clap.specs.Words.{App, Row, Rule, Text, fault_of, is_simple, is_simple_and_free, subcommand_of}
use Rattle.clap.specs.Simple.{Shape, argument_words, built, built_leaf, filled, with_index}
use Rattle.clap.specs.Faults.{level_fault}
use Rattle.clap.specs.Walk.{nothing_held, rows_after}
use Rattle.clap.proofs.OnLiterals.{clap_on_literals}
use Rattle.pcs_words.specs.Table.{count_rule, demux_app, encode_app, flag_rule, impair_app, items_rule, mux_app, option_rule, pcap_app, pcs_app, seed_rule, skew_app, trial_app}
use Rattle.pcs_words.specs.Options.{HasDemux, HasEncode, HasItems, HasMux, HasPcap, HasSkew, HasTrial}
use Rattle.pcs_words.proofs.Entering.{Enters, accepted-enters, only-shape}
use Rattle.pcs_words.proofs.OptionFacts.{Answers, flag-of-rule, number-of-rule, rule-read, unsigned-of-rule}

pub pcs_is_simple : is_simple pcs_app ≡ true
unfolding clap_on_literals pcs_app
pcs_is_simple = refl

pub pcs_is_free : is_simple_and_free pcs_app ≡ true
unfolding clap_on_literals pcs_app
pcs_is_free = refl

-- accepted words enter a command
pub pcs-enters : (words : List Text) → fault_of pcs_app words ≡ [] → Enters (built pcs_app) (argument_words pcs_app words)
unfolding pcs_app
pcs-enters words none = accepted-enters (built pcs_app) (argument_words pcs_app words) refl refl none

-- a command as it is when the words are read
abbrev ready : App → Shape
ready app = built_leaf app.top

-- the rows are those that accepted words leave of this command
pub record AreRowsOf (x : Shape) (rows : List Row) : Type 0 where
  pub rest : List Text
  pub rows_are : rows ≡ rows_after x.rules [] rest
  pub accepted : level_fault x [] nothing_held rest false [] ≡ []

same-pair : (p q : Text × List Row) → Some p ≡ Some q → (p.0 ≡ q.0) × (p.1 ≡ q.1)
same-pair p q same =
    let pair : p ≡ q = cc in
    (ap (λ (x : Text × List Row). x.0) pair, ap (λ (x : Text × List Row). x.1) pair)

rows-of : (name n : Text) (x : Shape) (rows : List Row) (words : List Text) → filter (λ y. bytes_eq y.name name) (built pcs_app).subs ≡ x ∷ []
    → fault_of pcs_app words ≡ [] → subcommand_of pcs_app words ≡ Some (n, rows) → n ≡ name → AreRowsOf x rows
rows-of name n x rows words only none entered is =
    let enters = pcs-enters words none in
    let same = same-pair (n, rows) (enters.shape.name, rows_after enters.shape.rules [] enters.rest) (sym entered ∙ enters.rows) in
    let shape_is = only-shape name (built pcs_app).subs x enters.shape only enters.known (sym same.0 ∙ is) in
    record {
      rest = enters.rest;
      rows_are = same.1 ∙ ap (λ (y : Shape). rows_after y.rules [] enters.rest) shape_is;
      accepted = subst (λ (y : Shape). level_fault y [] nothing_held enters.rest false [] ≡ []) shape_is enters.accepted;
    }

-- ---- the options of each command

abbrev form : Rule
form = filled (option_rule (codes "form") 1 2 (codes "1"))

abbrev period : Rule
period = filled (option_rule (codes "period") 1 65536 (codes "4096"))

abbrev lead : Rule
lead = filled (option_rule (codes "lead") 0 64 (codes "2"))

abbrev tail : Rule
tail = filled (option_rule (codes "tail") 0 64 (codes "1"))

answers-encode : Answers form (ready encode_app) × Answers period (ready encode_app) × Answers lead (ready encode_app) × Answers tail (ready encode_app)
unfolding clap_on_literals
answers-encode = (
  record { gives = refl; there = refl; negates = refl; alone = refl },
  record { gives = refl; there = refl; negates = refl; alone = refl },
  record { gives = refl; there = refl; negates = refl; alone = refl },
  record { gives = refl; there = refl; negates = refl; alone = refl },
)

encode-rows : (rows : List Row) → AreRowsOf (ready encode_app) rows → HasEncode rows
encode-rows rows of = rw of.rows_are (record {
  form = number-of-rule 1 2 form (ready encode_app) of.rest answers-encode.0 refl of.accepted;
  period = number-of-rule 1 65536 period (ready encode_app) of.rest answers-encode.1 refl of.accepted;
  lead = number-of-rule 0 64 lead (ready encode_app) of.rest answers-encode.2 refl of.accepted;
  tail = number-of-rule 0 64 tail (ready encode_app) of.rest answers-encode.3 refl of.accepted;
})

encode-only : filter (λ y. bytes_eq y.name (codes "encode")) (built pcs_app).subs ≡ ready encode_app ∷ []
unfolding clap_on_literals pcs_app
encode-only = refl

pub encode-has : (n : Text) (rows : List Row) (words : List Text) → fault_of pcs_app words ≡ [] → subcommand_of pcs_app words ≡ Some (n, rows)
    → n ≡ codes "encode" → HasEncode rows
encode-has n rows words none entered is = encode-rows rows (rows-of (codes "encode") n (ready encode_app) rows words encode-only none entered is)

-- ---- the commands with a skew limit

abbrev skew : Rule
skew = filled (option_rule (codes "skew") 0 100000 (codes "8192"))

answers-skew : (name : Text) → Answers skew (ready (skew_app name))
unfolding clap_on_literals
answers-skew name = record { gives = refl; there = refl; negates = refl; alone = refl }

skew-rows : (name : Text) (rows : List Row) → AreRowsOf (ready (skew_app name)) rows → HasSkew rows
skew-rows name rows of = rw of.rows_are (number-of-rule 0 100000 skew (ready (skew_app name)) of.rest (answers-skew name) refl of.accepted)

skew-only : (filter (λ y. bytes_eq y.name (codes "decode")) (built pcs_app).subs ≡ ready (skew_app (codes "decode")) ∷ [])
    × (filter (λ y. bytes_eq y.name (codes "report")) (built pcs_app).subs ≡ ready (skew_app (codes "report")) ∷ [])
    × (filter (λ y. bytes_eq y.name (codes "columns")) (built pcs_app).subs ≡ ready (skew_app (codes "columns")) ∷ [])
    × (filter (λ y. bytes_eq y.name (codes "migrate")) (built pcs_app).subs ≡ ready (skew_app (codes "migrate")) ∷ [])
unfolding clap_on_literals pcs_app
skew-only = (refl, refl, refl, refl)

pub decode-has : (n : Text) (rows : List Row) (words : List Text) → fault_of pcs_app words ≡ [] → subcommand_of pcs_app words ≡ Some (n, rows)
    → n ≡ codes "decode" → HasSkew rows
decode-has n rows words none entered is = skew-rows (codes "decode") rows (rows-of (codes "decode") n _ rows words skew-only.0 none entered is)

pub report-has : (n : Text) (rows : List Row) (words : List Text) → fault_of pcs_app words ≡ [] → subcommand_of pcs_app words ≡ Some (n, rows)
    → n ≡ codes "report" → HasSkew rows
report-has n rows words none entered is = skew-rows (codes "report") rows (rows-of (codes "report") n _ rows words skew-only.1 none entered is)

pub columns-has : (n : Text) (rows : List Row) (words : List Text) → fault_of pcs_app words ≡ [] → subcommand_of pcs_app words ≡ Some (n, rows)
    → n ≡ codes "columns" → HasSkew rows
columns-has n rows words none entered is = skew-rows (codes "columns") rows (rows-of (codes "columns") n _ rows words skew-only.2 none entered is)

pub migrate-has : (n : Text) (rows : List Row) (words : List Text) → fault_of pcs_app words ≡ [] → subcommand_of pcs_app words ≡ Some (n, rows)
    → n ≡ codes "migrate" → HasSkew rows
migrate-has n rows words none entered is = skew-rows (codes "migrate") rows (rows-of (codes "migrate") n _ rows words skew-only.3 none entered is)

-- ---- `trial`

abbrev seed : Rule
seed = with_index 1 (filled seed_rule)

abbrev count : Rule
count = with_index 2 (filled count_rule)

abbrev short_period : Rule
short_period = filled (option_rule (codes "period") 1 4096 (codes "4"))

answers-trial : Answers seed (ready trial_app) × Answers count (ready trial_app) × Answers short_period (ready trial_app)
unfolding clap_on_literals
answers-trial = (
  record { gives = refl; there = refl; negates = refl; alone = refl },
  record { gives = refl; there = refl; negates = refl; alone = refl },
  record { gives = refl; there = refl; negates = refl; alone = refl },
)

trial-only : filter (λ y. bytes_eq y.name (codes "trial")) (built pcs_app).subs ≡ ready trial_app ∷ []
unfolding clap_on_literals pcs_app
trial-only = refl

trial-rows : (rows : List Row) → AreRowsOf (ready trial_app) rows → HasTrial rows
trial-rows rows of = rw of.rows_are (record {
  seed = unsigned-of-rule 0 18446744073709551615 seed (ready trial_app) of.rest answers-trial.0 refl of.accepted;
  count = number-of-rule 0 100000 count (ready trial_app) of.rest answers-trial.1 refl of.accepted;
  period = number-of-rule 1 4096 short_period (ready trial_app) of.rest answers-trial.2 refl of.accepted;
})

pub trial-has : (n : Text) (rows : List Row) (words : List Text) → fault_of pcs_app words ≡ [] → subcommand_of pcs_app words ≡ Some (n, rows)
    → n ≡ codes "trial" → HasTrial rows
trial-has n rows words none entered is = trial-rows rows (rows-of (codes "trial") n (ready trial_app) rows words trial-only none entered is)

-- ---- `mux`, `demux` and `pcap`

abbrev phase : Rule
phase = filled (option_rule (codes "phase") 0 255 (codes "0"))

abbrev gap : Rule
gap = filled (option_rule (codes "gap") 0 1000000 (codes "2"))

answers-others : Answers (filled (flag_rule (codes "precode"))) (ready mux_app) × Answers phase (ready demux_app) × Answers gap (ready pcap_app)
    × Answers (filled (flag_rule (codes "short"))) (ready pcap_app) × Answers (filled (flag_rule (codes "write"))) (ready pcap_app)
unfolding clap_on_literals
answers-others = (
  record { gives = refl; there = refl; negates = refl; alone = refl },
  record { gives = refl; there = refl; negates = refl; alone = refl },
  record { gives = refl; there = refl; negates = refl; alone = refl },
  record { gives = refl; there = refl; negates = refl; alone = refl },
  record { gives = refl; there = refl; negates = refl; alone = refl },
)

others-only : (filter (λ y. bytes_eq y.name (codes "mux")) (built pcs_app).subs ≡ ready mux_app ∷ [])
    × (filter (λ y. bytes_eq y.name (codes "demux")) (built pcs_app).subs ≡ ready demux_app ∷ [])
    × (filter (λ y. bytes_eq y.name (codes "pcap")) (built pcs_app).subs ≡ ready pcap_app ∷ [])
    × (filter (λ y. bytes_eq y.name (codes "impair")) (built pcs_app).subs ≡ ready impair_app ∷ [])
unfolding clap_on_literals pcs_app
others-only = (refl, refl, refl, refl)

mux-rows : (rows : List Row) → AreRowsOf (ready mux_app) rows → HasMux rows
mux-rows rows of = rw of.rows_are (flag-of-rule (filled (flag_rule (codes "precode"))) (ready mux_app) of.rest answers-others.0 refl of.accepted)

demux-rows : (rows : List Row) → AreRowsOf (ready demux_app) rows → HasDemux rows
demux-rows rows of = rw of.rows_are (number-of-rule 0 255 phase (ready demux_app) of.rest answers-others.1 refl of.accepted)

pcap-rows : (rows : List Row) → AreRowsOf (ready pcap_app) rows → HasPcap rows
pcap-rows rows of = rw of.rows_are (record {
  gap = number-of-rule 0 1000000 gap (ready pcap_app) of.rest answers-others.2 refl of.accepted;
  short = flag-of-rule (filled (flag_rule (codes "short"))) (ready pcap_app) of.rest answers-others.3 refl of.accepted;
  write = flag-of-rule (filled (flag_rule (codes "write"))) (ready pcap_app) of.rest answers-others.4 refl of.accepted;
})

pub mux-has : (n : Text) (rows : List Row) (words : List Text) → fault_of pcs_app words ≡ [] → subcommand_of pcs_app words ≡ Some (n, rows)
    → n ≡ codes "mux" → HasMux rows
mux-has n rows words none entered is = mux-rows rows (rows-of (codes "mux") n (ready mux_app) rows words others-only.0 none entered is)

pub demux-has : (n : Text) (rows : List Row) (words : List Text) → fault_of pcs_app words ≡ [] → subcommand_of pcs_app words ≡ Some (n, rows)
    → n ≡ codes "demux" → HasDemux rows
demux-has n rows words none entered is = demux-rows rows (rows-of (codes "demux") n (ready demux_app) rows words others-only.1 none entered is)

pub pcap-has : (n : Text) (rows : List Row) (words : List Text) → fault_of pcs_app words ≡ [] → subcommand_of pcs_app words ≡ Some (n, rows)
    → n ≡ codes "pcap" → HasPcap rows
pcap-has n rows words none entered is = pcap-rows rows (rows-of (codes "pcap") n (ready pcap_app) rows words others-only.2 none entered is)

-- ---- `impair`

abbrev items : Rule
items = with_index 1 (filled items_rule)

answers-items : Answers items (ready impair_app)
unfolding clap_on_literals
answers-items = record { gives = refl; there = refl; negates = refl; alone = refl }

impair-rows : (rows : List Row) → AreRowsOf (ready impair_app) rows → HasItems rows
impair-rows rows of = rw of.rows_are (
    let read = rule-read items (ready impair_app) of.rest answers-items of.accepted in
    record { first = read.first; behind = read.behind; are = read.values })

pub impair-has : (n : Text) (rows : List Row) (words : List Text) → fault_of pcs_app words ≡ [] → subcommand_of pcs_app words ≡ Some (n, rows)
    → n ≡ codes "impair" → HasItems rows
impair-has n rows words none entered is = impair-rows rows (rows-of (codes "impair") n (ready impair_app) rows words others-only.3 none entered is)
