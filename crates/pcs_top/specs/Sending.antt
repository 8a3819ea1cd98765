-- How far a transmission has come.
use Rattle.std.specs.Prelude.{◌≡◌, ℕ, ◌+◌, ◌-◌, ◌≤◌, ◌<◌, List, [], ◌∷◌, ◌++◌, length, reverse, Option}
use Rattle.mac_columns.specs.declared.column.Column.{Column}
use Rattle.rate_match.specs.Kept.{debt, HasLegalGaps}
use Rattle.pcs_send.specs.Transmission.{columns_before, whole_pairs, carried, begun_columns, lacking, idles}
use Rattle.pcs_send.specs.Histories.{Sending}
use Rattle.pcs_send.specs.Holding.{State, Stands}
use Rattle.pcs_io.specs.Octets.{AppendsFront}
use Rattle.pcs_top.specs.Captures.{capture_octets, begun_octets}
use Rattle.pcs_top.specs.Encoding.{IsTooTight}
use Rattle.pcs_drive.specs.Writing.{Wrote}
use Rattle.pcs_top.specs.declared.encode.Halt.{Halt}
use Rattle.pcs_top.specs.declared.encode.Halt.TheVariants.{TooTight, Failed}
use Rattle.pcs_words.specs.declared.command.EncodeOptions.{EncodeOptions}

-- The sender has placed these columns and is left with this debt, all their whole pairs were taken, and the capture of these is written
-- but what is pending.
pub record HasSent (sender : State) (f : ℕ) (p : ℕ) (columns : List Column) (owed : ℕ)
    (start held : Option (List ℕ)) (pending : List ℕ) : Type 0 where
  pub history : Sending
  pub stands : Stands sender history
  pub period : history.period ≡ p
  pub placed : history.placed ≡ columns
  pub debt : history.debt ≡ owed
  pub from : columns_before p history.taken ≤ length columns
  pub low : length columns < columns_before p (history.taken + 1)
  pub wrote : Wrote start held (capture_octets f p (carried p columns)) pending

-- with idles up to the end of so many pairs behind the whole ones
abbrev pub with_pairs : ℕ → List Column → ℕ → List Column
with_pairs p columns n = columns ++ idles (columns_before p (whole_pairs p (length columns) + n) - length columns)

-- no pair is begun
abbrev pub AreWhole : ℕ → List Column → Type 0
AreWhole p columns = columns_before p (whole_pairs p (length columns)) ≡ length columns

-- These columns of the input were put, behind the lead, and had legal gaps.
pub record HasPut (sender : State) (options : EncodeOptions) (columns : List Column) (start held : Option (List ℕ)) (pending : List ℕ) : Type 0 where
  pub sent : HasSent sender options.form options.period (begun_columns options.period options.lead columns) (debt options.period (reverse columns)) start held pending
  pub legal : HasLegalGaps options.period columns
  pub least : 1 ≤ options.period

-- what was begun, and idles that fill its last pair
abbrev pub filled_columns : EncodeOptions → List Column → List Column
filled_columns options columns =
    let begun = begun_columns options.period options.lead columns in begun ++ idles (lacking options.period (length begun))

-- Why a column was not put, where these columns came before it.
abbrev pub ColumnHalts : EncodeOptions → List Column → Column → Option (List ℕ) → Option (List ℕ) → List ℕ → Halt → Type 0
ColumnHalts options before column start held pending TooTight =
    (128 < debt options.period (column ∷ reverse before)) × Wrote start held (begun_octets options before) pending
ColumnHalts options before column start held pending Failed =
    HasLegalGaps options.period (before ++ column ∷ []) × AppendsFront start held (begun_octets options (before ++ column ∷ []))

-- Why not all columns of a line were put, where these columns came before them.
abbrev pub LineHalts : EncodeOptions → List Column → List Column → Option (List ℕ) → Option (List ℕ) → List ℕ → Halt → Type 0
LineHalts options before all start held pending TooTight =
    (own : List Column) × IsTooTight options.period before own all × Wrote start held (begun_octets options (before ++ own)) pending
LineHalts options before all start held pending Failed =
    (own left : List Column) × (all ≡ own ++ left) × HasLegalGaps options.period (before ++ own)
    × AppendsFront start held (begun_octets options (before ++ own))
