-- What `encode` answers, when, and what stands written.
use Rattle.std.specs.Prelude.{◌≡◌, ℕ, ◌+◌, ◌^◌, ◌<◌, ◌≤◌, ◌⊎◌, List, [], ◌∷◌, ◌++◌, length, reverse, IfSome, Result, Ok, Err}
use Rattle.mac_columns.specs.declared.column.Column.{Column}
use Rattle.rate_match.specs.Kept.{debt, HasLegalGaps}
use Rattle.pcs_io.specs.Octets.{AppendsFront}
use Rattle.pcs_io.specs.Grammars.{Begins, AreLines, EndOpen, IsNear}
use Rattle.pcs_io.specs.FrameLines.{FrameLine, frame_line_at}
use Rattle.pcs_io.specs.declared.source.Failed.{Failed}
use Rattle.pcs_drive.specs.Seen.{Seen, Took, TookAll, Written, ReadFailed, WriteFailed}
use Rattle.pcs_drive.specs.LineCommand.{IsRefused, KeptUp}
use Rattle.pcs_top.specs.Captures.{begun_octets, sent_octets}
use Rattle.pcs_top.specs.LineColumns.{columns_of_line, columns_of_lines}
use Rattle.pcs_words.specs.declared.command.EncodeOptions.{EncodeOptions}
use Rattle.pcs_drive.specs.declared.outcome.Outcome.{Outcome}
use Rattle.pcs_drive.specs.declared.outcome.Outcome.TheVariants.{Done, ReadFault, WriteFault, BadLine, TooTight, TooLong}

-- The columns before a line, and then these of the line, have legal gaps, and the next column of the line brings the debt above 128.
pub record IsTooTight (period : ℕ) (before own all : List Column) : Type 0 where
  pub column : Column
  pub rest : List Column
  pub parts : all ≡ own ++ column ∷ rest
  pub legal : HasLegalGaps period (before ++ own)
  pub debt : 128 < debt period (column ∷ reverse (before ++ own))

-- The lines taken have legal gaps, and this is written: the header, the lead and the whole pairs of their columns.
pub record HasBegun (options : EncodeOptions) (seen : Seen) (columns : List Column) : Type 0 where
  pub legal : HasLegalGaps options.period columns
  pub written : Written seen (begun_octets options columns)

-- where fewer octets are written than the header and the lead have, nothing was taken
abbrev pub HasWaited : EncodeOptions → Seen → Type 0
HasWaited options seen = IfSome seen.held_before (λ before. IfSome seen.held_after (λ after.
    length after < length before + length (begun_octets options []) → seen.told_after ≡ seen.told_before))

-- what lines have begun: the header, the lead and the whole pairs of their columns
abbrev pub begun_text : EncodeOptions → List FrameLine → List ℕ
begun_text options lines = begun_octets options (columns_of_lines lines)

-- A write failed: a front is written of what a front of the columns had begun, or of the whole transmission where the input has ended.
abbrev pub BrokeOff : EncodeOptions → Seen → List ℕ → List FrameLine → Type 0
BrokeOff options seen octets lines =
    ((rest : List ℕ) × Took seen octets × (length octets ≤ 2 ^ 40) × Begins frame_line_at octets lines rest × IsNear frame_line_at rest
    × (columns left : List Column) × (columns_of_lines lines ≡ columns ++ left) × HasLegalGaps options.period columns
    × AppendsFront seen.held_before seen.held_after (begun_octets options columns))
    ⊎ (TookAll seen octets × (length octets < 2 ^ 40) × AreLines frame_line_at octets lines × HasLegalGaps options.period (columns_of_lines lines)
    × AppendsFront seen.held_before seen.held_after (sent_octets options (columns_of_lines lines)))

-- Each answer has its own condition, of the octets taken, which are never more than the limit, and the lines in front of them. Behind a line
-- that is too tight no more was taken than a buffer holds. No other answer is given.
abbrev pub Encoded : EncodeOptions → Seen → Outcome → Type 0
Encoded options seen Done =
    (octets : List ℕ) × (lines : List FrameLine) × TookAll seen octets × (length octets < 2 ^ 40) × AreLines frame_line_at octets lines
    × HasLegalGaps options.period (columns_of_lines lines) × Written seen (sent_octets options (columns_of_lines lines))
Encoded options seen ReadFault =
    (octets : List ℕ) × (lines : List FrameLine) × ReadFailed seen × Took seen octets × (length octets ≤ 2 ^ 40) × EndOpen frame_line_at octets lines
    × HasBegun options seen (columns_of_lines lines)
Encoded options seen WriteFault =
    (octets : List ℕ) × (lines : List FrameLine) × WriteFailed seen × HasWaited options seen × BrokeOff options seen octets lines
    × KeptUp frame_line_at (begun_text options) seen
Encoded options seen (BadLine number kind) =
    (octets : List ℕ) × (lines : List FrameLine) × (number ≡ length lines + 1) × IsRefused frame_line_at seen octets lines kind
    × HasBegun options seen (columns_of_lines lines)
Encoded options seen (TooTight frame) =
    (octets : List ℕ) × (lines : List FrameLine) × (line : FrameLine) × (rest : List ℕ) × (own : List Column) × (frame ≡ length lines + 1)
    × Took seen octets × (length octets ≤ 2 ^ 40) × Begins frame_line_at octets (lines ++ line ∷ []) rest × (length rest ≤ 65536)
    × IsTooTight options.period (columns_of_lines lines) own (columns_of_line line)
    × Written seen (begun_octets options (columns_of_lines lines ++ own))
Encoded options seen TooLong =
    (octets : List ℕ) × (lines : List FrameLine) × Took seen octets × (length octets ≡ 2 ^ 40) × EndOpen frame_line_at octets lines
    × HasBegun options seen (columns_of_lines lines)
Encoded options seen outcome = ⊥

-- where a write fails, the answer is that
abbrev pub Encodes : EncodeOptions → Seen → Result Outcome Failed → Type 0
Encodes options seen (Ok outcome) = Encoded options seen outcome
Encodes options seen (Err failed) = Encoded options seen WriteFault
