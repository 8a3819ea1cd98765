-- What `columns` makes of a capture: the block line of each column that is received, and behind an Idle column those of the idles that are
-- owed there, for which groups stood. What is owed stays owed over a loss and a new alignment.
--     calls_of es        the groups and columns among events, the latest first
--     refilled h         the columns written at these calls
--     column_lines es    their block lines
use Rattle.std.specs.Prelude.{ℕ, List, [], ◌∷◌, ◌++◌, filter_map, replicate, reverse, Option, Some, None}
use Rattle.mac_columns.specs.declared.column.Column.{Column}
use Rattle.mac_columns.specs.declared.column.Column.TheVariants.{Idle}
use Rattle.rate_match.specs.Thinning.{Call, taken, grouped}
use Rattle.rate_match.specs.Refilling.{idles_behind}
use Rattle.pcs_receive.specs.Events.{Event, group, column, column_events}
use Rattle.pcs_drive.specs.CaptureCommand.{BeatsText, CaptureText}
use Rattle.pcs_top.specs.Decoding.{by_header}
use Rattle.pcs_top.specs.EventTexts.{EventText, capture, has_alignment}
use Rattle.pcs_top.specs.Texts.{column_text}

abbrev pub call_of : Event → Option Call
call_of group = Some grouped
call_of (column c) = Some (taken c)
call_of event = None

unfoldable pub calls_of : List Event → List Call
calls_of es = reverse (filter_map call_of es)

-- each column that was taken, and behind it as many Idle columns as are put back there
abbrev pub refilled : List Call → List Column
refilled [] = []
refilled (taken c ∷ past) = refilled past ++ c ∷ replicate (idles_behind past c) Idle
refilled (grouped ∷ past) = refilled past

unfoldable pub column_lines : List Event → List ℕ
column_lines es = column_text (refilled (calls_of es))

-- the same, event by event
abbrev pub told_columns : EventText
told_columns = record { so_far = column_lines; whole = column_lines }

-- the text of the columns of beats, for a period and a limit of the skew
abbrev pub columns_text : ℕ → ℕ → BeatsText
columns_text period skew = record {
  so_far = λ beats. column_lines (column_events (capture period beats) skew 0);
  whole = λ beats. column_lines (column_events (capture period beats) skew 0);
  is_aligned = λ beats. has_alignment (column_events (capture period beats) skew 0);
}

-- the text of the columns of a capture
abbrev pub columned : ℕ → CaptureText
columned = by_header columns_text
