-- What `report` makes of a capture: a line for each event, and at the end of the input a line for each watcher that is left.
use Rattle.std.specs.Prelude.{ℕ, ◌+◌, ◌%◌, nat_lt, if◌then◌else◌, List, [], ◌∷◌, ◌++◌, length, codes, decimal, map, filter_map, Option, Some, None}
use Rattle.std.specs.List.{flat_map}
use Rattle.mac_columns.specs.declared.gather.Why.{Why}
use Rattle.mac_columns.specs.declared.gather.Why.TheVariants as why
use Rattle.lane_deskew.specs.declared.AlignFault.{AlignFault}
use Rattle.lane_deskew.specs.declared.AlignFault.TheVariants.{TwoLanes, Skew}
use Rattle.lane_deskew.specs.declared.Order.{Order}
use Rattle.pcs_watch.specs.declared.Report.{Report}
use Rattle.pcs_watch.specs.Watching.{Seen as Watched, told_all, left_after}
use Rattle.pcs_receive.specs.Events.{Event, failure, alignment, report, frame, frame_dropped, lost, group, column, events}
use Rattle.pcs_drive.specs.CaptureCommand.{BeatsText, CaptureText}
use Rattle.pcs_top.specs.EventTexts.{EventText, capture, has_alignment}
use Rattle.pcs_top.specs.Decoding.{by_header}

abbrev pub failure_line : AlignFault → List ℕ
failure_line (TwoLanes number) = codes "failed lanes " ++ decimal number ++ codes "\n"
failure_line (Skew least most) = codes "failed skew " ++ decimal least ++ codes " " ++ decimal most ++ codes "\n"

-- the lane number that a capture lane carries, as a digit of `0` to `9` or `a` to `f`
abbrev pub lane_digit : ℕ → ℕ
lane_digit number = if nat_lt (number % 16) 10 then 48 + number % 16 else 87 + number % 16

abbrev pub alignment_line : Order → List ℕ
alignment_line order = codes "aligned " ++ decimal order.at ++ codes " " ++ map lane_digit order.numbers ++ codes "\n"

-- the symbols corrected in a word, or `-` where no codeword is near
abbrev pub corrected_text : Option ℕ → List ℕ
corrected_text None = codes "-"
corrected_text (Some count) = decimal count

-- numbers with commas between them
abbrev pub commas : List ℕ → List ℕ
commas [] = []
commas (n ∷ []) = decimal n
commas (n ∷ m ∷ ns) = decimal n ++ codes "," ++ commas (m ∷ ns)

abbrev pub report_line : Report → List ℕ
report_line r =
    codes "pair " ++ decimal r.pair ++ codes " " ++ corrected_text r.a ++ codes " " ++ corrected_text r.b ++ codes " " ++ commas r.wrong ++ codes "\n"

-- a word and a number
abbrev pub number_line : List ℕ → ℕ → List ℕ
number_line word number = word ++ decimal number ++ codes "\n"

abbrev pub drop_line : Why → List ℕ
drop_line why.Error = codes "dropped error\n"
drop_line why.Start = codes "dropped start\n"
drop_line why.Idle = codes "dropped idle\n"
drop_line why.Long = codes "dropped long\n"
drop_line why.Set = codes "dropped set\n"

abbrev pub event_line : Event → List ℕ
event_line (failure fault) = failure_line fault
event_line (alignment order) = alignment_line order
event_line (report r) = report_line r
event_line (frame octets) = number_line (codes "frame ") (length octets)
event_line (frame_dropped why) = drop_line why
event_line (lost place) = number_line (codes "lost ") place
event_line group = []
event_line (column c) = []

abbrev pub report_of_event : Event → Option Report
report_of_event (report r) = Some r
report_of_event event = None

-- the reports among events
unfoldable pub reports_of : List Event → List Report
reports_of es = filter_map report_of_event es

-- what is seen of the watchers of a list
abbrev pub seen_all : {W : Type 0} → List W → (W → Watched) → List Watched
seen_all watchers view = map view watchers

-- what an event makes of watchers: a report is told to them all
abbrev pub told_event : Event → List Watched → List Watched
told_event (report r) watchers = told_all r watchers
told_event event watchers = watchers

-- a space and a number for each number of the tally
unfoldable pub numbers_text : List ℕ → List ℕ
numbers_text numbers = flat_map (λ number. codes " " ++ decimal number) numbers

abbrev pub tally_line : Watched → List ℕ
tally_line w = codes "tally " ++ w.name ++ numbers_text w.tally ++ codes "\n"

-- a line for each watcher, in order
unfoldable pub tally_text : List Watched → List ℕ
tally_text watchers = flat_map tally_line watchers

unfoldable pub event_lines : List Event → List ℕ
event_lines es = flat_map event_line es

-- the lines of events, and then those of the watchers that are left after their reports
abbrev pub told_report : List Watched → EventText
told_report watchers = record {
  so_far = event_lines;
  whole = λ es. event_lines es ++ tally_text (left_after (reports_of es) watchers);
}

-- the text of a report, for a period and a limit of the skew
abbrev pub report_text : List Watched → ℕ → ℕ → BeatsText
report_text watchers period skew = record {
  so_far = λ beats. event_lines (events (capture period beats) skew 0);
  whole = λ beats. (told_report watchers).whole (events (capture period beats) skew 0);
  is_aligned = λ beats. has_alignment (events (capture period beats) skew 0);
}

abbrev pub reported : List Watched → ℕ → CaptureText
reported watchers = by_header (report_text watchers)
