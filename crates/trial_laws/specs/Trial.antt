-- A trial: frames made from a seed, sent, damaged and received.
--     trial_capture seed count p    the capture that is received
--     trial_summary seed count p    what the summary tells
--     trial_text seed count p       its seven lines
use Rattle.std.specs.Prelude.{ℕ, ◌+◌, ◌-◌, ◌*◌, ◌%◌, ◌^◌, Bool, true, false, ◌&&◌, if◌then◌else◌, min, List, [], ◌∷◌, ◌++◌, length, filter_map, sum_by, codes, decimal, bytes_eq, unwrap_or}
use Rattle.mac_columns.specs.declared.column.Column.{Column}
use Rattle.mac_columns.specs.Items.{item_frame}
use Rattle.pcs_bits.specs.Captures.{Capture}
use Rattle.pcs_send.specs.Lanes.{beats_of}
use Rattle.pcs_send.specs.Transmission.{whole_pairs, carried}
use Rattle.pcs_send.specs.SentFrames.{columns_of_items, transmitted}
use Rattle.lane_impair.specs.Impairments.{impaired}
use Rattle.pcs_receive.specs.Events.{Event, report, events, good}
use Rattle.trial_laws.specs.declared.summary.Summary.{Summary}
use Rattle.trial_laws.specs.TrialFrames.{trial_frames}
use Rattle.trial_laws.specs.Damage.{trial_items, damaged}

-- the seed of the damage
abbrev pub next_seed : ℕ → ℕ
next_seed seed = (seed + 1) % 2 ^ 64

-- the greatest skew
abbrev pub limit_of : ℕ → ℕ
limit_of p = min 8192 (340 * p - 1)

-- the columns of the frames and gaps that are made
abbrev pub made_columns : ℕ → ℕ → List Column
made_columns seed count = columns_of_items (trial_frames seed count)

-- the columns that are sent, with a lead of two periods and a tail of one
abbrev pub trial_columns : ℕ → ℕ → ℕ → List Column
trial_columns seed count p = transmitted p 2 1 (trial_frames seed count)

abbrev pub trial_pairs : ℕ → ℕ → ℕ → ℕ
trial_pairs seed count p = whole_pairs p (length (trial_columns seed count p))

abbrev pub trial_lanes : ℕ → ℕ → ℕ → List (List ℕ)
trial_lanes seed count p = carried p (trial_columns seed count p)

-- a burst in each pair behind the lead, and then the order and the skews
unfoldable pub received_lanes : ℕ → ℕ → ℕ → List (List ℕ)
received_lanes seed count p =
    impaired (damaged (next_seed seed) (2 * p) (trial_lanes seed count p)) (trial_items (next_seed seed) (limit_of p))

unfoldable pub trial_capture : ℕ → ℕ → ℕ → Capture
trial_capture seed count p = record { period = p; beats = beats_of (received_lanes seed count p) }

-- the symbols that the report of a pair tells as corrected
abbrev pub corrected_of : Event → ℕ
corrected_of (report told) = unwrap_or told.a 0 + unwrap_or told.b 0
corrected_of event = 0

unfoldable pub corrected : Capture → ℕ → ℕ
corrected c skew = sum_by corrected_of (events c skew 0)

-- the frames given are those made, all of them, in order
abbrev pub are_same : List (List ℕ) → List (List ℕ) → Bool
are_same [] [] = true
are_same (given ∷ back) (made ∷ frames) = bytes_eq given made && are_same back frames
are_same back frames = false

abbrev pub line_of : List ℕ → ℕ → List ℕ
line_of name n = name ++ decimal n ++ codes "\n"

-- the seven lines of a summary
abbrev pub summary_text : Summary → List ℕ
summary_text s =
    line_of (codes "frames ") s.frames ++ line_of (codes "octets ") s.octets ++ line_of (codes "columns ") s.columns
    ++ line_of (codes "pairs ") s.pairs ++ line_of (codes "corrected ") s.corrected ++ line_of (codes "back ") s.back
    ++ (if s.equal then codes "equal yes\n" else codes "equal no\n")

abbrev pub made_frames : ℕ → ℕ → List (List ℕ)
made_frames seed count = filter_map item_frame (trial_frames seed count)

unfoldable pub trial_summary : ℕ → ℕ → ℕ → Summary
trial_summary seed count p =
    let c = trial_capture seed count p in
    let back = good c (limit_of p) in
    record {
      frames = count;
      octets = sum_by length (made_frames seed count);
      columns = length (made_columns seed count);
      pairs = trial_pairs seed count p;
      corrected = corrected c (limit_of p);
      back = length back;
      equal = are_same back (made_frames seed count);
    }

abbrev pub trial_text : ℕ → ℕ → ℕ → List ℕ
trial_text seed count p = summary_text (trial_summary seed count p)
