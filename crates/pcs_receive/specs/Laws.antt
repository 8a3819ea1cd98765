-- What the laws of events and columns say.
--     EventsGrow             what is told of a capture's first beats stands
--     EventsGoByHunts        the events of a hunt, by what it comes to
--     BadBitsDoNotCount      no unmarked column depends on the bits of a bad pair
--     BadPairsCloseFrames    no frame is open behind a bad pair
--     PairsHaveAllColumns    how many columns a pair has
use Rattle.std.specs.Prelude.{◌≡◌, ℕ, ◌+◌, ◌*◌, ◌%◌, ◌==◌, ◌<◌, true, false, if◌then◌else◌, List, [], ◌∷◌, ◌++◌, length, take, reverse, slice_range, Some, None}
use Rattle.bit_lists.specs.Places.{joined}
use Rattle.pcs_bits.specs.Captures.{Capture, longer}
use Rattle.mac_columns.specs.declared.column.Column.{Column}
use Rattle.mac_columns.specs.Frames.{open_frame}
use Rattle.scramble58.specs.Scrambling.{ones58, descrambled}
use Rattle.pcs_send.specs.Transmission.{wides_before, wides_of_pair}
use Rattle.lane_deskew.specs.declared.AlignFault.{AlignFault}
use Rattle.lane_deskew.specs.declared.Order.{Order}
use Rattle.lane_deskew.specs.Alignments.{unfound, failed, aligned, align}
use Rattle.pcs_receive.specs.Reports.{Rows}
use Rattle.pcs_receive.specs.Received.{pair_at, is_bad, is_marked, four_errors, columns_of_wide, payload_of_pair, payload, columns_of_pair, received}
use Rattle.pcs_receive.specs.Events.{Event, events, column_events, failure, third_bad, pairs_of, end_of_pair, alignment_events, frame_events, column_events_of_pair}

-- the events of a capture's first beats are a prefix of those of the capture
pub record EventsGrow : Type 0 where
  pub with_frames : (c : Capture) (more : List (List ℕ)) (skew : ℕ)
      → (rest : List Event) × (events (longer c more) skew 0 ≡ events c skew 0 ++ rest)
  pub with_columns : (c : Capture) (more : List (List ℕ)) (skew : ℕ)
      → (rest : List Event) × (column_events (longer c more) skew 0 ≡ column_events c skew 0 ++ rest)

-- Where no alignment is found there are no events. A failure comes before the events of the hunt behind it. An alignment comes with the
-- events of its pairs, and where it is lost, before the events of the hunt from the place of the loss on.
pub record GoesByHunts (of_pair : ℕ → List Rows → ℕ → List Event) (events_from : Capture → ℕ → ℕ → List Event) : Type 0 where
  pub at_nothing : (c : Capture) (skew from : ℕ) → align c skew from ≡ unfound → events_from c skew from ≡ []
  pub at_failure : (c : Capture) (skew from at : ℕ) (fault : AlignFault) → align c skew from ≡ failed at fault
      → events_from c skew from ≡ failure fault ∷ events_from c skew (at + 120)
  pub at_alignment : (c : Capture) (skew from : ℕ) (o : Order) → align c skew from ≡ aligned o → third_bad (pairs_of c o) ≡ None
      → events_from c skew from ≡ alignment_events of_pair c.period o (pairs_of c o)
  pub at_loss : (c : Capture) (skew from i : ℕ) (o : Order) → align c skew from ≡ aligned o → third_bad (pairs_of c o) ≡ Some i
      → events_from c skew from ≡ alignment_events of_pair c.period o (pairs_of c o) ++ events_from c skew (end_of_pair o i)

pub record EventsGoByHunts : Type 0 where
  pub with_frames : GoesByHunts frame_events events
  pub with_columns : GoesByHunts column_events_of_pair column_events

-- the columns of pair i, where these stand for the payload bits of all pairs
abbrev pub columns_with : List ℕ → ℕ → List Rows → ℕ → List Column
columns_with ys p pairs i =
    joined (wides_of_pair p i)
    (λ w. let n = wides_before p i + w in
    if is_marked pairs i w then four_errors else columns_of_wide (slice_range (descrambled ones58 ys) (257 * n) (257 * n + 257)))

-- Whatever bits stand for the payload of the bad pairs, the columns are the same.
abbrev pub BadBitsDoNotCount : Type 0
BadBitsDoNotCount =
    (p : ℕ) (pairs : List Rows) (ys : List ℕ) → length ys ≡ length (payload p pairs)
    → ((i : ℕ) → i < length pairs → is_bad pairs i ≡ false
    → slice_range ys (257 * wides_before p i) (257 * wides_before p (i + 1)) ≡ payload_of_pair p i (pair_at pairs i))
    → (i : ℕ) → i < length pairs → columns_with ys p pairs i ≡ columns_of_pair p pairs i

-- no frame is open behind the columns up to those of a bad pair
abbrev pub BadPairsCloseFrames : Type 0
BadPairsCloseFrames =
    (p : ℕ) (pairs : List Rows) (i : ℕ) → i < length pairs → is_bad pairs i ≡ true → open_frame (reverse (received p (take (i + 1) pairs))) ≡ None

-- a pair that begins with a group has 128 columns, and each other pair 160
abbrev pub PairsHaveAllColumns : Type 0
PairsHaveAllColumns = (p : ℕ) (pairs : List Rows) (i : ℕ) → length (columns_of_pair p pairs i) ≡ (if i % p == 0 then 128 else 160)
