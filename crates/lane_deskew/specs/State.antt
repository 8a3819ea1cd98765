-- What an aligner knows, and the histories that it stands for.
--     Stands a h       the aligner a knows what the history h leaves
--     held_of a        how many bits the rings hold
--     room_of a        how many bits they have room for
use Rattle.std.specs.Prelude.{◌∷◌, ◌++◌, ◌≡◌, ℕ, ◌+◌, ◌-◌, ◌*◌, ◌/◌, ◌%◌, ◌<◌, ◌≤◌, Bool, true, false, List, [], length, slice_index, slice_index_or, slice_range, Option, Some, None}
use Rattle.circular_buffer.specs.Buffer.{keep_last}
use Rattle.bit_lists.specs.Bits.{all_bits, number}
use Rattle.bit_lists.specs.Places.{for_each}
use Rattle.pcs_bits.specs.Captures.{bit_count, longer}
use Rattle.gf1024.specs.Symbol.{Symbol, symbol}
use Rattle.lane_deskew.specs.declared.AlignFault.{AlignFault}
use Rattle.lane_deskew.specs.declared.Order.{Order}
use Rattle.lane_deskew.specs.Alignments.{Alignment, unfound, failed, aligned, align}
use Rattle.lane_deskew.specs.Ends.{end_of}
use Rattle.lane_deskew.specs.Pairs.{pairs_there, lane_with}
use Rattle.lane_deskew.specs.Lanes.{Lanes, LanesStand, column, lanes_held, lanes_room}
use Rattle.lane_deskew.specs.Turns.{Hunt, rows_by}

-- What an aligner knows: the skew limit, the locks, how many beats were taken, the last of them, how many it has room for, the
-- order once the lanes are aligned, how many pairs it has given since and where the next one ends, the rows of a pair, and
-- whether they are those of the last turn.
pub record Aligner : Type 0 where
  pub skew : ℕ
  pub lanes : Lanes
  pub beats : ℕ
  pub kept : List (List ℕ)
  pub beats_room : ℕ
  pub order : Option Order
  pub given : ℕ
  pub next_end : ℕ
  pub rows : List (List Symbol)
  pub has_pair : Bool

-- how many beats are kept: those of S + 694 bits, in whole octets
abbrev pub beats_kept : ℕ → ℕ
beats_kept skew = (skew + 701) / 8

-- a hunt that isn't over, with its locks, or an alignment all of whose pairs were given; after a turn that gave one, it ends
-- within the last beat
unfoldable pub IsLed : Aligner → Hunt → Option Order → Type 0
IsLed a h None = (align h.heard h.skew h.from ≡ unfound) × LanesStand a.lanes h.heard h.from × (a.has_pair ≡ false)
IsLed a h (Some o) =
    (align h.heard h.skew h.from ≡ aligned o) × (pairs_there h.heard o ≡ h.given) × (a.next_end ≡ end_of o (h.given + 1))
    × (a.has_pair ≡ true → (end_of o h.given ≤ bit_count h.heard) × (bit_count h.heard < end_of o h.given + 8))

pub record Stands (a : Aligner) (h : Hunt) : Type 0 where
  pub led : IsLed a h h.order
  pub skew : a.skew ≡ h.skew
  pub period : a.lanes.period ≡ h.heard.period
  pub beats : a.beats ≡ length h.heard.beats
  pub kept : a.kept ≡ keep_last (beats_kept h.skew) h.heard.beats
  pub order : a.order ≡ h.order
  pub given : a.given ≡ h.given
  pub rows : a.has_pair ≡ true → a.rows ≡ rows_by h h.order

-- an aligner that took a beat more of a hunt, whose turn isn't known yet
pub record IsHeard (a : Aligner) (h : Hunt) (beat : List ℕ) : Type 0 where
  pub begun : align h.heard h.skew h.from ≡ unfound
  pub none : h.order ≡ None
  pub lanes : LanesStand a.lanes (longer h.heard (beat ∷ [])) h.from
  pub skew : a.skew ≡ h.skew
  pub beats : a.beats ≡ length h.heard.beats + 1
  pub kept : a.kept ≡ keep_last (beats_kept h.skew) (h.heard.beats ++ beat ∷ [])
  pub order : a.order ≡ h.order
  pub given : a.given ≡ h.given
  pub pair : a.has_pair ≡ false

abbrev pub held_of : Aligner → ℕ
held_of a = 128 * length a.kept + lanes_held a.lanes

abbrev pub room_of : Aligner → ℕ
room_of a = 128 * a.beats_room + lanes_room a.lanes

-- what a hunt comes to whose lanes give this order, by the fault that bars it
abbrev pub by_fault : Order → Option AlignFault → Alignment
by_fault o None = aligned o
by_fault o (Some f) = failed o.at f

-- the octets of a lane in the kept beats, from the one that is octet `first` of all so many beats on
unfoldable pub kept_octets : List (List ℕ) → ℕ → ℕ → ℕ → List ℕ
kept_octets kept beats first l =
    for_each 88 (λ j. slice_index (slice_index_or kept (first - (beats - length kept) + j) []) l)

-- row k of pieces that begin so many bits into the first octets of their lanes
unfoldable pub kept_row : List (List ℕ) → List ℕ → ℕ → List Symbol
kept_row octets shifts k =
    for_each 16 (λ u. let at = slice_index shifts u + 10 * k in
    symbol (number (slice_range (all_bits 8 (column u octets)) at (at + 10))))

-- the rows of pair i, read in the kept beats
unfoldable pub kept_rows : List (List ℕ) → ℕ → Order → ℕ → List (List Symbol)
kept_rows kept beats o i =
    for_each 68 (λ k. for_each 16 (λ u.
    let l = lane_with o u in
    let n = slice_index o.places l + 680 * i in
    symbol (number (slice_range (all_bits 8 (kept_octets kept beats (n / 8) l)) (n % 8 + 10 * k) (n % 8 + 10 * k + 10)))))
