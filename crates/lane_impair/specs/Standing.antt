-- The state that a history leaves of an impairer.
use Rattle.std.specs.Prelude.{◌≡◌, ℕ, ◌+◌, ◌*◌, ◌<◌, ◌≤◌, ◌^◌, nat_eq, nat_lt, Bool, true, false, if◌then◌else◌, List, length, sum_by, slice_index, Option}
use Rattle.lane_impair.specs.declared.item.Item.{Item}
use Rattle.lane_impair.specs.declared.item.Item.TheVariants.{Drop}
use Rattle.lane_impair.specs.Items.{AreItems}
use Rattle.lane_impair.specs.Impairments.{source, skew_of, changed, beat_count, is_ready}
use Rattle.lane_impair.specs.Spans.{IsQuiet}
use Rattle.lane_impair.specs.Words.{Words, noise_at}
use Rattle.lane_impair.specs.Holding.{Held, HoldsLane}
use Rattle.lane_impair.specs.Histories.{Impairing, lanes_of}

-- The items, and how many there is memory for; the input lane that each output lane carries; the generator of noise; the rows that
-- weren't given; the number of beats taken; up to which beat no item stands at a place; how many beats can be given; whether `finish`
-- was called, and whether `next` answered `None` since the last `take`.
pub record State : Type 0 where
  pub items : List Item
  pub item_room : ℕ
  pub order : List ℕ
  pub noise : Option Words
  pub rows : Held
  pub taken : ℕ
  pub quiet : ℕ
  pub ready : ℕ
  pub finished : Bool
  pub drained : Bool

-- what holds of the fields of every impairer
pub record IsImpairer (items : List Item) (order : List ℕ) (rows : Held) (taken until : ℕ) : Type 0 where
  pub ranges : AreItems items
  pub sixteen : length order ≡ 16
  pub lanes : (l : ℕ) → slice_index order l < 16
  pub short : (l : ℕ) → slice_index rows.lengths l ≤ 6400000 + 8 * taken
  pub early : taken ≤ 2 ^ 40
  pub quiet : IsQuiet items taken until

-- the bits that an item takes out of lane l
abbrev pub drop_count : ℕ → Item → ℕ
drop_count l (Drop lane place count) = if nat_eq lane l then count else 0
drop_count l other = 0

-- there is memory for as many items and rows
abbrev pub SameRoom : State → State → Type 0
SameRoom s t = (t.item_room ≡ s.item_room) × (t.rows.room ≡ s.rows.room)

-- beat b can be given: after `finish` each beat, and before it those that are ready
abbrev pub comes : Impairing → ℕ → Bool
comes h b = if h.finished then nat_lt b (beat_count (lanes_of h.beats) h.items) else is_ready (lanes_of h.beats) h.items b

-- `first` octets hold each skew, and `lag` octets all that is taken out of any lane
pub record Holds (s : State) (h : Impairing) : Type 0 where
  pub items : s.items ≡ h.items
  pub taken : s.taken ≡ length h.beats
  pub given : s.rows.given ≡ h.given
  pub finished : s.finished ≡ h.finished
  pub order : (l : ℕ) → l < 16 → slice_index s.order l ≡ source h.items l
  pub noise : s.noise ≡ noise_at h.items (length h.beats)
  pub lanes : (l : ℕ) → l < 16 → HoldsLane s.rows l (changed h.items (lanes_of h.beats) l)
  pub ready : (b : ℕ) → nat_lt b s.ready ≡ comes h b
  pub first : ℕ
  pub lag : ℕ
  pub skews : (l : ℕ) → l < 16 → skew_of h.items l ≤ 8 * first
  pub drops : (l : ℕ) → l < 16 → sum_by (drop_count l) h.items ≤ 8 * lag
  pub rows : length s.rows.rows + s.rows.given ≡ first + s.taken
  pub room : first + lag + 1 ≤ s.rows.room
  pub waits : s.drained ≡ true → s.finished ≡ false → s.ready ≤ s.rows.given

unfoldable pub Stands : State → Impairing → Type 0
Stands s h = Holds s h
