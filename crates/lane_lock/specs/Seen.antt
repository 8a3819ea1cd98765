-- What a lock keeps of the octets that it took.
--     mark w          the number of the marker that the window w matches, or 16
--     row_at line n   the marks of the eight windows of a line that begin after its place n
--     row_of octets   the marks of the eight windows that end in the last of sixteen octets
--     last_octets os  the last fifteen octets, with zeros before the first
--     state_of h      what a history leaves
use Rattle.std.specs.Prelude.{◌≡◌, ℕ, ◌+◌, ◌-◌, ◌*◌, ◌==◌, nat_le, nat_lt, Bool, ◌&&◌, List, [], ◌∷◌, ◌++◌, length, replicate, slice_index, Option, Some, None, unwrap_or}
use Rattle.circular_buffer.specs.Buffer.{keep_last}
use Rattle.bit_lists.specs.Bits.{all_bits}
use Rattle.bit_lists.specs.Places.{least, for_each}
use Rattle.marker_table.specs.Matches.{window, matched}
use Rattle.lane_lock.specs.declared.Found.{Found}
use Rattle.lane_lock.specs.Locks.{found}

unfoldable pub mark : List ℕ → ℕ
mark w = unwrap_or (matched w) 16

-- the bits, with 120 zeros before them
unfoldable pub padded : List ℕ → List ℕ
padded octets = replicate 120 0 ++ all_bits 8 octets

-- the marks of the eight windows of a line that begin after its place n
unfoldable pub row_at : List ℕ → ℕ → List ℕ
row_at line n = for_each 8 (λ j. mark (window line (n + j + 1)))

-- the marks of the eight windows that end in the last of sixteen octets
abbrev pub row_of : List ℕ → List ℕ
row_of octets = row_at (all_bits 8 octets) 0

-- in column j of two rows that lie a period apart stands the same number, at a place that counts
unfoldable pub hit : List ℕ → List ℕ → ℕ → ℕ → ℕ → Bool
hit now before taken bound j = nat_le bound (taken + j) && (slice_index now j == slice_index before j) && nat_lt (slice_index now j) 16

-- the place of such a column
unfoldable pub hit_found : List ℕ → ℕ → ℕ → Option ℕ → Option Found
hit_found now taken period None = None
hit_found now taken period (Some j) = Some (record { place = taken + j - (period + 119); number = slice_index now j })

-- the earliest place of two rows that lie a period apart
abbrev pub earliest_of : List ℕ → List ℕ → ℕ → ℕ → ℕ → Option Found
earliest_of now before taken from period = hit_found now taken period (least (hit now before taken (from + period + 119)) 0 8)

-- what is found after a row more, where this was found before and this is the row a marker period before it
unfoldable pub next_found : Option Found → Option (List ℕ) → List ℕ → ℕ → ℕ → ℕ → Option Found
next_found (Some f) before now taken from period = Some f
next_found None None now taken from period = None
next_found None (Some before) now taken from period = earliest_of now before taken from period

-- fifteen octets of zeros, which come before the first octet
abbrev pub silence : List ℕ
silence = replicate 15 0

abbrev pub last_octets : List ℕ → List ℕ
last_octets octets = keep_last 15 (silence ++ octets)

-- What a lock knows: the marker period in bits, `from`, how many bits were taken, the octets that it keeps, how many bits it has
-- room for, and what is found.
pub record Lock : Type 0 where
  pub period : ℕ
  pub from : ℕ
  pub taken : ℕ
  pub kept : List ℕ
  pub room : ℕ
  pub found : Option Found

-- The history of a lock: the period in pairs, the octets taken, and the place of the last restart.
pub record Hearing : Type 0 where
  pub period : ℕ
  pub octets : List ℕ
  pub from : ℕ

-- with an octet more
abbrev pub heard : Hearing → ℕ → Hearing
heard h octet = record h { octets = h.octets ++ octet ∷ [] }

abbrev pub found_of : Hearing → Option Found
found_of h = found (680 * h.period) (all_bits 8 h.octets) h.from

-- what a history leaves
unfoldable pub state_of : Hearing → Lock
state_of h = record {
  period = 680 * h.period;
  from = h.from;
  taken = 8 * length h.octets;
  kept = keep_last (85 * h.period + 15) (silence ++ h.octets);
  room = 680 * h.period + 120;
  found = found_of h;
}

-- this is the state that the history leaves
unfoldable pub Stands : Lock → Hearing → Type 0
Stands lock h = lock ≡ state_of h

-- after this history no window that ends in the octet matches a number
abbrev pub IsQuiet : Hearing → ℕ → Type 0
IsQuiet h octet = row_at (padded (h.octets ++ octet ∷ [])) (8 * length h.octets) ≡ replicate 8 16
