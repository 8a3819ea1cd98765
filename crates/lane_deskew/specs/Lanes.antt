-- The locks of sixteen lanes, and the captures that they stand for.
--     LanesStand s c from    these locks hunt in the capture c from place `from`
use Rattle.std.specs.Prelude.{◌≡◌, ℕ, ◌+◌, ◌-◌, ◌*◌, ◌<◌, ◌≤◌, ◌^◌, ◌==◌, if◌then◌else◌, List, ◌++◌, replicate, length, map, take, drop, All, IfSome, slice_index, slice_index_or, Option, Some, None, option_map}
use Rattle.circular_buffer.specs.Buffer.{keep_last}
use Rattle.pcs_bits.specs.Captures.{Capture}
use Rattle.lane_lock.specs.declared.Found.{Found}
use Rattle.lane_lock.specs.Seen.{Hearing, found_of, row_of, next_found}

-- The locks of sixteen lanes: the period in pairs; what is found in each lane; the beats that are kept, for how many there is room,
-- and the last fifteen of them; how many beats came before the first one that they took; the place, counted from there, from which
-- they hunt; and how many beats they took.
pub record Lanes : Type 0 where
  pub period : ℕ
  pub founds : List (Option Found)
  pub kept : List (List ℕ)
  pub room : ℕ
  pub recent : List (List ℕ)
  pub start : ℕ
  pub from : ℕ
  pub fed : ℕ

-- the octets of lane l
abbrev pub column : ℕ → List (List ℕ) → List ℕ
column l beats = map (λ beat. slice_index beat l) beats

-- what the lock of lane l took, where the locks began at beat `start`
abbrev pub hearing : Capture → ℕ → ℕ → ℕ → Hearing
hearing c from start l = record { period = c.period; octets = column l (drop start c.beats); from = from - 8 * start }

-- fifteen beats of zeros
abbrev pub silence : List (List ℕ)
silence = replicate 15 (replicate 16 0)

-- the last fifteen beats, with zeros before the first
abbrev pub last_beats : List (List ℕ) → List (List ℕ)
last_beats beats = keep_last 15 (silence ++ beats)

-- the octets of lane l in the first sixteen of the kept beats, once there are as many as there is room for
abbrev pub first_column : List (List ℕ) → ℕ → ℕ → Option (List ℕ)
first_column kept room l = if length kept == room then Some (column l (take 16 kept)) else None

-- what is found in a lane after an octet more: the last sixteen octets are these, and a marker period before them came those
abbrev pub found_after : Option Found → Option (List ℕ) → List ℕ → ℕ → ℕ → ℕ → Option Found
found_after found before octets taken from period = next_found found (option_map row_of before) (row_of octets) taken from period

-- places and numbers are in range
abbrev pub AreFound : List (Option Found) → Type 0
AreFound founds = All (λ (o : Option Found). IfSome o (λ (f : Found). (f.place < 2 ^ 45) × (f.number < 16))) founds

-- these locks took the beats of the capture from a beat on that begins at or before `from`, and hunt from there
pub record LanesStand (s : Lanes) (c : Capture) (from : ℕ) : Type 0 where
  pub period : s.period ≡ c.period
  pub early : 8 * s.start ≤ from
  pub all : s.start + s.fed ≡ length c.beats
  pub place : s.from ≡ from - 8 * s.start
  pub recent : s.recent ≡ last_beats (drop s.start c.beats)
  pub kept : s.kept ≡ keep_last (85 * c.period + 15) (silence ++ drop s.start c.beats)
  pub room : s.room ≡ 85 * c.period + 15
  pub each : (l : ℕ) → l < 16 → slice_index_or s.founds l None ≡ found_of (hearing c from s.start l)

-- what is found so many places further on
abbrev pub shifted : ℕ → Option Found → Option Found
shifted k None = None
shifted k (Some f) = Some (record { place = f.place + k; number = f.number })

-- how many bits the kept beats have
abbrev pub lanes_held : Lanes → ℕ
lanes_held s = 128 * length s.kept

-- for how many there is room
abbrev pub lanes_room : Lanes → ℕ
lanes_room s = 128 * s.room
