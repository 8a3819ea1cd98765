-- What the functions of `impair` tell each other: which beats an impairer has given, and what of them is written.
use Rattle.std.specs.Prelude.{◌≡◌, ◌≢◌, ℕ, ◌<◌, true, false, List, ◌++◌, Option}
use Rattle.std.specs.List.{All}
use Rattle.bit_lists.specs.Places.{joined}
use Rattle.lane_impair.specs.declared.item.Item.{Item}
use Rattle.lane_impair.specs.Items.{IsItem}
use Rattle.lane_impair.specs.Impairments.{impaired, is_ready}
use Rattle.lane_impair.specs.Histories.{Impairing, lanes_of, beat_at}
use Rattle.lane_impair.specs.Standing.{State, Stands, comes}
use Rattle.pcs_io.specs.Octets.{AppendsFront}
use Rattle.pcs_io.specs.Headers.{IsHeader, IsHeader2}
use Rattle.pcs_io.specs.declared.header.Header.{Header}
use Rattle.pcs_drive.specs.CaptureCommand.{BeatsText}
use Rattle.pcs_drive.specs.Writing.{Wrote}
use Rattle.pcs_top.specs.Impairing.{impairing}

-- a header that was read: it can be written in its version
pub record IsRead (header : Header) : Type 0 where
  pub first : header.version ≡ 1 → IsHeader header
  pub second : header.version ≢ 1 → IsHeader2 header

-- the same calls, but so many beats given
abbrev pub with_given : Impairing → ℕ → Impairing
with_given h given = record h { given = given }

-- a text, and behind it the beats that were given
unfoldable pub given_text : List ℕ → Impairing → List ℕ
given_text front h = front ++ joined h.given (beat_at (impaired (lanes_of h.beats) h.items))

-- these many beats can be given
abbrev pub AllCome : Impairing → ℕ → Type 0
AllCome h given = (b : ℕ) → b < given → comes h b ≡ true

-- An impairer stands for these calls, and the beats that it has given are put behind a text.
pub record HasGiven (impairer : State) (h : Impairing) (front : List ℕ) (start held : Option (List ℕ)) (pending : List ℕ) : Type 0 where
  pub stands : Stands impairer h
  pub come : AllCome h h.given
  pub wrote : Wrote start held (given_text front h) pending

-- all beats that can be given are given and put
abbrev pub GivesAll : State → State → Option (List ℕ) → List ℕ → Option (List ℕ) → List ℕ → Type 0
GivesAll old new held_old pending_old held_new pending_new =
    (h : Impairing) (front : List ℕ) (start : Option (List ℕ)) → HasGiven old h front start held_old pending_old
    → (given : ℕ) × HasGiven new (with_given h given) front start held_new pending_new × (comes h given ≡ false)

-- a write failed there
abbrev pub BreaksGiving : State → Option (List ℕ) → List ℕ → Option (List ℕ) → Type 0
BreaksGiving old held_old pending_old held_new =
    (h : Impairing) (front : List ℕ) (start : Option (List ℕ)) → HasGiven old h front start held_old pending_old
    → (given : ℕ) × AllCome h given × AppendsFront start held_new (given_text front (with_given h given))

-- The text is that of items, with which the impairer was opened. It has taken these beats and given those that are ready.
pub record IsImpairing (impairer : State) (text : BeatsText) (beats : List (List ℕ)) : Type 0 where
  pub items : List Item
  pub header : Header
  pub given : ℕ
  pub is : text ≡ impairing items header
  pub each : All IsItem items
  pub stands : Stands impairer (record { items = items; beats = beats; given = given; finished = false })
  pub come : (b : ℕ) → b < given → is_ready (lanes_of beats) items b ≡ true
  pub last : is_ready (lanes_of beats) items given ≡ false
