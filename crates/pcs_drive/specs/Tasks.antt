-- What a command makes of beats, one after the other, whatever header stood before them. `Keeps` is the task's own meaning: it makes this
-- text, and stands for these beats.
use Rattle.std.specs.Prelude.{◌≡◌, ℕ, List, ◌∷◌, [], ◌++◌, length, Bool, Option}
use Rattle.std.specs.List.{flat_map, AllByRecursion}
use Rattle.pcs_io.specs.Octets.{AppendsFront}
use Rattle.pcs_drive.specs.Writing.{Wrote}
use Rattle.pcs_drive.specs.CaptureCommand.{BeatsText}

-- a task's meaning
abbrev pub Meaning : Type 0 → Type 1
Meaning T = T → BeatsText → List (List ℕ) → Type 0

-- these octets are these beats, of sixteen octets each
pub record AreBeats (beats : List (List ℕ)) (octets : List ℕ) : Type 0 where
  pub joined : flat_map (λ beat. beat) beats ≡ octets
  pub each : AllByRecursion (λ beat. length beat ≡ 16) beats

-- with more beats the text so far only grows
abbrev pub Grows : BeatsText → Type 0
Grows text =
    (beats more : List (List ℕ)) → (rest : List ℕ) × (text.so_far (beats ++ more) ≡ text.so_far beats ++ rest)

-- the task stands for these beats, and the text so far is put
pub record HasPut {T : Type 0} (Keeps : Meaning T) (task : T) (text : BeatsText) (beats : List (List ℕ))
    (start held : Option (List ℕ)) (pending : List ℕ) : Type 0 where
  pub keeps : Keeps task text beats
  pub grows : Grows text
  pub wrote : Wrote start held (text.so_far beats) pending

-- a beat is taken, and its text is put
abbrev pub TakesBeat : {T : Type 0} → Meaning T → T → T → List ℕ → Option (List ℕ) → List ℕ → Option (List ℕ) → List ℕ → Type 0
TakesBeat Keeps old new beat held_old pending_old held_new pending_new =
    (text : BeatsText) (beats : List (List ℕ)) (start : Option (List ℕ))
    → HasPut Keeps old text beats start held_old pending_old → HasPut Keeps new text (beats ++ beat ∷ []) start held_new pending_new

-- a write failed there
abbrev pub BreaksAtBeat : {T : Type 0} → Meaning T → T → List ℕ → Option (List ℕ) → List ℕ → Option (List ℕ) → Type 0
BreaksAtBeat Keeps old beat held_old pending_old held_new =
    (text : BeatsText) (beats : List (List ℕ)) (start : Option (List ℕ))
    → HasPut Keeps old text beats start held_old pending_old → AppendsFront start held_new (text.so_far (beats ++ beat ∷ []))

-- so many beats are taken, one behind the other, and their text is put
abbrev pub TakesBeats : {T : Type 0} → Meaning T → T → T → List ℕ → Option (List ℕ) → List ℕ → Option (List ℕ) → List ℕ → Type 0
TakesBeats Keeps old new octets held_old pending_old held_new pending_new =
    (text : BeatsText) (beats more : List (List ℕ)) (start : Option (List ℕ)) → AreBeats more octets
    → HasPut Keeps old text beats start held_old pending_old → HasPut Keeps new text (beats ++ more) start held_new pending_new

-- a write failed there
abbrev pub BreaksAtBeats : {T : Type 0} → Meaning T → T → List ℕ → Option (List ℕ) → List ℕ → Option (List ℕ) → Type 0
BreaksAtBeats Keeps old octets held_old pending_old held_new =
    (text : BeatsText) (beats more : List (List ℕ)) (start : Option (List ℕ)) → AreBeats more octets
    → HasPut Keeps old text beats start held_old pending_old → AppendsFront start held_new (text.so_far (beats ++ more))

-- at the end of the input the rest of the text is put, and it is told whether the lanes were aligned
abbrev pub Finishes : {T : Type 0} → Meaning T → T → Bool → Option (List ℕ) → List ℕ → Option (List ℕ) → List ℕ → Type 0
Finishes Keeps old aligned held_old pending_old held_new pending_new =
    (text : BeatsText) (beats : List (List ℕ)) (start : Option (List ℕ))
    → HasPut Keeps old text beats start held_old pending_old
    → (aligned ≡ text.is_aligned beats) × Wrote start held_new (text.whole beats) pending_new

-- a write failed there
abbrev pub BreaksAtEnd : {T : Type 0} → Meaning T → T → Option (List ℕ) → List ℕ → Option (List ℕ) → Type 0
BreaksAtEnd Keeps old held_old pending_old held_new =
    (text : BeatsText) (beats : List (List ℕ)) (start : Option (List ℕ))
    → HasPut Keeps old text beats start held_old pending_old → AppendsFront start held_new (text.whole beats)
