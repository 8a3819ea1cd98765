-- What a command makes of lines, one after the other. The lines are named by the parsers that had them, so that a task need not name the
-- type of what a line says. `Keeps` is the task's own meaning: it has taken the lines that these parsers had.
use Rattle.std.specs.Prelude.{◌≡◌, ℕ, List, [], ◌∷◌, ◌++◌, map, Option}
use Rattle.pcs_io.specs.Octets.{AppendsFront}
use Rattle.pcs_drive.specs.Writing.{Wrote}

-- this text of parsers is that text of their lines
abbrev pub IsTextOf : {P X : Type 0} → (List P → List ℕ) → (P → X) → (List X → List ℕ) → Type 0
IsTextOf {P} text line text_of = (parsers : List P) → text parsers ≡ text_of (map line parsers)

-- one more line is taken, the one that this parser has
abbrev pub TakesLine : {T P : Type 0} → (T → List P → Type 0) → T → T → P → Type 0
TakesLine {T} {P} Keeps old new parser = (parsers : List P) → Keeps old parsers → Keeps new (parsers ++ parser ∷ [])

-- its text is put behind that of the lines before it
abbrev pub PutsLine : {T P : Type 0} → (T → List P → Type 0) → (List P → List ℕ) → T → P → Option (List ℕ) → List ℕ → Option (List ℕ) → List ℕ → Type 0
PutsLine {T} {P} Keeps text old parser held_old pending_old held_new pending_new =
    (parsers : List P) → Keeps old parsers → (start : Option (List ℕ))
    → Wrote start held_old (text parsers) pending_old → Wrote start held_new (text (parsers ++ parser ∷ [])) pending_new

-- a write failed there
abbrev pub BreaksAtLine : {T P : Type 0} → (T → List P → Type 0) → (List P → List ℕ) → T → P → Option (List ℕ) → List ℕ → Option (List ℕ) → Type 0
BreaksAtLine {T} {P} Keeps text old parser held_old pending_old held_new =
    (parsers : List P) → Keeps old parsers → (start : Option (List ℕ))
    → Wrote start held_old (text parsers) pending_old → AppendsFront start held_new (text (parsers ++ parser ∷ []))

-- a text of lines, and a meaning, as those of the parsers that had the lines
abbrev pub by_lines : {P X : Type 0} → (P → X) → (List X → List ℕ) → List P → List ℕ
by_lines line text_of parsers = text_of (map line parsers)

abbrev pub KeepsLines : {T P X : Type 0} → (P → X) → (T → List X → Type 0) → T → List P → Type 0
KeepsLines line Keeps task parsers = Keeps task (map line parsers)
