-- That the input decides: two runs that are given the same input end in the same way, but where a stream failed or there was no memory. So
-- each refusal comes exactly where its cause is. Of a source nothing is asked: an input is any that a run's reads may have begun to give.
use Rattle.std.specs.Prelude.{◌≡◌, ◌≢◌, ℕ, List, [], ◌++◌, Some}
use Rattle.pcs_io.specs.Grammars.{LineAt}
use Rattle.pcs_io.specs.Captures.{FrontAt}
use Rattle.pcs_drive.specs.Seen.{Seen, Took, TookAll}
use Rattle.pcs_drive.specs.LineCommand.{Converted}
use Rattle.pcs_drive.specs.CaptureCommand.{BeatsText, CaptureText, LevelsText, FromBeatsBy, FromCapture, FromLevels}
use Rattle.pcs_drive.specs.declared.outcome.Outcome.{Outcome}
use Rattle.pcs_drive.specs.declared.outcome.Outcome.TheVariants.{ReadFault, WriteFault, NoMemory}

-- no stream failed, and there was memory
pub record IsSettled (outcome : Outcome) : Type 0 where
  pub reads : outcome ≢ ReadFault
  pub writes : outcome ≢ WriteFault
  pub memory : outcome ≢ NoMemory

-- the octets that the source's reads gave are the first of this input, and all of it where they were taken up to the end
pub record Given (seen : Seen) (input : List ℕ) : Type 0 where
  pub octets : List ℕ
  pub rest : List ℕ
  pub gave : seen.told_after.given ≡ seen.told_before.given ++ octets
  pub parts : input ≡ octets ++ rest
  pub whole : TookAll seen octets → rest ≡ []

-- what reads gave is such an input by itself
abbrev pub GaveInput : Type 0
GaveInput = (seen : Seen) (octets : List ℕ) → Took seen octets → Given seen octets

-- and where the source tells what it has left, what it had left before is one
abbrev pub LeftInput : Type 0
LeftInput = (seen : Seen) (input rest octets : List ℕ) → seen.told_before.left ≡ Some input → seen.told_after.left ≡ Some rest → Took seen octets → Given seen input

-- two runs on this input have one settled outcome
abbrev pub Decides : List ℕ → (Seen → Outcome → Type 0) → Type 0
Decides input Answers = (one other : Seen) (first second : Outcome) → Given one input → Given other input → Answers one first → Answers other second
    → IsSettled first → IsSettled second → first ≡ second

-- of a command on lines, in any grammar
abbrev pub LinesDecide : {X : Type 0} → (List ℕ → LineAt X) → Type 0
LinesDecide {X} line_at = (text_of : List X → List ℕ) (input : List ℕ) → Decides input (Converted line_at text_of)

-- of a command on captures, and on files of levels
abbrev pub CapturesDecide : Type 0
CapturesDecide = (text : CaptureText) (input : List ℕ) → Decides input (FromCapture text)

abbrev pub LevelsDecide : Type 0
LevelsDecide = (text : LevelsText) (input : List ℕ) → Decides input (FromLevels text)

-- of beats behind a header of any kind, with any limit
abbrev pub BeatsDecide : {X : Type 0} → (List ℕ → FrontAt X) → Type 0
BeatsDecide {X} at = (text : BeatsText) (before : List ℕ) (limit : ℕ) (header : X) (input : List ℕ) → Decides input (FromBeatsBy at text before limit header)
