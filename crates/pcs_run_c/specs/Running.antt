-- What a run over memory leaves behind.
use Rattle.std.specs.Prelude.{◌≡◌, ◌⊎◌, ℕ, ◌<◌, List, [], ◌∷◌, length, take, IsSome, Some}
use Rattle.pcs_watch.specs.Watching.{Seen as Watched}
use Rattle.pcs_watch.specs.Tallies.{totals, worst, lanes, clean}
use Rattle.pcs_words.specs.Commands.{command_of}
use Rattle.pcs_drive.specs.Seen.{Seen, ReadFailed}
use Rattle.pcs_top.specs.Headlines.{DecodeHeadline, DecodeAnyDamage}
use Rattle.pcs_top.specs.Notes.{Heard}
use Rattle.pcs_top.specs.Statuses.{number_of}
use Rattle.pcs_top.specs.Top.{Runs, IsComplete}
use Rattle.pcs_top.specs.declared.status.Status.{Status}
use Rattle.pcs_top.specs.declared.status.Status.TheVariants.{WriteFault, NoMemory}
use Rattle.pcs_run_c.specs.Words.{words_in}

-- the watchers of a report, in the order of their lines
abbrev pub four_watchers : List Watched
four_watchers = totals ∷ worst ∷ lanes ∷ clean ∷ []

-- The program ran on these words, and told these watchers of a report. Its source had the input, and none of its reads failed. It wrote
-- the text, and the line on the notes, both of which were empty before.
pub record HasRun (told : List Watched) (words : List (List ℕ)) (input text line : List ℕ) (status : Status) : Type 0 where
  pub seen : Seen
  pub heard : Heard
  pub given : seen.told_before ≡ record { given = []; earlier = []; left = Some input }
  pub tells : IsSome seen.told_after.left
  pub reads : ¬ ReadFailed seen
  pub text_before : seen.held_before ≡ Some []
  pub text_after : seen.held_after ≡ Some text
  pub line_before : heard.held_before ≡ Some []
  pub line_after : heard.held_after ≡ Some line
  pub runs : Runs told (command_of words) seen heard status
  pub complete : IsComplete told (command_of words) seen heard status
  pub headline : DecodeHeadline (command_of words) seen heard status
  pub any_damage : DecodeAnyDamage (command_of words) seen heard status

-- what C gets of a run, all of its text and its line
abbrev pub AnswersAll : List ℕ → List ℕ → List ℕ → List ℕ → ℕ → Type 0
AnswersAll words input text line number = (status : Status) × HasRun four_watchers (words_in words) input text line status × (number ≡ number_of status)

-- or of each what there is room for, where one of them has no room
abbrev pub AnswersFront : List ℕ → List ℕ → ℕ → List ℕ → List ℕ → ℕ → Type 0
AnswersFront words input room text line number =
    (all whole : List ℕ) × (status : Status) × HasRun four_watchers (words_in words) input all whole status
    × (text ≡ take room all) × (line ≡ take 64 whole) × (number ≡ number_of WriteFault) × ((room < length all) ⊎ (64 < length whole))

-- or nothing, where there was no memory
abbrev pub Answers : List ℕ → List ℕ → ℕ → List ℕ → List ℕ → ℕ → Type 0
Answers words input room text line number =
    AnswersAll words input text line number ⊎ AnswersFront words input room text line number
    ⊎ ((number ≡ number_of NoMemory) × (text ≡ []) × (line ≡ []))
