-- The answers of the top call.
use Rattle.std.specs.Prelude.{◌≡◌, ◌⊎◌, ⊤, ℕ, ◌^◌, ◌<◌, true, List, length, Result, Ok, Err}
use Rattle.pcs_watch.specs.Watching.{Seen as Watched}
use Rattle.rate_match.specs.Kept.{HasLegalGaps}
use Rattle.pcs_io.specs.Faults.{Rose}
use Rattle.pcs_io.specs.Grammars.{AreLines}
use Rattle.pcs_io.specs.FrameLines.{FrameLine, frame_line_at}
use Rattle.pcs_io.specs.BlockLines.{block_line_at}
use Rattle.pcs_io.specs.SymbolLines.{symbol_line_at}
use Rattle.pcs_io.specs.Captures.{OpensWhole, OpensWholeBy, levels_header_at}
use Rattle.pcs_io.specs.declared.block_lines.BlockLine.{BlockLine}
use Rattle.pcs_io.specs.declared.header.Header.{Header}
use Rattle.pcs_io.specs.declared.levels_header.LevelsHeader.{LevelsHeader}
use Rattle.pcs_words.specs.declared.command.Command.{Command}
use Rattle.pcs_words.specs.declared.command.Command.TheVariants as command
use Rattle.pcs_words.specs.declared.refusal.Refusal.{Refusal}
use Rattle.pcs_words.specs.declared.refusal.Refusal.TheVariants.{Memory, Usage as Refused}
use Rattle.pcs_drive.specs.Seen.{Seen, Untouched, ReadFailed, WriteFailed}
use Rattle.pcs_drive.specs.Deciding.{Given}
use Rattle.pcs_drive.specs.LineCommand.{Converted, OrNoMemory}
use Rattle.pcs_drive.specs.CaptureCommand.{CaptureText, FromCapture, FromLevels}
use Rattle.pcs_late.specs.Kr.{kr_text}
use Rattle.pcs_late.specs.PcapCommand.{PcapAnswers, IsPcapInput}
use Rattle.pcs_late.specs.Multiplexing.{multiplexed}
use Rattle.pcs_late.specs.Demultiplexing.{demultiplexed}
use Rattle.pcs_top.specs.Notes.{Heard, Noted}
use Rattle.pcs_top.specs.Texts.{block_text, unblock_text}
use Rattle.pcs_top.specs.LineColumns.{columns_of_lines}
use Rattle.pcs_top.specs.Encoding.{Encoded}
use Rattle.pcs_top.specs.Decoding.{decoded}
use Rattle.pcs_top.specs.Reporting.{reported}
use Rattle.pcs_top.specs.ColumnTexts.{columned}
use Rattle.pcs_top.specs.Migrating.{migrated}
use Rattle.pcs_top.specs.Impairing.{impairing}
use Rattle.pcs_top.specs.Trying.{Tried}
use Rattle.pcs_top.specs.Statuses.{ByOutcome, ByPcapOutcome}
use Rattle.pcs_top.specs.declared.status.Status.{Status}
use Rattle.pcs_top.specs.declared.status.Status.TheVariants.{Done, Usage, NoMemory}

-- `watchers` is what is seen of the watchers that the call was given. Words that are refused do nothing; else the command answers.
abbrev pub Answers : List Watched → Result Command Refusal → Seen → Status → Type 0
Answers watchers (Err Memory) seen status = (status ≡ NoMemory) × Untouched seen
Answers watchers (Err (Refused cause)) seen status = (status ≡ Usage cause) × Untouched seen
Answers watchers (Ok command.Blocks) seen status = ByOutcome (OrNoMemory (Converted frame_line_at block_text) seen) status
Answers watchers (Ok command.Unblock) seen status = ByOutcome (OrNoMemory (Converted block_line_at unblock_text) seen) status
Answers watchers (Ok command.Kr) seen status = ByOutcome (OrNoMemory (Converted symbol_line_at kr_text) seen) status
Answers watchers (Ok (command.Encode options)) seen status = ByOutcome (OrNoMemory (Encoded options) seen) status
Answers watchers (Ok (command.Decode options)) seen status = ByOutcome (FromCapture (decoded options.skew) seen) status
Answers watchers (Ok (command.Report options)) seen status = ByOutcome (FromCapture (reported watchers options.skew) seen) status
Answers watchers (Ok (command.Columns options)) seen status = ByOutcome (FromCapture (columned options.skew) seen) status
Answers watchers (Ok (command.Impair items)) seen status = ByOutcome (FromCapture (impairing items) seen) status
Answers watchers (Ok (command.Trial options)) seen status = ByOutcome (Tried options seen) status
Answers watchers (Ok (command.Migrate options)) seen status = ByOutcome (FromCapture (migrated options.skew) seen) status
Answers watchers (Ok (command.Mux options)) seen status = ByOutcome (FromCapture (multiplexed options.precode) seen) status
Answers watchers (Ok (command.Demux options)) seen status = ByOutcome (FromLevels (demultiplexed options.phase) seen) status
Answers watchers (Ok (command.Pcap options)) seen status = ByPcapOutcome (PcapAnswers options.gap options.short options.write seen) status

-- the words are performed, or there was no memory to read them
abbrev pub Performs : List Watched → Result Command Refusal → Seen → Status → Type 0
Performs watchers words seen status = Answers watchers words seen status ⊎ ((status ≡ NoMemory) × Untouched seen)

-- the status of the command, and the one that is answered with its line on the notes
abbrev pub Runs : List Watched → Result Command Refusal → Seen → Heard → Status → Type 0
Runs watchers words seen heard status = (outcome : Status) × Performs watchers words seen outcome × Noted outcome heard status

-- a header and whole beats, whose lanes are aligned where the command asks for that
abbrev pub IsWholeCapture : CaptureText → List ℕ → Type 0
IsWholeCapture text octets =
    (header : Header) × (beats : List (List ℕ)) × OpensWhole octets header beats 0 × ((text header).is_aligned beats ≡ true)

-- the header of a file of levels, and whole level beats
abbrev pub IsWholeLevels : List ℕ → Type 0
IsWholeLevels octets = (header : LevelsHeader) × (beats : List (List ℕ)) × OpensWholeBy levels_header_at octets header beats 0

-- The input is in the grammar of the command, and for `encode` its columns have legal gaps. `trial` asks nothing of it.
abbrev pub InGrammar : List Watched → Result Command Refusal → List ℕ → Type 0
InGrammar watchers (Ok command.Blocks) octets = (lines : List FrameLine) × AreLines frame_line_at octets lines
InGrammar watchers (Ok command.Unblock) octets = (lines : List BlockLine) × AreLines block_line_at octets lines
InGrammar watchers (Ok command.Kr) octets = (lines : List (List ℕ)) × AreLines symbol_line_at octets lines
InGrammar watchers (Ok (command.Encode options)) octets =
    (lines : List FrameLine) × AreLines frame_line_at octets lines × HasLegalGaps options.period (columns_of_lines lines)
InGrammar watchers (Ok (command.Decode options)) octets = IsWholeCapture (decoded options.skew) octets
InGrammar watchers (Ok (command.Report options)) octets = IsWholeCapture (reported watchers options.skew) octets
InGrammar watchers (Ok (command.Columns options)) octets = IsWholeCapture (columned options.skew) octets
InGrammar watchers (Ok (command.Impair items)) octets = IsWholeCapture (impairing items) octets
InGrammar watchers (Ok (command.Trial options)) octets = ⊤
InGrammar watchers (Ok (command.Migrate options)) octets = IsWholeCapture (migrated options.skew) octets
InGrammar watchers (Ok (command.Mux options)) octets = IsWholeCapture (multiplexed options.precode) octets
InGrammar watchers (Ok (command.Demux options)) octets = IsWholeLevels octets
InGrammar watchers (Ok (command.Pcap options)) octets = IsPcapInput options.short options.write octets
InGrammar watchers words octets = ⊥

-- no read and no write failed
pub record NothingFailed (seen : Seen) (heard : Heard) : Type 0 where
  pub reads : ¬ ReadFailed seen
  pub writes : ¬ WriteFailed seen
  pub notes : ¬ Rose heard.writes_before heard.writes_after

-- an input in the grammar, which reads gave, is turned into its text, unless something fails or there is no memory
abbrev pub IsComplete : List Watched → Result Command Refusal → Seen → Heard → Status → Type 0
IsComplete watchers words seen heard status = (input : List ℕ) → Given seen input
    → InGrammar watchers words input → length input < 2 ^ 40 → NothingFailed seen heard → (status ≡ Done) ⊎ (status ≡ NoMemory)
