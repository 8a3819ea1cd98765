-- A command that turns the lines of a grammar into text: what it answers, when, and what stands written.
use Rattle.std.specs.Prelude.{◌≡◌, ℕ, ◌+◌, ◌^◌, ◌<◌, ◌≤◌, ◌⊎◌, List, ◌++◌, length, Result, Ok, Err}
use Rattle.pcs_io.specs.Octets.{AppendsFront}
use Rattle.pcs_io.specs.Grammars.{LineAt, Begins, AreLines, EndOpen, AreRefused, AreCut, IsNear}
use Rattle.pcs_io.specs.declared.source.Failed.{Failed}
use Rattle.pcs_io.specs.declared.fault.Kind.{Kind}
use Rattle.pcs_io.specs.declared.fault.Kind.TheVariants.{NoEnd}
use Rattle.pcs_drive.specs.Seen.{Seen, Took, TookAll, Written, WrittenFirst, Untouched, ReadFailed, WriteFailed}
use Rattle.pcs_drive.specs.declared.outcome.Outcome.{Outcome}
use Rattle.pcs_drive.specs.declared.outcome.Outcome.TheVariants.{Done, ReadFault, WriteFault, NoMemory, BadLine, TooLong}

-- the line behind these lines is refused: at an octet that can't stand there, or at the end of the input
abbrev pub IsRefused : {X : Type 0} → (List ℕ → LineAt X) → Seen → List ℕ → List X → Kind → Type 0
IsRefused line_at seen octets lines kind =
    (Took seen octets × (length octets ≤ 2 ^ 40) × AreRefused line_at octets lines kind)
    ⊎ ((kind ≡ NoEnd) × TookAll seen octets × (length octets < 2 ^ 40) × AreCut line_at octets lines)

-- Nothing was read, or when the source was read last all text of the lines that had come was written.
abbrev pub KeptUp : {X : Type 0} → (List ℕ → LineAt X) → (List X → List ℕ) → Seen → Type 0
KeptUp {X} line_at text_of seen =
    (seen.told_after ≡ seen.told_before)
    ⊎ ((early : List ℕ) × (seen.told_after.earlier ≡ seen.told_before.given ++ early)
    × (lines : List X) × EndOpen line_at early lines × WrittenFirst seen (text_of lines))

-- Each answer has its own condition, of the octets taken, which are never more than the limit, and the lines in front of them. Where a write
-- failed, too, no more than a buffer was taken behind the lines and the front of the next one. No other answer is given.
abbrev pub Converted : {X : Type 0} → (List ℕ → LineAt X) → (List X → List ℕ) → Seen → Outcome → Type 0
Converted {X} line_at text_of seen Done =
    (octets : List ℕ) × (lines : List X) × TookAll seen octets × (length octets < 2 ^ 40) × AreLines line_at octets lines × Written seen (text_of lines)
Converted {X} line_at text_of seen ReadFault =
    (octets : List ℕ) × (lines : List X) × ReadFailed seen × Took seen octets × (length octets ≤ 2 ^ 40) × EndOpen line_at octets lines × Written seen (text_of lines)
Converted {X} line_at text_of seen WriteFault =
    (octets : List ℕ) × (lines : List X) × (rest : List ℕ) × WriteFailed seen × Took seen octets × (length octets ≤ 2 ^ 40) × Begins line_at octets lines rest
    × IsNear line_at rest × AppendsFront seen.held_before seen.held_after (text_of lines) × KeptUp line_at text_of seen
Converted {X} line_at text_of seen (BadLine number kind) =
    (octets : List ℕ) × (lines : List X) × (number ≡ length lines + 1) × IsRefused line_at seen octets lines kind × Written seen (text_of lines)
Converted {X} line_at text_of seen TooLong =
    (octets : List ℕ) × (lines : List X) × Took seen octets × (length octets ≡ 2 ^ 40) × EndOpen line_at octets lines × Written seen (text_of lines)
Converted line_at text_of seen outcome = ⊥

-- where a write fails, the answer is that
abbrev pub Converts : {X : Type 0} → (List ℕ → LineAt X) → (List X → List ℕ) → Seen → Result Outcome Failed → Type 0
Converts line_at text_of seen (Ok outcome) = Converted line_at text_of seen outcome
Converts line_at text_of seen (Err failed) = Converted line_at text_of seen WriteFault

-- the same, or there was no memory, and nothing was done
abbrev pub OrNoMemory : (Seen → Outcome → Type 0) → Seen → Outcome → Type 0
OrNoMemory Answers seen outcome = Answers seen outcome ⊎ ((outcome ≡ NoMemory) × Untouched seen)
