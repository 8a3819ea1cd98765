-- What `trial` answers, and what stands written.
use Rattle.std.specs.Prelude.{◌≡◌, ℕ, Bool, List, Option}
use Rattle.pcs_io.specs.Octets.{Told, AppendsFront}
use Rattle.pcs_words.specs.declared.command.TrialOptions.{TrialOptions}
use Rattle.trial_laws.specs.Trial.{trial_text}
use Rattle.trial_laws.specs.Laws.{ComesBack}
use Rattle.pcs_drive.specs.Seen.{Seen, Untouched, Written, WriteFailed}
use Rattle.pcs_drive.specs.declared.outcome.Outcome.{Outcome}
use Rattle.pcs_drive.specs.declared.outcome.Outcome.TheVariants.{Done, WriteFault, NoMemory}

-- where the source, which tells this, is not touched
abbrev pub writes_only : {W : Type 0} → (W → Option (List ℕ)) → (W → ℕ) → W → W → Told → Bool → ℕ → Seen
writes_only held writes sink_before sink_after told ended reads = record {
  told_before = told;
  told_after = told;
  ended = ended;
  reads_before = reads;
  reads_after = reads;
  held_before = held sink_before;
  held_after = held sink_after;
  writes_before = writes sink_before;
  writes_after = writes sink_after;
}

abbrev pub text_of : TrialOptions → List ℕ
text_of options = trial_text options.seed options.count options.period

-- The summary is written, and it tells that all frames came back; or a front of it where a write failed, or there was no memory. Nothing
-- is taken from the source. No other answer is given.
abbrev pub Tried : TrialOptions → Seen → Outcome → Type 0
Tried options seen Done =
    (seen.told_after ≡ seen.told_before) × Written seen (text_of options) × ComesBack options.seed options.count options.period
Tried options seen WriteFault =
    (seen.told_after ≡ seen.told_before) × WriteFailed seen × AppendsFront seen.held_before seen.held_after (text_of options)
Tried options seen NoMemory = Untouched seen
Tried options seen outcome = ⊥
