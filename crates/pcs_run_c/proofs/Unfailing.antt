-- A run of `decode` that ended with no failed write and with memory is one of which no call failed.
use Rattle.std.proofs.Common.{◌≡◌, ℕ, inl, inr, List, Ok, refl, sym, ap, ◌∙◌, arith}
use Rattle.std.specs.Prelude.{◌≢◌}
use Rattle.pcs_watch.specs.Watching.{Seen as Watched}
use Rattle.pcs_io.specs.Faults.{Rose}
use Rattle.pcs_io.specs.Captures.{FrontAt, header_at}
use Rattle.pcs_io.specs.declared.header.BadHeader.{BadHeader as Refusal}
use Rattle.pcs_words.specs.declared.command.Command.TheVariants as command
use Rattle.pcs_words.specs.declared.command.SkewOptions.{SkewOptions}
use Rattle.pcs_drive.specs.Seen.{Seen, Took, TookAll, ReadFailed}
use Rattle.pcs_drive.specs.CaptureCommand.{BeatsText, TextBehind, TookBeatsBy, TookAllBeatsBy, FromBeatsBy, FromFileBy, IsNoHeaderBy}
use Rattle.pcs_drive.specs.declared.outcome.Outcome.{Outcome}
use Rattle.pcs_drive.specs.declared.outcome.Outcome.TheVariants.{Done, ReadFault, WriteFault, NoMemory, BadHeader, Cut, NotAligned, TooLong}
use Rattle.pcs_top.specs.Decoding.{decoded}
use Rattle.pcs_top.specs.Notes.{Heard, Noted}
use Rattle.pcs_top.specs.Statuses.{number_of, status_of}
use Rattle.pcs_top.specs.Top.{Performs, Runs}
use Rattle.pcs_top.specs.declared.status.Status.{Status}

-- what would be seen if no call had failed
abbrev pub unfailing : Seen → Seen
unfailing seen = record seen { reads_before = 1; reads_after = 0; writes_before = 1; writes_after = 0 }

abbrev pub unfailing_notes : Heard → Heard
unfailing_notes heard = record heard { writes_before = 1; writes_after = 0 }

pub none-failed : ¬ Rose 1 0
none-failed rose = absurd (omega (arith, rose))

-- some octets were taken
abbrev pub TookSome : Seen → Type 0
TookSome seen = (octets : List ℕ) × Took seen octets

took-all : (seen : Seen) (octets : List ℕ) → TookAll seen octets → TookAll (unfailing seen) octets
took-all seen octets t = record { took = t.took; nothing = t.nothing; ended = t.ended }

module _ {X : Type 0} (at : List ℕ → FrontAt X) (seen : Seen) (reads : ¬ ReadFailed seen) where
  all-beats : (before : List ℕ) (limit : ℕ) (header : X) (beats : List (List ℕ)) (over : ℕ) → TookAllBeatsBy at before limit header seen beats over
      → TookAllBeatsBy at before limit header (unfailing seen) beats over
  all-beats before limit header beats over t = record { got = t.got; took = took-all seen t.got t.took; short = t.short; whole = t.whole }

  some-beats : (before : List ℕ) (header : X) (beats : List (List ℕ)) (over : ℕ) → TookBeatsBy at before header seen beats over
      → TookBeatsBy at before header (unfailing seen) beats over
  some-beats before header beats over t = record { got = t.got; took = t.took; whole = t.whole }

  from-beats : (text : BeatsText) (before : List ℕ) (limit : ℕ) (header : X) (outcome : Outcome) → outcome ≢ WriteFault
      → FromBeatsBy at text before limit header seen outcome → FromBeatsBy at text before limit header (unfailing seen) outcome × TookSome seen
  unfolding some-beats
  from-beats text before limit header Done writes c =
      ((c.0, all-beats before limit header c.0 0 c.1, c.2, c.3), (c.1.got, c.1.took.took))
  from-beats text before limit header ReadFault writes c = absurd (reads c.2)
  from-beats text before limit header WriteFault writes c = absurd (writes refl)
  from-beats text before limit header (Cut rest) writes c =
      ((c.0, c.1, all-beats before limit header c.0 rest c.2, c.3), (c.2.got, c.2.took.took))
  from-beats text before limit header NotAligned writes c =
      ((c.0, all-beats before limit header c.0 0 c.1, c.2, c.3), (c.1.got, c.1.took.took))
  from-beats text before limit header TooLong writes c =
      ((c.0, c.1, some-beats before header c.0 c.1 c.2, c.3, c.4), (c.2.got, c.2.took))
  from-beats text before limit header outcome writes c = absurd c

  no-header : (bad : Refusal) → IsNoHeaderBy at seen bad → IsNoHeaderBy at (unfailing seen) bad × TookSome seen
  no-header bad (octets, inl wrong) = ((octets, inl wrong), (octets, wrong.0))
  no-header bad (octets, inr cut) = ((octets, inr (cut.0, took-all seen octets cut.1, cut.2, cut.3)), (octets, cut.1.took))

  from-file : (text : TextBehind X) (outcome : Outcome) → outcome ≢ WriteFault → outcome ≢ NoMemory
      → FromFileBy at text seen outcome → FromFileBy at text (unfailing seen) outcome × TookSome seen
  from-file text Done writes memory c = let b = from-beats (text c.0) _ _ c.0 Done writes c.1 in ((c.0, b.0), b.1)
  from-file text ReadFault writes memory (inl c) = absurd (reads c.1)
  from-file text ReadFault writes memory (inr c) = absurd (reads c.1.2)
  from-file text WriteFault writes memory c = absurd (writes refl)
  from-file text NoMemory writes memory c = absurd (memory refl)
  from-file text (BadHeader bad) writes memory c = let b = no-header bad c.0 in ((b.0, c.1), b.1)
  from-file text (Cut rest) writes memory c = let b = from-beats (text c.0) _ _ c.0 (Cut rest) writes c.1 in ((c.0, b.0), b.1)
  from-file text NotAligned writes memory c = let b = from-beats (text c.0) _ _ c.0 NotAligned writes c.1 in ((c.0, b.0), b.1)
  from-file text TooLong writes memory c = let b = from-beats (text c.0) _ _ c.0 TooLong writes c.1 in ((c.0, b.0), b.1)
  from-file text outcome writes memory c = absurd c

-- the notes of a run that isn't the notes' failure
noted-so : (outcome status : Status) (heard : Heard) → number_of status ≢ 12 → Noted outcome heard status → Noted outcome (unfailing_notes heard) status × (status ≡ outcome)
noted-so outcome status heard notes (inl done) = (inl done, done.1 ∙ sym done.0)
noted-so outcome status heard notes (inr (inl whole)) = (inr (inl whole), whole.0)
noted-so outcome status heard notes (inr (inr failed)) = absurd (notes (ap number_of failed.0))

module _ (watchers : List Watched) (options : SkewOptions) (seen : Seen) (heard : Heard) (status : Status) (reads : ¬ ReadFailed seen)
    (room : number_of status ≢ 4) (memory : number_of status ≢ 5) (notes : number_of status ≢ 12) where
  performed : (outcome : Status) → status ≡ outcome → Performs watchers (Ok (command.Decode options)) seen outcome
      → Performs watchers (Ok (command.Decode options)) (unfailing seen) outcome × TookSome seen
  performed outcome same (inl (ended, is, c)) =
      let file = from-file header_at seen reads (decoded options.skew) ended (λ so. room (ap number_of (same ∙ is ∙ ap status_of so)))
      (λ so. memory (ap number_of (same ∙ is ∙ ap status_of so))) c in
      (inl (ended, is, file.0), file.1)
  performed outcome same (inr none) = absurd (memory (ap number_of (same ∙ none.0)))

  pub unfailing-run : Runs watchers (Ok (command.Decode options)) seen heard status
      → Runs watchers (Ok (command.Decode options)) (unfailing seen) (unfailing_notes heard) status × TookSome seen
  unfailing-run runs =
      let told = noted-so runs.0 status heard notes runs.2 in
      let done = performed runs.0 told.1 runs.1 in
      ((runs.0, done.0, told.0), done.1)
