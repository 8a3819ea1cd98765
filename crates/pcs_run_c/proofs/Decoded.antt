-- What `decode` gives a C caller, from its run.
use Rattle.std.proofs.Common.{◌≡◌, ℕ, ◌^◌, inl, inr, List, [], ◌++◌, Option, Some, None, IsSome, IfSome, Ok, refl, ap, ◌∙◌, subst}
use Rattle.std.proofs.lemmas.Bool.{false≢true}
use Rattle.pcs_words.specs.declared.command.Command.TheVariants as command
use Rattle.pcs_words.specs.declared.command.SkewOptions.{SkewOptions}
use Rattle.pcs_io.specs.declared.header.Header.{Header}
use Rattle.pcs_drive.specs.Seen.{Seen, Written}
use Rattle.pcs_drive.specs.Deciding.{Given}
use Rattle.pcs_drive.proofs.Deciding.{left-input}
use Rattle.pcs_top.specs.Decoding.{skew_limit}
use Rattle.pcs_top.specs.Headlines.{HasWholeCapture, GivesNamedFrames, GivesUnmarkedFrames}
use Rattle.pcs_top.specs.Statuses.{number_of}
use Rattle.pcs_top.specs.Top.{Runs}
use Rattle.pcs_top.specs.declared.status.Status.{Status}
use Rattle.pcs_top.proofs.Headlines.{decode_headline, decode_any_damage}
use Rattle.pcs_run_c.specs.Words.{words_in}
use Rattle.pcs_run_c.specs.Running.{four_watchers, HasRun, Answers}
use Rattle.pcs_run_c.specs.Decoding.{HasDecoded, WritesNamedFrames, WritesUnmarkedFrames, Headline, AnyDamage}
use Rattle.pcs_run_c.proofs.Unfailing.{unfailing, unfailing_notes, none-failed, TookSome, unfailing-run}

there : {X : Type 0} (o : Option X) → IsSome o → (x : X) × (o ≡ Some x)
there None some = absurd (false≢true some)
there (Some x) some = (x, refl)

-- the text after nothing is what was written
text-is : (seen : Seen) (text all : List ℕ) → seen.held_before ≡ Some [] → seen.held_after ≡ Some text → Written seen all → text ≡ all
text-is seen text all before after written =
    subst (λ o. IfSome o (λ ys. ys ≡ all)) after (subst (λ o. IfSome o (λ xs. IfSome seen.held_after (λ ys. ys ≡ xs ++ all))) before written)

module _ (words input text line : List ℕ) (status : Status) (number : ℕ) (r : HasRun four_watchers (words_in words) input text line status) (is : number ≡ number_of status)
    (options : SkewOptions) (header : Header) (beats : List (List ℕ)) (d : HasDecoded words input options header beats number) where
  run : Runs four_watchers (Ok (command.Decode options)) (unfailing r.seen) (unfailing_notes r.heard) status × TookSome r.seen
  run =
      unfailing-run four_watchers options r.seen r.heard status r.reads (λ same. d.room (is ∙ same)) (λ same. d.memory (is ∙ same)) (λ same. d.notes (is ∙ same))
      (subst (λ said. Runs four_watchers said r.seen r.heard status) d.says r.runs)

  given : Given (unfailing r.seen) input
  given = let rest = there r.seen.told_after.left r.tells in left-input (unfailing r.seen) input rest.0 run.1.0 (ap (λ told. told.left) r.given) rest.1 run.1.1

  whole : HasWholeCapture [] (2 ^ 40) header beats (unfailing r.seen)
  whole = record { input = input; given = given; whole = d.whole; short = d.short; reads = none-failed; writes = none-failed }

  named-gives : GivesNamedFrames header.period (skew_limit options.skew header) beats (unfailing r.seen) status
  named-gives =
      decode_headline four_watchers (Ok (command.Decode options)) (unfailing r.seen) (unfailing_notes r.heard) status run.0 options header beats refl whole none-failed
      (λ same. d.memory (is ∙ ap number_of same))

  unmarked-gives : GivesUnmarkedFrames header.period (skew_limit options.skew header) beats (unfailing r.seen) status
  unmarked-gives =
      decode_any_damage four_watchers (Ok (command.Decode options)) (unfailing r.seen) (unfailing_notes r.heard) status run.0 options header beats refl whole none-failed
      (λ same. d.memory (is ∙ ap number_of same))

  named : WritesNamedFrames header.period (skew_limit options.skew header) beats text number
  named lead tail lines image p =
      let gives = named-gives lead tail lines image p in
      (gives.0, gives.1, gives.2, λ few. let done = gives.3 few in (is ∙ ap number_of done.0, text-is r.seen text _ r.text_before r.text_after done.1))

  unmarked : WritesUnmarkedFrames header.period (skew_limit options.skew header) beats text number
  unmarked lead tail lines image p =
      let gives = unmarked-gives lead tail lines image p in
      (is ∙ ap number_of gives.0, text-is r.seen text _ r.text_before r.text_after gives.1)

pub headline : (words input : List ℕ) (room : ℕ) (text line : List ℕ) (number : ℕ) → Answers words input room text line number → Headline words input text number
headline words input room text line number (inl (status, run, is)) options header beats d = named words input text line status number run is options header beats d
headline words input room text line number (inr (inl front)) options header beats d = absurd (d.room front.6)
headline words input room text line number (inr (inr none)) options header beats d = absurd (d.memory none.0)

pub any_damage : (words input : List ℕ) (room : ℕ) (text line : List ℕ) (number : ℕ) → Answers words input room text line number → AnyDamage words input text number
any_damage words input room text line number (inl (status, run, is)) options header beats d = unmarked words input text line status number run is options header beats d
any_damage words input room text line number (inr (inl front)) options header beats d = absurd (d.room front.6)
any_damage words input room text line number (inr (inr none)) options header beats d = absurd (d.memory none.0)
