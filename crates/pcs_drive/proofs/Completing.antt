-- An input in the grammar is turned into its text, by a command on lines or on beats behind a header.
use Rattle.std.proofs.Common.{◌≡◌, ℕ, ◌^◌, ◌<◌, ◌⊎◌, inl, inr, true, List, length, subst, refl}
use Rattle.std.specs.Prelude.{◌≢◌}
use Rattle.pcs_io.specs.Captures.{FrontAt, OpensWholeBy}
use Rattle.pcs_io.specs.Grammars.{LineAt, IsGrammar, AreLines}
use Rattle.pcs_drive.specs.Seen.{Seen, ReadFailed, WriteFailed}
use Rattle.pcs_drive.specs.LineCommand.{Converted}
use Rattle.pcs_drive.specs.CaptureCommand.{TextBehind, FromFileBy}
use Rattle.pcs_drive.specs.Deciding.{Given}
use Rattle.pcs_drive.specs.declared.outcome.Outcome.{Outcome}
use Rattle.pcs_drive.specs.declared.outcome.Outcome.TheVariants.{Done, ReadFault, WriteFault, NoMemory, BadLine, BadHeader, TooTight, Cut, NotAligned, TooLong}
use Rattle.pcs_drive.proofs.HeadersStay.{Stays}
use Rattle.pcs_drive.proofs.Deciding.{settled, one-stop, stopped, stopped-done, found, one-of}
pub use Rattle.pcs_drive.proofs.Deciding.{front, all, opens-alone}

pub converted : {X : Type 0} (line_at : List ℕ → LineAt X) (grammar : IsGrammar line_at) (text_of : List X → List ℕ) (seen : Seen) (octets : List ℕ)
    (lines : List X) (outcome : Outcome) → Given seen octets → AreLines line_at octets lines → length octets < 2 ^ 40
    → ¬ ReadFailed seen → ¬ WriteFailed seen → Converted line_at text_of seen outcome → outcome ≡ Done
converted line_at grammar text_of seen octets lines outcome g whole short reads writes c =
    let is = settled (Converted line_at text_of seen) seen outcome c (λ d. d.2) (λ d. d.3) (λ e. subst (Converted line_at text_of seen) e c) reads writes in
    let s = stopped line_at grammar text_of seen octets outcome g c is in
    one-stop line_at grammar octets s.0 lines outcome Done s.1 (stopped-done line_at grammar octets octets lines refl whole short)

has-memory : (outcome : Outcome) → (outcome ≡ NoMemory) ⊎ (outcome ≢ NoMemory)
has-memory Done = inr (λ e. cc)
has-memory ReadFault = inr (λ e. cc)
has-memory WriteFault = inr (λ e. cc)
has-memory NoMemory = inl refl
has-memory (BadLine number kind) = inr (λ e. cc)
has-memory (BadHeader bad) = inr (λ e. cc)
has-memory (TooTight frame) = inr (λ e. cc)
has-memory (Cut rest) = inr (λ e. cc)
has-memory NotAligned = inr (λ e. cc)
has-memory TooLong = inr (λ e. cc)

read-failed : {X : Type 0} (at : List ℕ → FrontAt X) (text : TextBehind X) (seen : Seen) → FromFileBy at text seen ReadFault → ReadFailed seen
read-failed at text seen (inl c) = c.1
read-failed at text seen (inr c) = c.1.2

pub captured : {X : Type 0} (at : List ℕ → FrontAt X) (stays : Stays at) (text : TextBehind X) (seen : Seen) (octets : List ℕ) (header : X) (beats : List (List ℕ))
    (g : Given seen octets) (whole : OpensWholeBy at octets header beats 0)
    (aligned : (text header).is_aligned beats ≡ true) (outcome : Outcome) → length octets < 2 ^ 40 → ¬ ReadFailed seen → ¬ WriteFailed seen
    → FromFileBy at text seen outcome → (outcome ≡ Done) ⊎ (outcome ≡ NoMemory)
captured at stays text seen octets header beats g whole aligned outcome short reads writes c = elim (has-memory outcome) [
  | inl none ↦ inr none
  | inr some ↦
      let is = settled (FromFileBy at text seen) seen outcome c (read-failed at text seen) (λ d. d.1.1) some reads writes in
      inl (one-of at stays text octets outcome Done (found at stays text seen octets outcome g c is)
      (inl (inl (record { header = header; beats = beats; over = 0; whole = whole; short = short; is = rw aligned refl }))))
]
