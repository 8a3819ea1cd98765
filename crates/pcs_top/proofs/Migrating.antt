-- What `migrate` writes, beat by beat.
use Rattle.std.proofs.Common.{◌≡◌, ℕ, true, List, [], ◌++◌, Option, sym, ◌∙◌, ap, subst, append_assoc, append-nil}
use Rattle.std.specs.List.{flat_map}
use Rattle.std.proofs.lemmas.List.Concat.{flat_map-append}
use Rattle.pcs_io.specs.Octets.{AppendsFront}
use Rattle.pcs_io.specs.declared.header.Header.{Header}
use Rattle.pcs_drive.specs.CaptureCommand.{BeatsText}
use Rattle.pcs_drive.specs.Tasks.{Meaning, HasPut, Grows}
use Rattle.pcs_drive.specs.Writing.{Wrote, Puts, BreaksOffBefore}
use Rattle.pcs_drive.proofs.WritingLemmas.{front-more}
use Rattle.pcs_top.specs.Migrating.{migrated, migrated_header, migrated_octets}

more-beats : (skew : ℕ) (header : Header) (beats more : List (List ℕ))
    → migrated_octets skew header (beats ++ more) ≡ migrated_octets skew header beats ++ flat_map (λ beat. beat) more
more-beats skew header beats more =
    ap (λ o. migrated_header skew header ++ o) (flat_map-append (λ b. b) beats more)
    ∙ sym (append_assoc (migrated_header skew header) (flat_map (λ b. b) beats) (flat_map (λ b. b) more))

pub no-beats : (skew : ℕ) (header : Header) → migrated_octets skew header [] ≡ migrated_header skew header
no-beats skew header = append-nil (migrated_header skew header)

pub migrated-grows : (skew : ℕ) (header : Header) → Grows (migrated skew header)
migrated-grows skew header beats more = (flat_map (λ beat. beat) more, more-beats skew header beats more)

longer : (text : BeatsText) (skew : ℕ) (header : Header) → text ≡ migrated skew header → (beats more : List (List ℕ)) (octets : List ℕ)
    → flat_map (λ beat. beat) more ≡ octets → text.so_far (beats ++ more) ≡ text.so_far beats ++ octets
longer text skew header is beats more octets joined =
    ap (λ (t : BeatsText). t.so_far (beats ++ more)) is ∙ more-beats skew header beats more
    ∙ ap (λ o. migrated_octets skew header beats ++ o) joined ∙ ap (λ o. o ++ octets) (ap (λ (t : BeatsText). t.so_far beats) (sym is))

module _ {T : Type 0} where
  -- beats that stay as they are
  abbrev pub Copies : Meaning T
  Copies task text beats = (skew : ℕ) × (header : Header) × (text ≡ migrated skew header)

  pub copies : (old new : T) (octets : List ℕ) (held held_now : Option (List ℕ)) (pending pending_now : List ℕ) → Puts held pending octets held_now pending_now
      → (text : BeatsText) (beats more : List (List ℕ)) (start : Option (List ℕ)) → flat_map (λ beat. beat) more ≡ octets
      → HasPut Copies old text beats start held pending → HasPut Copies new text (beats ++ more) start held_now pending_now
  copies old new octets held held_now pending pending_now puts text beats more start joined p = record {
    keeps = p.keeps;
    grows = p.grows;
    wrote = subst (λ t. Wrote start held_now t pending_now) (sym (longer text p.keeps.0 p.keeps.1 p.keeps.2 beats more octets joined))
        (puts start (text.so_far beats) p.wrote);
  }

  pub breaks-copying : (old : T) (octets : List ℕ) (held held_now : Option (List ℕ)) (pending : List ℕ) → BreaksOffBefore held pending held_now
      → (text : BeatsText) (beats more : List (List ℕ)) (start : Option (List ℕ)) → flat_map (λ beat. beat) more ≡ octets
      → HasPut Copies old text beats start held pending → AppendsFront start held_now (text.so_far (beats ++ more))
  breaks-copying old octets held held_now pending breaks text beats more start joined p =
      subst (AppendsFront start held_now) (sym (longer text p.keeps.0 p.keeps.1 p.keeps.2 beats more octets joined))
      (front-more start held_now (text.so_far beats) octets (breaks start (text.so_far beats) p.wrote))

  pub copied : (old : T) (held : Option (List ℕ)) (pending : List ℕ) (text : BeatsText) (beats : List (List ℕ)) (start : Option (List ℕ))
      → HasPut Copies old text beats start held pending
      → (true ≡ text.is_aligned beats) × Wrote start held (text.whole beats) pending
  copied old held pending text beats start p = (
    ap (λ (t : BeatsText). t.is_aligned beats) (sym p.keeps.2),
    subst (λ (t : BeatsText). Wrote start held (t.whole beats) pending) (sym p.keeps.2)
        (subst (λ (t : BeatsText). Wrote start held (t.so_far beats) pending) p.keeps.2 p.wrote),
  )
