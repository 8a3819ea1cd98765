-- Octets of any number that are put.
use Rattle.std.proofs.Common.{◌≡◌, ℕ, List, [], ◌++◌, Option, sym, subst, append_assoc}
use Rattle.std.specs.Io.KnownBytes.{Appends}
use Rattle.pcs_io.specs.Octets.{AppendsFront}
use Rattle.pcs_drive.specs.Writing.{Wrote, Puts, Stays, BreaksOff, BreaksOffBefore}
use Rattle.pcs_drive.proofs.WritingLemmas.{front-more, wrote-more, wrote-flushed, wrote-front}

pub puts-long : (held mid now : Option (List ℕ)) (old more new : List ℕ) → Stays held old mid [] → Appends mid now more → new ≡ [] → Puts held old more now new
puts-long held mid now old more new stays appended none start text w =
    subst (λ p. Wrote start now (text ++ more) p) (sym none)
    (wrote-flushed start mid now (text ++ more) more (wrote-more start mid text [] more (stays start text w)) appended)

pub breaks-long : (held mid now : Option (List ℕ)) (old more : List ℕ) → Stays held old mid [] → AppendsFront mid now more → BreaksOff held old more now
breaks-long held mid now old more stays front start text w =
    wrote-front start mid now (text ++ more) more (wrote-more start mid text [] more (stays start text w)) front

pub breaks-before : (held now : Option (List ℕ)) (old more : List ℕ) → BreaksOffBefore held old now → BreaksOff held old more now
breaks-before held now old more failed start text w = front-more start now text more (failed start text w)

pub breaks-more : (held now : Option (List ℕ)) (old first more : List ℕ) → BreaksOff held old first now → BreaksOff held old (first ++ more) now
breaks-more held now old first more failed start text w =
    subst (AppendsFront start now) (append_assoc text first more) (front-more start now (text ++ first) more (failed start text w))
