-- Octets that begin with the header of a file of levels.
use Rattle.std.proofs.Common.{◌≡◌, ℕ, ◌+◌, ◌<◌, ◌≤◌, List, [], ◌++◌, length, take, drop, Result, Ok, Err, sym, ◌∙◌, ap, subst, arith, inl, inr, append-nil, length-drop, length-append}
use Rattle.std.specs.List.{flat_map}
use Rattle.std.proofs.lemmas.Bool.{cases_lt, le-leb}
use Rattle.pcs_io.specs.Beats.{beat_at}
use Rattle.pcs_io.specs.Grammars.{Begins}
use Rattle.pcs_io.specs.LevelsHeaders.{levels_header_of}
use Rattle.pcs_io.specs.Histories as lines
use Rattle.pcs_io.specs.Captures.{Whole, Short, settled, levels_header_at, History, Going, BeatsState, Stands, StandsAt}
use Rattle.pcs_io.specs.declared.levels_header.LevelsHeader.{LevelsHeader}
use Rattle.pcs_io.specs.declared.header.BadHeader.{BadHeader}
use Rattle.pcs_io.specs.declared.beats.Front.TheVariants as front
use Rattle.pcs_io.specs.declared.reader.Standing.TheVariants as reader
use Rattle.pcs_io.proofs.BeatPieces.{pieces-parts}
use Rattle.pcs_io.proofs.CaptureCalls.{going-of}

pub short-levels : (octets : List ℕ) → levels_header_at octets ≡ Short → length octets < 32
unfolding levels_header_at
short-levels octets is = elim (cases_lt (length octets) 32) [
  | inl low ↦ low
  | inr high ↦ absurd (by (levels_header_of (take 32 octets)) (rw (le-leb 32 (length octets) (omega (arith, high))) at is))
]
  where
    by : (r : Result LevelsHeader BadHeader) → settled r (drop 32 octets) ≡ Short → ⊥
    by (Ok h) is = cc
    by (Err bad) is = cc

-- octets that are a header and nothing more
only-levels : (octets : List ℕ) (header : LevelsHeader) → levels_header_at octets ≡ Whole header [] → length octets ≤ 32
unfolding levels_header_at
only-levels octets header is = elim (cases_lt (length octets) 33) [
  | inl low ↦ omega (arith, low)
  | inr high ↦
      absurd (by (levels_header_of (take 32 octets)) (rw (le-leb 32 (length octets) (omega (arith, high))) at is)
      (omega (arith, high, length-drop 32 octets)))
]
  where
    by : (r : Result LevelsHeader BadHeader) → settled r (drop 32 octets) ≡ Whole header [] → 0 < length (drop 32 octets) → ⊥
    by (Ok h) is some = let empty : drop 32 octets ≡ [] = cc in omega (arith, some, ap length empty)
    by (Err bad) is some = cc

-- behind a header no more was taken than waits
pub few-levels : (x : BeatsState) (h : History) (header : LevelsHeader) → Stands x h → x.front ≡ front.ReadLevels header → h.beats ≡ [] → h.course ≡ Going
    → length h.octets ≤ 32 + length x.reader.buffer.unused
few-levels x h header s read none course =
    let at = subst (λ f. StandsAt f s.standing s.pieces h) read s.at in
    let going : s.standing ≡ reader.Going = going-of s.standing (length h.octets) (sym at.1 ∙ course) in
    let unused = x.reader.buffer.unused in
    let begins : Begins beat_at h.octets (s.pieces ++ h.beats) unused =
    subst (λ st. lines.IsUnused beat_at st (record { limit = h.limit; octets = h.octets; lines = s.pieces ++ h.beats; standing = s.standing }) unused) going s.read.unused in
    let pieces : Begins beat_at h.octets s.pieces unused = subst (λ ps. Begins beat_at h.octets ps unused) (ap (λ bs. s.pieces ++ bs) none ∙ append-nil s.pieces) begins in
    let joined = flat_map (λ piece. piece) s.pieces in
    let few : length (joined ++ []) ≤ 32 = only-levels (joined ++ []) header (at.0 []) in
    omega (arith, few, length-append joined [], ap length (pieces-parts h.octets s.pieces unused pieces), length-append joined unused)
