-- How many octets a header has.
use Rattle.std.proofs.Common.{◌≡◌, ℕ, ◌+◌, ◌<◌, ◌≤◌, Bool, true, false, cond, List, [], ◌++◌, length, take, drop, Result, Ok, Err, sym, ◌∙◌, ap, subst, arith, inl, inr, append-nil, length-drop, length-append}
use Rattle.std.specs.List.{flat_map}
use Rattle.std.proofs.lemmas.Bool.{cases_lt, le-leb}
use Rattle.pcs_io.specs.Beats.{beat_at}
use Rattle.pcs_io.specs.Grammars.{Begins}
use Rattle.pcs_io.specs.Headers.{header_of, header2_of}
use Rattle.pcs_io.specs.Histories as lines
use Rattle.pcs_io.specs.Captures.{Whole, Short, settled, header_at, is_version2, History, Going, BeatsState, Stands, StandsAt}
use Rattle.pcs_io.specs.declared.header.Header.{Header}
use Rattle.pcs_io.specs.declared.header.BadHeader.{BadHeader}
use Rattle.pcs_io.specs.declared.beats.Front.TheVariants as front
use Rattle.pcs_io.specs.declared.reader.Standing.TheVariants as reader
use Rattle.pcs_io.proofs.BeatPieces.{pieces-parts}
use Rattle.pcs_io.proofs.CaptureCalls.{going-of}

-- octets that are short of a header
pub short-header : (octets : List ℕ) → header_at octets ≡ Short → length octets < 32
unfolding header_at
short-header octets is = elim (cases_lt (length octets) 32) [
  | inl low ↦ low
  | inr high ↦
      let one = le-leb 16 (length octets) (omega (arith, high)) in
      let two = le-leb 32 (length octets) (omega (arith, high)) in
      absurd (by (is_version2 octets) (header2_of (take 32 octets)) (header_of (take 16 octets)) (rw (one, two) at is))
]
  where
    by : (b : Bool) (r t : Result Header BadHeader) → cond b (settled r (drop 32 octets)) (settled t (drop 16 octets)) ≡ Short → ⊥
    by true (Ok h) t is = cc
    by true (Err bad) t is = cc
    by false r (Ok h) is = cc
    by false r (Err bad) is = cc

-- octets that are a header and nothing more
pub only-header : (octets : List ℕ) (header : Header) → header_at octets ≡ Whole header [] → length octets ≤ 32
unfolding header_at
only-header octets header is = elim (cases_lt (length octets) 33) [
  | inl low ↦ omega (arith, low)
  | inr high ↦
      let one = le-leb 16 (length octets) (omega (arith, high)) in
      let two = le-leb 32 (length octets) (omega (arith, high)) in
      absurd (by (is_version2 octets) (header2_of (take 32 octets)) (header_of (take 16 octets)) (rw (one, two) at is)
      (omega (arith, high, length-drop 32 octets)) (omega (arith, high, length-drop 16 octets)))
]
  where
    none : (rest : List ℕ) (got : Header) → Whole got rest ≡ Whole header [] → 0 < length rest → ⊥
    none rest got is some = let empty : rest ≡ [] = cc in omega (arith, some, ap length empty)

    by : (b : Bool) (r t : Result Header BadHeader) → cond b (settled r (drop 32 octets)) (settled t (drop 16 octets)) ≡ Whole header []
        → 0 < length (drop 32 octets) → 0 < length (drop 16 octets) → ⊥
    by true (Ok h) t is some any = none (drop 32 octets) h is some
    by true (Err bad) t is some any = cc
    by false r (Ok h) is some any = none (drop 16 octets) h is any
    by false r (Err bad) is some any = cc

-- behind a header no more was taken than waits
pub few-taken : (x : BeatsState) (h : History) (header : Header) → Stands x h → x.front ≡ front.Read header → h.beats ≡ [] → h.course ≡ Going
    → length h.octets ≤ 32 + length x.reader.buffer.unused
few-taken x h header s read none course =
    let at = subst (λ f. StandsAt f s.standing s.pieces h) read s.at in
    let going : s.standing ≡ reader.Going = going-of s.standing (length h.octets) (sym at.1 ∙ course) in
    let unused = x.reader.buffer.unused in
    let begins : Begins beat_at h.octets (s.pieces ++ h.beats) unused =
    subst (λ st. lines.IsUnused beat_at st (record { limit = h.limit; octets = h.octets; lines = s.pieces ++ h.beats; standing = s.standing }) unused) going s.read.unused in
    let pieces : Begins beat_at h.octets s.pieces unused = subst (λ ps. Begins beat_at h.octets ps unused) (ap (λ bs. s.pieces ++ bs) none ∙ append-nil s.pieces) begins in
    let joined = flat_map (λ piece. piece) s.pieces in
    let few : length (joined ++ []) ≤ 32 = only-header (joined ++ []) header (at.0 []) in
    omega (arith, few, length-append joined [], ap length (pieces-parts h.octets s.pieces unused pieces), length-append joined unused)
