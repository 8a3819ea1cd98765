-- The call that reads the header, over every history.
use Rattle.std.proofs.Common.{◌≡◌, ℕ, ◌<◌, ◌≤◌, arith, Bool, false, List, [], ◌∷◌, ◌++◌, length, refl, sym, ap, ◌∙◌, inl, inr, subst, append_assoc, append-nil, Option, Some, None, Result, Ok, Err}
use Rattle.std.specs.List.{flat_map}
use Rattle.pcs_io.specs.Octets.{Told, Gives}
use Rattle.pcs_io.specs.Beats.{beat_at, BeatParserState}
use Rattle.pcs_io.specs.Headers.{header_of, header2_of}
use Rattle.pcs_io.specs.LevelsHeaders.{levels_header_of}
use Rattle.pcs_io.specs.Histories.{ReaderState}
use Rattle.pcs_io.specs.Histories as lines
use Rattle.pcs_io.specs.Captures.{FrontAt, settled, header_at, levels_header_at, is_version2, History, BeatsState, Stands, StandsAt, IsHeaderBy, opened, HeaderAnswersBy, header_told, course_of, piece_of, refusal_of, by_both, ReadsPiece, ReadsSecond, ReadsOn, FrontReads, ReadsOnLevels, LevelsFrontReads, Rests}
use Rattle.pcs_io.specs.declared.fault.InFault.{InFault}
use Rattle.pcs_io.specs.declared.fault.InFault.TheVariants as fault
use Rattle.pcs_io.specs.declared.header.Header.{Header}
use Rattle.pcs_io.specs.declared.header.BadHeader.{BadHeader}
use Rattle.pcs_io.specs.declared.levels_header.LevelsHeader.{LevelsHeader}
use Rattle.pcs_io.specs.declared.reader.Standing.{Standing}
use Rattle.pcs_io.specs.declared.reader.Standing.TheVariants as reader
use Rattle.pcs_io.specs.declared.beats.CapFault.{CapFault}
use Rattle.pcs_io.specs.declared.beats.Front.{Front}
use Rattle.pcs_io.specs.declared.beats.Front.TheVariants as front
use Rattle.pcs_io.proofs.Told.{gives-append, gives-none}
use Rattle.pcs_io.proofs.BeatPieces.{is-piece, pieces-length}
use Rattle.pcs_io.proofs.HeaderReading.{AreShort, none-short, one-short, header1-is, header2-is, levels-is, levels-none-short, levels-one-short, piece-missing}

-- a history of pieces
abbrev pub pieces_read : ℕ → List ℕ → List (List ℕ) → Standing → lines.History (List ℕ)
pieces_read limit octets pieces standing = record { limit = limit; octets = octets; lines = pieces; standing = standing }

-- with the answer of a call, which took these octets
told-parts : (new : ReaderState BeatParserState) (h : lines.History (List ℕ)) (got : List ℕ) (answer : Result (Option (List ℕ)) InFault)
    → lines.Stands beat_at new (lines.told h got answer)
    → lines.Stands beat_at new (pieces_read h.limit (h.octets ++ got) (lines.told h got answer).lines (lines.told h got answer).standing)
told-parts new h got (Ok (Some piece)) s = s
told-parts new h got (Ok None) s = s
told-parts new h got (Err why) s = s

-- what the pieces read for a result are
abbrev pub Settled : {X : Type 0} → (List ℕ → FrontAt X) → Result X CapFault → List (List ℕ) → Standing → Type 0
Settled at (Ok header) pieces standing = IsHeaderBy at pieces header × (standing ≡ reader.Going)
Settled at (Err why) pieces standing = Unit {0}

-- A header of any kind.
module _ {X : Type 0} (at : List ℕ → FrontAt X) (limit : ℕ) (old : ReaderState BeatParserState) (before : Told) (fresh : lines.Stands beat_at old (lines.opened limit)) where
  abbrev pub Settles : ReaderState BeatParserState → Told → Bool → Result X CapFault → Type 0
  Settles new now ended result =
      (got : List ℕ) × HeaderAnswersBy at limit got before now ended result
      × (pieces : List (List ℕ)) × (standing : Standing) × lines.Stands beat_at new (pieces_read limit got pieces standing) × Settled at result pieces standing

  pub whole : (new : ReaderState BeatParserState) (now : Told) (ended : Bool) (got : List ℕ) (pieces : List (List ℕ)) (header : Result X BadHeader)
      → Gives before now got → (rest : List ℕ) → at got ≡ settled header rest
      → ((r : List ℕ) → at (flat_map (λ piece. piece) pieces ++ r) ≡ settled header r)
      → lines.Stands beat_at new (pieces_read limit got pieces reader.Going) → length pieces ≤ 2 → length new.buffer.unused ≤ 65536
      → Settles new now ended (refusal_of header)
  whole new now ended got pieces (Ok header) took rest is follows stands two within = (got, (took, rest, is), pieces, reader.Going, stands, (follows, refl))
  whole new now ended got pieces (Err bad) took rest is follows stands two within =
      let few : length got < 65600 = omega (arith, two, within, pieces-length got pieces new.buffer.unused stands.unused) in (got, inl (took, is, few), pieces, reader.Going, stands, tt)

  -- a second piece behind the first one
  module _ (mid : ReaderState BeatParserState) (between : Told) (soon : Bool) (front : List ℕ)
      (n : lines.Nexts beat_at old mid before between soon (Ok (Some front))) (short : AreShort at (front ∷ [])) (both_of : List ℕ → Result X BadHeader)
      (reads : (behind rest : List ℕ) → length front ≡ 16 → length behind ≡ 16 → at ((front ++ behind) ++ rest) ≡ settled (both_of (front ++ behind)) rest)
      (new : ReaderState BeatParserState) (now : Told) (ended : Bool) where
    both-pieces : (behind : List ℕ) → lines.Nexts beat_at mid new between now ended (Ok (Some behind)) → Settles new now ended (refusal_of (both_of (front ++ behind)))
    both-pieces behind m =
        let t = n.history (lines.opened limit) fresh in
        let h = lines.told (lines.opened limit) t.0 (Ok (Some front)) in
        let u = m.history h t.2 in
        let first = is-piece (t.0 ++ u.0) front u.1.2.0 u.1.2.1 in
        let second = is-piece u.1.2.0 behind u.1.2.2.0 u.1.2.2.1 in
        let rest = u.1.2.2.0 in
        let parts : t.0 ++ u.0 ≡ (front ++ behind) ++ rest = first.parts ∙ ap (λ s. front ++ s) second.parts ∙ sym (append_assoc front behind rest) in
        whole new now ended (t.0 ++ u.0) (front ∷ behind ∷ []) (both_of (front ++ behind))
        (gives-append before between now t.0 u.0 t.1.0 u.1.0) rest
        (ap at parts ∙ reads behind rest first.sixteen second.sixteen)
        (λ r. ap (λ f. at ((front ++ f) ++ r)) (append-nil behind) ∙ reads behind r first.sixteen second.sixteen)
        u.2 (omega arith) m.within

    second-missing : (answer : Result (Option (List ℕ)) InFault) (why : CapFault) → lines.Nexts beat_at mid new between now ended answer
        → piece_of answer new.buffer.taken ≡ Err why → Settles new now ended (Err why)
    second-missing answer why m missing =
        let t = n.history (lines.opened limit) fresh in
        let h = lines.told (lines.opened limit) t.0 (Ok (Some front)) in
        let u = m.history h t.2 in
        let stands = told-parts new h u.0 answer u.2 in (
          t.0 ++ u.0,
          piece-missing at h before between now ended u.0 new.buffer.taken short t.1.0 stands.taken answer why u.1 missing,
          (lines.told h u.0 answer).lines,
          (lines.told h u.0 answer).standing,
          stands,
          tt,
        )

    by-both : (answer : Result (Option (List ℕ)) InFault) (second : Result (List ℕ) CapFault) → lines.Nexts beat_at mid new between now ended answer
        → second ≡ piece_of answer new.buffer.taken → Settles new now ended (by_both both_of front second)
    by-both answer (Err why) m e = second-missing answer why m (sym e)
    by-both (Ok (Some piece)) (Ok behind) m e =
        let same : piece ≡ behind = cc in
        subst (λ b. Settles new now ended (refusal_of (both_of (front ++ b)))) same (both-pieces piece m)
    by-both (Ok None) (Ok behind) m e = absurd (cc)
    by-both (Err fault.Read) (Ok behind) m e = absurd (cc)
    by-both (Err (fault.BadLine number kind)) (Ok behind) m e = absurd (cc)
    by-both (Err fault.TooLong) (Ok behind) m e = absurd (cc)

    pub by-second : (result : Result X CapFault) → ReadsSecond both_of mid new between now ended front result → Settles new now ended result
    by-second result s = subst (Settles new now ended) (sym s.2) (by-both s.1.0 s.0 s.1.1 s.1.2)

  pub first-missing : (mid : ReaderState BeatParserState) (between : Told) (soon : Bool) (answer : Result (Option (List ℕ)) InFault) (why : CapFault)
      → AreShort at [] → lines.Nexts beat_at old mid before between soon answer → piece_of answer mid.buffer.taken ≡ Err why → Settles mid between soon (Err why)
  first-missing mid between soon answer why none n missing =
      let h = lines.opened limit in
      let t = n.history h fresh in
      let stands = told-parts mid h t.0 answer t.2 in (
        t.0,
        piece-missing at h before before between soon t.0 mid.buffer.taken none (gives-none before) stands.taken answer why t.1 missing,
        (lines.told h t.0 answer).lines,
        (lines.told h t.0 answer).standing,
        stands,
        tt,
      )

  pub rested : (mid new : ReaderState BeatParserState) (between now : Told) (soon ended : Bool) (result : Result X CapFault)
      → Rests mid new between now soon ended → Settles mid between soon result → Settles new now ended result
  rested mid new between now soon ended result rests settles =
      subst (λ x. Settles x now ended result) (sym rests.state)
      (subst (λ o. Settles mid o ended result) (sym rests.source) (subst (λ b. Settles mid between b result) (sym rests.end) settles))

  -- where no first piece was read, the answer is why
  pub not-read : (mid new : ReaderState BeatParserState) (between now : Told) (soon ended : Bool) (why : CapFault) (result : Result X CapFault)
      → AreShort at [] → ReadsPiece old mid before between soon (Err why) → Rests mid new between now soon ended → result ≡ Err why → Settles new now ended result
  not-read mid new between now soon ended why result none (answer, n, e) rests is =
      rested mid new between now soon ended result rests (subst (Settles mid between soon) (sym is) (first-missing mid between soon answer why none n (sym e)))

  was-read : (mid : ReaderState BeatParserState) (between : Told) (soon : Bool) (front : List ℕ) (answer : Result (Option (List ℕ)) InFault)
      → lines.Nexts beat_at old mid before between soon answer → Ok front ≡ piece_of answer mid.buffer.taken
      → lines.Nexts beat_at old mid before between soon (Ok (Some front))
  was-read mid between soon front (Ok (Some piece)) n e =
      let same : piece ≡ front = cc in
      subst (λ p. lines.Nexts beat_at old mid before between soon (Ok (Some p))) same n
  was-read mid between soon front (Ok None) n e = absurd (cc)
  was-read mid between soon front (Err fault.Read) n e = absurd (cc)
  was-read mid between soon front (Err (fault.BadLine number kind)) n e = absurd (cc)
  was-read mid between soon front (Err fault.TooLong) n e = absurd (cc)

  pub piece-read : (mid : ReaderState BeatParserState) (between : Told) (soon : Bool) (front : List ℕ) → ReadsPiece old mid before between soon (Ok front)
      → lines.Nexts beat_at old mid before between soon (Ok (Some front))
  piece-read mid between soon front (answer, n, e) = was-read mid between soon front answer n e

-- A header of a capture, and one of a file of levels.
module _ (limit : ℕ) (old : ReaderState BeatParserState) (before : Told) (fresh : lines.Stands beat_at old (lines.opened limit)) where
  by-one : (mid : ReaderState BeatParserState) (between : Told) (soon : Bool) (front : List ℕ)
      → lines.Nexts beat_at old mid before between soon (Ok (Some front)) → is_version2 front ≡ false
      → Settles header_at limit old before fresh mid between soon (refusal_of (header_of front))
  by-one mid between soon front n other =
      let t = n.history (lines.opened limit) fresh in
      let piece = is-piece t.0 front t.1.2.0 t.1.2.1 in
      whole header_at limit old before fresh mid between soon t.0 (front ∷ []) (header_of front) t.1.0 t.1.2.0
      (ap header_at piece.parts ∙ header1-is front t.1.2.0 piece.sixteen other)
      (λ r. ap (λ f. header_at (f ++ r)) (append-nil front) ∙ header1-is front r piece.sixteen other)
      t.2 (omega arith) n.within

  capture-on : (mid new : ReaderState BeatParserState) (between now : Told) (soon ended : Bool) (first : Result (List ℕ) CapFault) (result : Result Header CapFault)
      → ReadsPiece old mid before between soon first → ReadsOn mid new between now soon ended first result → Settles header_at limit old before fresh new now ended result
  capture-on mid new between now soon ended (Err why) result piece on =
      not-read header_at limit old before fresh mid new between now soon ended why result none-short piece on.0 on.1
  capture-on mid new between now soon ended (Ok front) result piece (inl one) =
      let n = piece-read header_at limit old before fresh mid between soon front piece in
      rested header_at limit old before fresh mid new between now soon ended result one.1
      (subst (Settles header_at limit old before fresh mid between soon) (sym one.2) (by-one mid between soon front n one.0))
  capture-on mid new between now soon ended (Ok front) result piece (inr two) =
      let n = piece-read header_at limit old before fresh mid between soon front piece in
      by-second header_at limit old before fresh mid between soon front n (one-short front two.0) header2_of
      (λ behind rest first second. header2-is front behind rest first second two.0) new now ended result two.1

  levels-on : (mid new : ReaderState BeatParserState) (between now : Told) (soon ended : Bool) (first : Result (List ℕ) CapFault) (result : Result LevelsHeader CapFault)
      → ReadsPiece old mid before between soon first → ReadsOnLevels mid new between now soon ended first result
      → Settles levels_header_at limit old before fresh new now ended result
  levels-on mid new between now soon ended (Err why) result piece on =
      not-read levels_header_at limit old before fresh mid new between now soon ended why result levels-none-short piece on.0 on.1
  levels-on mid new between now soon ended (Ok front) result piece on =
      let n = piece-read levels_header_at limit old before fresh mid between soon front piece in
      by-second levels_header_at limit old before fresh mid between soon front n (levels-one-short front) levels_header_of
      (λ behind rest first second. levels-is front behind rest first second) new now ended result on

-- The state behind a header.

-- what a header leaves of the state
abbrev pub front_after : {X : Type 0} → (X → Front) → Result X CapFault → Front
front_after read_as (Ok header) = read_as header
front_after read_as (Err why) = front.Refused

-- how the state says that a header of a kind was read
pub record Kind {X : Type 0} (at : List ℕ → FrontAt X) (read_as : X → Front) : Type 0 where
  pub put : (header : X) (standing : Standing) (pieces : List (List ℕ)) (h : History) → IsHeaderBy at pieces header
      → h.course ≡ course_of standing (length h.octets) → StandsAt (read_as header) standing pieces h
  pub get : (header : X) (standing : Standing) (pieces : List (List ℕ)) (h : History) → StandsAt (read_as header) standing pieces h
      → IsHeaderBy at pieces header × (h.course ≡ course_of standing (length h.octets))

pub captures : Kind header_at front.Read
captures = record { put = λ header standing pieces h is course. (is, course); get = λ header standing pieces h at. at }

pub level_files : Kind levels_header_at front.ReadLevels
level_files = record { put = λ header standing pieces h is course. (is, course); get = λ header standing pieces h at. at }

-- where no header was asked for, the reader of pieces is as it was opened
pub fresh-reader : (x : BeatsState) → x.front ≡ front.Unread → (h : History) → Stands x h → lines.Stands beat_at x.reader (lines.opened h.limit)
fresh-reader x unread h s =
    let at_start = subst (λ f. StandsAt f s.standing s.pieces h) unread s.at in
    let a = subst (λ ps. lines.Stands beat_at x.reader (pieces_read h.limit h.octets (ps ++ h.beats) s.standing)) at_start.0 s.read in
    let b = subst (λ st. lines.Stands beat_at x.reader (pieces_read h.limit h.octets h.beats st)) at_start.1 a in
    subst (λ k. lines.Stands beat_at x.reader (pieces_read h.limit k.octets k.beats reader.Going)) at_start.2 b

module _ {X : Type 0} (at : List ℕ → FrontAt X) (read_as : X → Front) (kind : Kind at read_as)
    (Reads : ReaderState BeatParserState → ReaderState BeatParserState → Told → Told → Bool → Result X CapFault → Type 0)
    (settling : (limit : ℕ) (old : ReaderState BeatParserState) (before : Told) (fresh : lines.Stands beat_at old (lines.opened limit))
    (new : ReaderState BeatParserState) (now : Told) (ended : Bool) (result : Result X CapFault) → Reads old new before now ended result
    → Settles at limit old before fresh new now ended result) where
  -- the answer and the state, for a history
  abbrev pub HeaderTold : History → ReaderState BeatParserState → Told → Told → Bool → Result X CapFault → Type 0
  HeaderTold h new before now ended result =
      (got : List ℕ) × HeaderAnswersBy at h.limit got before now ended result
      × Stands (record { reader = new; front = front_after read_as result }) (header_told h got result)

  told-opened : (limit : ℕ) (old new : ReaderState BeatParserState) (before now : Told) (ended : Bool) (result : Result X CapFault)
      → lines.Stands beat_at old (lines.opened limit) → Reads old new before now ended result
      → HeaderTold (opened limit) new before now ended result
  told-opened limit old new before now ended (Ok header) fresh reads =
      let s = settling limit old before fresh new now ended (Ok header) reads in
      let pieces = s.2 in (
        s.0,
        s.1,
        record {
          pieces = pieces;
          standing = reader.Going;
          read = subst (λ ps. lines.Stands beat_at new (pieces_read limit s.0 ps reader.Going)) (sym (append-nil pieces))
              (subst (λ st. lines.Stands beat_at new (pieces_read limit s.0 pieces st)) s.5.1 s.4);
          at = kind.put header reader.Going pieces (header_told (opened limit) s.0 (Ok header)) s.5.0 refl;
        },
      )
  told-opened limit old new before now ended (Err why) fresh reads =
      let s = settling limit old before fresh new now ended (Err why) reads in
      let pieces = s.2 in (
        s.0,
        s.1,
        record {
          pieces = pieces;
          standing = s.3;
          read = subst (λ ps. lines.Stands beat_at new (pieces_read limit s.0 ps s.3)) (sym (append-nil pieces)) s.4;
          at = tt;
        },
      )

  pub told-by : (x : BeatsState) (new : ReaderState BeatParserState) (before now : Told) (ended : Bool) (result : Result X CapFault)
      → x.front ≡ front.Unread → Reads x.reader new before now ended result → (h : History) → Stands x h → HeaderTold h new before now ended result
  told-by x new before now ended result unread reads h s =
      let at_start = subst (λ f. StandsAt f s.standing s.pieces h) unread s.at in
      subst (λ k. HeaderTold k new before now ended result) (sym at_start.2)
      (told-opened h.limit x.reader new before now ended result (fresh-reader x unread h s) reads)

pub settles : (limit : ℕ) (old : ReaderState BeatParserState) (before : Told) (fresh : lines.Stands beat_at old (lines.opened limit))
    (new : ReaderState BeatParserState) (now : Told) (ended : Bool) (result : Result Header CapFault)
    → FrontReads old new before now ended result → Settles header_at limit old before fresh new now ended result
settles limit old before fresh new now ended result (mid, between, soon, first, piece, on) =
    capture-on limit old before fresh mid new between now soon ended first result piece on

pub levels-settle : (limit : ℕ) (old : ReaderState BeatParserState) (before : Told) (fresh : lines.Stands beat_at old (lines.opened limit))
    (new : ReaderState BeatParserState) (now : Told) (ended : Bool) (result : Result LevelsHeader CapFault)
    → LevelsFrontReads old new before now ended result → Settles levels_header_at limit old before fresh new now ended result
levels-settle limit old before fresh new now ended result (mid, between, soon, first, piece, on) =
    levels-on limit old before fresh mid new between now soon ended first result piece on

pub header-told : (x : BeatsState) (new : ReaderState BeatParserState) (before now : Told) (ended : Bool) (result : Result Header CapFault)
    → x.front ≡ front.Unread → FrontReads x.reader new before now ended result → (h : History) → Stands x h
    → HeaderTold header_at front.Read captures FrontReads settles h new before now ended result
header-told x new before now ended result unread reads h s = told-by header_at front.Read captures FrontReads settles x new before now ended result unread reads h s

pub levels-told : (x : BeatsState) (new : ReaderState BeatParserState) (before now : Told) (ended : Bool) (result : Result LevelsHeader CapFault)
    → x.front ≡ front.Unread → LevelsFrontReads x.reader new before now ended result → (h : History) → Stands x h
    → HeaderTold levels_header_at front.ReadLevels level_files LevelsFrontReads levels-settle h new before now ended result
levels-told x new before now ended result unread reads h s =
    told-by levels_header_at front.ReadLevels level_files LevelsFrontReads levels-settle x new before now ended result unread reads h s
