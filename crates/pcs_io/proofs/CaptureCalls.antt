-- The calls behind the header of a reader of captures or of files of levels, over every history.
use Rattle.std.proofs.Common.{◌≡◌, ℕ, ◌+◌, ◌*◌, ◌/◌, ◌%◌, ◌<◌, Bool, List, [], ◌∷◌, ◌++◌, length, take, drop, refl, sym, ap, ap₂, ◌∙◌, inl, inr, subst, arith, append_assoc, length-append, Option, Some, None, Result, Ok, Err}
use Rattle.pcs_io.specs.Octets.{Told}
use Rattle.pcs_io.specs.Grammars.{Begins}
use Rattle.pcs_io.specs.Beats.{beat_at, BeatParserState}
use Rattle.pcs_io.specs.Histories.{ReaderState}
use Rattle.pcs_io.specs.Histories as lines
use Rattle.pcs_io.specs.Captures.{FrontAt, header_at, levels_header_at, OpensBy, OpensWholeBy, Course, Going, Ended, History, BeatsState, Stands, StandsAt, IsHeaderBy, course_of, Tells, TellsBy, Passes, PassesBy, beat_of, ReadsBeat}
use Rattle.pcs_io.specs.declared.fault.InFault.{InFault}
use Rattle.pcs_io.specs.declared.fault.InFault.TheVariants as fault
use Rattle.pcs_io.specs.declared.header.Header.{Header}
use Rattle.pcs_io.specs.declared.levels_header.LevelsHeader.{LevelsHeader}
use Rattle.pcs_io.specs.declared.reader.Standing.{Standing}
use Rattle.pcs_io.specs.declared.reader.Standing.TheVariants as reader
use Rattle.pcs_io.specs.declared.beats.BeatIn.{BeatIn}
use Rattle.pcs_io.specs.declared.beats.CapFault.{CapFault}
use Rattle.pcs_io.specs.declared.beats.Front.{Front}
use Rattle.pcs_io.specs.declared.beats.Front.TheVariants as front
use Rattle.pcs_io.proofs.BeatPieces.{open-short, never-refused, pieces-parts, pieces-length, pieces-split, whole-pieces, pieces-front, pieces-join}
use Rattle.pcs_io.proofs.HeaderCalls.{pieces_read, Kind, captures, level_files}

module _ {X : Type 0} (at : List ℕ → FrontAt X) where
  opens : (octets : List ℕ) (header : X) (pieces beats : List (List ℕ)) (rest : List ℕ) → IsHeaderBy at pieces header
      → Begins beat_at octets (pieces ++ beats) rest → OpensBy at octets header beats rest
  opens octets header pieces beats rest is b =
      let split = pieces-split octets pieces beats rest b in
      (split.0, ap at (pieces-parts octets pieces split.0 split.1) ∙ is split.0, split.2)

  pub opens-whole : (octets : List ℕ) (header : X) (pieces beats : List (List ℕ)) (rest : List ℕ) → IsHeaderBy at pieces header
      → Begins beat_at octets (pieces ++ beats) rest → length rest < 16 → OpensWholeBy at octets header beats (length rest)
  opens-whole octets header pieces beats rest is b short = (rest, opens octets header pieces beats rest is b, refl, short)

module _ {X : Type 0} (at : List ℕ → FrontAt X) (read_as : X → Front) (kind : Kind at read_as)
    (h : History) (header : X) (pieces : List (List ℕ)) (is : IsHeaderBy at pieces header) (kept : Front) (kept_is : kept ≡ read_as header)
    (old new : ReaderState BeatParserState) (before now : Told) (ended : Bool) where
  abbrev inner : Standing → lines.History (List ℕ)
  inner standing = pieces_read h.limit h.octets (pieces ++ h.beats) standing

  abbrev state : ReaderState BeatParserState → BeatsState
  state r = record { reader = r; front = kept }

  stands-so : (k : History) (standing : Standing) → k.course ≡ course_of standing (length k.octets)
      → lines.Stands beat_at new (pieces_read k.limit k.octets (pieces ++ k.beats) standing) → Stands (state new) k
  stands-so k standing course s = record {
    pieces = pieces;
    standing = standing;
    read = s;
    at = subst (λ f. StandsAt f standing pieces k) (sym kept_is) (kind.put header standing pieces k is course);
  }

  abbrev TellsIt : Course → Result BeatIn CapFault → Type 0
  TellsIt course result = TellsBy at course h header (state old) (state new) before now ended result

  going-told : (answer : Result (Option (List ℕ)) InFault) → h.course ≡ Going → lines.Tells beat_at reader.Going (inner reader.Going) old new before now ended answer
      → TellsIt Going (beat_of answer new.buffer.taken)
  going-told (Ok (Some beat)) course (got, a, s) =
      let same : (pieces ++ h.beats) ++ beat ∷ [] ≡ pieces ++ (h.beats ++ beat ∷ []) = append_assoc pieces h.beats (beat ∷ []) in (
        got,
        (a.0, a.1, opens at (h.octets ++ got) header pieces (h.beats ++ beat ∷ []) a.1 is (subst (λ ps. Begins beat_at (h.octets ++ got) ps a.1) same a.2)),
        stands-so _ reader.Going course (subst (λ ps. lines.Stands beat_at new (pieces_read h.limit (h.octets ++ got) ps reader.Going)) same s),
      )
  going-told (Ok None) course (got, a, s) = (
    got,
    (a.0, a.1, opens-whole at (h.octets ++ got) header pieces h.beats [] is a.2 (omega arith)),
    stands-so _ reader.Ended refl s,
  )
  going-told (Err fault.Read) course (got, a, s) = (
    got,
    (a.0, length a.1.0, opens-whole at (h.octets ++ got) header pieces h.beats a.1.0 is a.1.1 (open-short a.1.0 a.1.2)),
    stands-so _ (reader.Failed fault.Read) refl s,
  )
  going-told (Err (fault.BadLine number kind)) course (got, (same, inl a), s) = absurd (never-refused a.1.0 kind a.1.2)
  going-told (Err (fault.BadLine number kind)) course (got, (same, inr a), s) =
      let rest = a.3.0 in
      let short = open-short rest a.3.2 in
      let over : length rest ≡ new.buffer.taken % 16 = omega (arith, short, s.taken, pieces-length (h.octets ++ got) (pieces ++ h.beats) rest a.3.1) in
      let count : new.buffer.taken % 16 ≡ length (h.octets ++ got) % 16 = ap (λ n. n % 16) s.taken in (
        got,
        (a.1, a.2, subst (OpensWholeBy at (h.octets ++ got) header h.beats) over (opens-whole at (h.octets ++ got) header pieces h.beats rest is a.3.1 short)),
        stands-so _ (reader.Failed (fault.BadLine number kind)) (ap Ended count) s,
      )
  going-told (Err fault.TooLong) course (got, a, s) = (
    got,
    (a.0, a.1, length a.2.0, opens-whole at (h.octets ++ got) header pieces h.beats a.2.0 is a.2.1 (open-short a.2.0 a.2.2)),
    stands-so _ (reader.Failed fault.TooLong) refl s,
  )

  -- after the end or a fault
  abbrev Same : Type 0
  Same = (new ≡ old) × (now ≡ before)

  again : (standing : Standing) (answer : Result (Option (List ℕ)) InFault) → lines.Stands beat_at old (inner standing) → lines.Tells beat_at standing (inner standing) old new before now ended answer
      → h.course ≡ course_of standing (length h.octets) → TellsIt (course_of standing (length h.octets)) (beat_of answer new.buffer.taken)
  again reader.Going answer s t course = going-told answer course t
  again reader.Ended answer s t course = (ap (λ a. beat_of a new.buffer.taken) t.0, ap state t.1, t.2)
  again (reader.Failed fault.Read) answer s t course = (ap (λ a. beat_of a new.buffer.taken) t.0, ap state t.1, t.2)
  again (reader.Failed (fault.BadLine number kind)) answer s t course =
      let count : new.buffer.taken ≡ length h.octets = ap (λ r. r.buffer.taken) t.1 ∙ s.taken in
      (ap₂ beat_of t.0 count, ap state t.1, t.2)
  again (reader.Failed fault.TooLong) answer s t course = (ap (λ a. beat_of a new.buffer.taken) t.0, ap state t.1, t.2)

-- a call of `next`
told-by : {X : Type 0} (at : List ℕ → FrontAt X) (read_as : X → Front) → Kind at read_as
    → (x : BeatsState) (new : ReaderState BeatParserState) (before now : Told) (ended : Bool) (result : Result BeatIn CapFault)
    → ReadsBeat x.reader new before now ended result → (h : History) (header : X) → Stands x h → x.front ≡ read_as header
    → TellsBy at h.course h header x (record { reader = new; front = x.front }) before now ended result
told-by at read_as kind x new before now ended result (answer, n, e) h header s read =
    let stands = kind.get header s.standing s.pieces h (subst (λ f. StandsAt f s.standing s.pieces h) read s.at) in
    let t = n.history (pieces_read h.limit h.octets (s.pieces ++ h.beats) s.standing) s.read in
    subst (λ r. TellsBy at h.course h header x (record { reader = new; front = x.front }) before now ended r) (sym e)
    (subst (λ course. TellsBy at course h header x (record { reader = new; front = x.front }) before now ended (beat_of answer new.buffer.taken)) (sym stands.1)
    (again at read_as kind h header s.pieces stands.0 x.front read x.reader new before now ended s.standing answer s.read t stands.1))

pub beat-told : (x : BeatsState) (new : ReaderState BeatParserState) (before now : Told) (ended : Bool) (result : Result BeatIn CapFault)
    → ReadsBeat x.reader new before now ended result → (h : History) (header : Header) → Stands x h → x.front ≡ front.Read header
    → Tells h.course h header x (record { reader = new; front = x.front }) before now ended result
beat-told x new before now ended result reads h header s read = told-by header_at front.Read captures x new before now ended result reads h header s read

pub level-beat-told : (x : BeatsState) (new : ReaderState BeatParserState) (before now : Told) (ended : Bool) (result : Result BeatIn CapFault)
    → ReadsBeat x.reader new before now ended result → (h : History) (header : LevelsHeader) → Stands x h → x.front ≡ front.ReadLevels header
    → TellsBy levels_header_at h.course h header x (record { reader = new; front = x.front }) before now ended result
level-beat-told x new before now ended result reads h header s read =
    told-by levels_header_at front.ReadLevels level_files x new before now ended result reads h header s read

-- where the calls go on, so does the reader of pieces
pub going-of : (standing : Standing) (taken : ℕ) → course_of standing taken ≡ Going → standing ≡ reader.Going
going-of reader.Going taken e = refl
going-of reader.Ended taken e = absurd (cc)
going-of (reader.Failed fault.Read) taken e = absurd (cc)
going-of (reader.Failed (fault.BadLine number kind)) taken e = absurd (cc)
going-of (reader.Failed fault.TooLong) taken e = absurd (cc)

-- Many beats at once.

-- the reader of pieces without its first octets, which were answered as so many lines
abbrev pub passed : ReaderState BeatParserState → ℕ → ReaderState BeatParserState
passed x n = record x { buffer = record x.buffer { unused = drop (16 * n) x.buffer.unused }; lines = x.lines + n }

passed-by : {X : Type 0} (at : List ℕ → FrontAt X) (read_as : X → Front) → Kind at read_as → (x : BeatsState) (n : ℕ) → n ≡ length x.reader.buffer.unused / 16
    → (h : History) (header : X) → Stands x h → x.front ≡ read_as header → h.course ≡ Going
    → PassesBy at x.reader.buffer.unused h header (record { reader = passed x.reader n; front = x.front })
passed-by at read_as kind x n is h header s read course =
    let stands = kind.get header s.standing s.pieces h (subst (λ f. StandsAt f s.standing s.pieces h) read s.at) in
    let going : s.standing ≡ reader.Going = going-of s.standing (length h.octets) (sym stands.1 ∙ course) in
    let unused = x.reader.buffer.unused in
    let held = whole-pieces n unused (omega (arith, is)) in
    let before = subst (λ st. lines.IsUnused beat_at st (pieces_read h.limit h.octets (s.pieces ++ h.beats) s.standing) unused) going s.read.unused in
    let all = pieces-join h.octets (s.pieces ++ h.beats) held.0 unused (drop (16 * n) unused) before held.2 in
    let same : (s.pieces ++ h.beats) ++ held.0 ≡ s.pieces ++ (h.beats ++ held.0) = append_assoc s.pieces h.beats held.0 in
    let begins = subst (λ ps. Begins beat_at h.octets ps (drop (16 * n) unused)) same all in
    let count : 16 * n ≡ length unused / 16 * 16 = omega (arith, is) in (
      held.0,
      pieces-front unused held.0 (16 * n) (omega (arith, is)) held.2 ∙ ap (λ m. take m unused) count,
      (drop (16 * n) unused, opens at h.octets header s.pieces (h.beats ++ held.0) (drop (16 * n) unused) stands.0 begins),
      record {
        pieces = s.pieces;
        standing = reader.Going;
        read = record {
          limit = s.read.limit;
          taken = s.read.taken;
          within = s.read.within;
          lines = omega (arith, s.read.lines, held.1, length-append (s.pieces ++ h.beats) held.0, ap length same);
          standing = s.read.standing ∙ going;
          unused = begins;
        };
        at = subst (λ f. StandsAt f reader.Going s.pieces (record h { beats = h.beats ++ held.0 })) (sym read)
            (kind.put header reader.Going s.pieces (record h { beats = h.beats ++ held.0 }) stands.0 course);
      },
    )

pub beats-passed : (x : BeatsState) (n : ℕ) → n ≡ length x.reader.buffer.unused / 16
    → (h : History) (header : Header) → Stands x h → x.front ≡ front.Read header → h.course ≡ Going
    → Passes x.reader.buffer.unused h header (record { reader = passed x.reader n; front = x.front })
beats-passed x n is h header s read course = passed-by header_at front.Read captures x n is h header s read course

pub level-beats-passed : (x : BeatsState) (n : ℕ) → n ≡ length x.reader.buffer.unused / 16
    → (h : History) (header : LevelsHeader) → Stands x h → x.front ≡ front.ReadLevels header → h.course ≡ Going
    → PassesBy levels_header_at x.reader.buffer.unused h header (record { reader = passed x.reader n; front = x.front })
level-beats-passed x n is h header s read course = passed-by levels_header_at front.ReadLevels level_files x n is h header s read course
