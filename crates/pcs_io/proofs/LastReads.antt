-- What had come when the source of a reader of captures was read last.
use Rattle.std.proofs.Common.{◌≡◌, ℕ, Bool, List, [], ◌∷◌, ◌++◌, length, refl, sym, ap, ◌∙◌, inl, inr, subst, append_assoc, Some, Result, Ok, Err}
use Rattle.pcs_io.specs.Octets.{Told}
use Rattle.pcs_io.specs.Beats.{beat_at, beat_grammar, BeatParserState}
use Rattle.pcs_io.specs.Histories.{ReaderState}
use Rattle.pcs_io.specs.Histories as lines
use Rattle.pcs_io.specs.Captures.{FrontAt, header_at, levels_header_at, History, BeatsState, Stands, StandsAt, IsHeaderBy, course_of, Going, IsReadShort, IsReadAfterBy, ReadsPiece, FrontReads, LevelsFrontReads, ReadsBeat}
use Rattle.pcs_io.specs.declared.header.Header.{Header}
use Rattle.pcs_io.specs.declared.levels_header.LevelsHeader.{LevelsHeader}
use Rattle.pcs_io.specs.declared.beats.BeatIn.{BeatIn}
use Rattle.pcs_io.specs.declared.beats.CapFault.{CapFault}
use Rattle.pcs_io.specs.declared.beats.Front.{Front}
use Rattle.pcs_io.specs.declared.beats.Front.TheVariants as front
use Rattle.pcs_io.specs.declared.reader.Standing.TheVariants as reader
use Rattle.pcs_io.proofs.BeatPieces.{open-short}
use Rattle.pcs_io.proofs.HistoryLemmas.{read-after}
use Rattle.pcs_io.proofs.HeaderCalls.{Kind, captures, level_files, pieces_read, piece-read, fresh-reader}
use Rattle.pcs_io.proofs.HeaderReading.{AreShort, none-short, one-short, levels-none-short, levels-one-short}
use Rattle.pcs_io.proofs.CaptureCalls.{opens-whole, going-of}

-- ---- behind the header
asked-by : {X : Type 0} (at : List ℕ → FrontAt X) (read_as : X → Front) → Kind at read_as
    → (x : BeatsState) (new : ReaderState BeatParserState) (before now : Told) (ended : Bool) (result : Result BeatIn CapFault)
    → ReadsBeat x.reader new before now ended result → (h : History) (header : X) → Stands x h → x.front ≡ read_as header → h.course ≡ Going
    → IsReadAfterBy at h header before now
asked-by at read_as kind x new before now ended result (answer, n, e) h header s read course =
    by (read-after beat_at x.reader (pieces_read h.limit h.octets (s.pieces ++ h.beats) s.standing) before now beat_grammar s.read going n.asks)
  where
    at_start : IsHeaderBy at s.pieces header × (h.course ≡ course_of s.standing (length h.octets))
    at_start = kind.get header s.standing s.pieces h (subst (λ f. StandsAt f s.standing s.pieces h) read s.at)

    going : s.standing ≡ reader.Going
    going = going-of s.standing (length h.octets) (sym at_start.1 ∙ course)

    by : lines.IsReadAfter beat_at (pieces_read h.limit h.octets (s.pieces ++ h.beats) s.standing) before now → IsReadAfterBy at h header before now
    by (inl same) = inl same
    by (inr (early, told, (rest, begins, over))) =
        inr (early, told, length rest, opens-whole at (h.octets ++ early) header s.pieces h.beats rest at_start.0 begins (open-short rest over))

pub beat-asked : (x : BeatsState) (new : ReaderState BeatParserState) (before now : Told) (ended : Bool) (result : Result BeatIn CapFault)
    → ReadsBeat x.reader new before now ended result → (h : History) (header : Header) → Stands x h → x.front ≡ front.Read header → h.course ≡ Going
    → IsReadAfterBy header_at h header before now
beat-asked x new before now ended result reads h header s read course = asked-by header_at front.Read captures x new before now ended result reads h header s read course

pub level-beat-asked : (x : BeatsState) (new : ReaderState BeatParserState) (before now : Told) (ended : Bool) (result : Result BeatIn CapFault)
    → ReadsBeat x.reader new before now ended result → (h : History) (header : LevelsHeader) → Stands x h → x.front ≡ front.ReadLevels header → h.course ≡ Going
    → IsReadAfterBy levels_header_at h header before now
level-beat-asked x new before now ended result reads h header s read course =
    asked-by levels_header_at front.ReadLevels level_files x new before now ended result reads h header s read course

-- ---- in the header
module _ {X : Type 0} (at : List ℕ → FrontAt X) (limit : ℕ) (old : ReaderState BeatParserState) (before : Told) (fresh : lines.Stands beat_at old (lines.opened limit))
    (none : AreShort at []) where
  -- the first piece
  first-asked : (mid : ReaderState BeatParserState) (between : Told) (soon : Bool) (first : Result (List ℕ) CapFault) → ReadsPiece old mid before between soon first
      → IsReadShort at before between
  first-asked mid between soon first (answer, n, e) = by (read-after beat_at old (lines.opened limit) before between beat_grammar fresh refl n.asks)
    where
      by : lines.IsReadAfter beat_at (lines.opened limit) before between → IsReadShort at before between
      by (inl same) = inl same
      by (inr (early, told, (rest, begins, over))) = inr (early, told, (none early rest begins (open-short rest over)).0)

  -- the second one
  second-asked : (mid new : ReaderState BeatParserState) (between now : Told) (soon ended : Bool) (front : List ℕ) (second : Result (List ℕ) CapFault)
      → AreShort at (front ∷ []) → ReadsPiece old mid before between soon (Ok front) → ReadsPiece mid new between now ended second → IsReadShort at before now
  second-asked mid new between now soon ended front second short one (answer, m, e) =
      let n = piece-read at limit old before fresh mid between soon front one in
      let t = n.history (lines.opened limit) fresh in
      by t.0 t.1.0.0 (read-after beat_at mid (lines.told (lines.opened limit) t.0 (Ok (Some front))) between now beat_grammar t.2 refl m.asks)
    where
      by : (got : List ℕ) → between.given ≡ before.given ++ got → lines.IsReadAfter beat_at (lines.told (lines.opened limit) got (Ok (Some front))) between now
          → IsReadShort at before now
      by got gave (inl same) = subst (IsReadShort at before) (sym same) (first-asked mid between soon (Ok front) one)
      by got gave (inr (early, told, (rest, begins, over))) =
          inr (got ++ early, told ∙ ap (λ xs. xs ++ early) gave ∙ append_assoc before.given got early, (short (got ++ early) rest begins (open-short rest over)).0)

  rested-asked : (between now : Told) → now ≡ between → IsReadShort at before between → IsReadShort at before now
  rested-asked between now same asked = subst (IsReadShort at before) (sym same) asked

capture-asked : (limit : ℕ) (old new : ReaderState BeatParserState) (before now : Told) (ended : Bool) (result : Result Header CapFault)
    → lines.Stands beat_at old (lines.opened limit) → FrontReads old new before now ended result → IsReadShort header_at before now
capture-asked limit old new before now ended result fresh (mid, between, soon, Err why, piece, on) =
    rested-asked header_at limit old before fresh none-short between now on.0.source (first-asked header_at limit old before fresh none-short mid between soon (Err why) piece)
capture-asked limit old new before now ended result fresh (mid, between, soon, Ok front, piece, inl one) =
    rested-asked header_at limit old before fresh none-short between now one.1.source (first-asked header_at limit old before fresh none-short mid between soon (Ok front) piece)
capture-asked limit old new before now ended result fresh (mid, between, soon, Ok front, piece, inr two) =
    second-asked header_at limit old before fresh none-short mid new between now soon ended front two.1.0 (one-short front two.0) piece two.1.1

levels-file-asked : (limit : ℕ) (old new : ReaderState BeatParserState) (before now : Told) (ended : Bool) (result : Result LevelsHeader CapFault)
    → lines.Stands beat_at old (lines.opened limit) → LevelsFrontReads old new before now ended result → IsReadShort levels_header_at before now
levels-file-asked limit old new before now ended result fresh (mid, between, soon, Err why, piece, on) =
    rested-asked levels_header_at limit old before fresh levels-none-short between now on.0.source
    (first-asked levels_header_at limit old before fresh levels-none-short mid between soon (Err why) piece)
levels-file-asked limit old new before now ended result fresh (mid, between, soon, Ok front, piece, on) =
    second-asked levels_header_at limit old before fresh levels-none-short mid new between now soon ended front on.0 (levels-one-short front) piece on.1

pub header-asked : (x : BeatsState) (new : ReaderState BeatParserState) (before now : Told) (ended : Bool) (result : Result Header CapFault)
    → x.front ≡ front.Unread → FrontReads x.reader new before now ended result → (h : History) → Stands x h → IsReadShort header_at before now
header-asked x new before now ended result unread reads h s = capture-asked h.limit x.reader new before now ended result (fresh-reader x unread h s) reads

pub levels-asked : (x : BeatsState) (new : ReaderState BeatParserState) (before now : Told) (ended : Bool) (result : Result LevelsHeader CapFault)
    → x.front ≡ front.Unread → LevelsFrontReads x.reader new before now ended result → (h : History) → Stands x h → IsReadShort levels_header_at before now
levels-asked x new before now ended result unread reads h s = levels-file-asked h.limit x.reader new before now ended result (fresh-reader x unread h s) reads
