-- The two kinds of files that have beats behind a header.
use Rattle.std.specs.Prelude.{ℕ, List}
use Rattle.pcs_io.specs.Captures.{FrontAt, header_at, levels_header_at}
use Rattle.pcs_io.specs.declared.header.Header.{Header}
use Rattle.pcs_io.specs.declared.levels_header.LevelsHeader.{LevelsHeader}
use Rattle.pcs_io.specs.declared.beats.Front.{Front}
use Rattle.pcs_io.specs.declared.beats.Front.TheVariants as front

pub data FileKind : Type 0 where
  Captures : FileKind
  LevelFiles : FileKind

-- their headers
abbrev pub HeaderOf : FileKind → Type 0
HeaderOf Captures = Header
HeaderOf LevelFiles = LevelsHeader

-- what says which header some octets begin with
abbrev pub at_of : (kind : FileKind) → List ℕ → FrontAt (HeaderOf kind)
at_of Captures octets = header_at octets
at_of LevelFiles octets = levels_header_at octets

-- how a reader keeps it
abbrev pub front_of : (kind : FileKind) → HeaderOf kind → Front
front_of Captures header = front.Read header
front_of LevelFiles header = front.ReadLevels header
