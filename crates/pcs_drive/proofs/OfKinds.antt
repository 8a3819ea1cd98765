-- What a reader's calls tell, for either kind of file.
use Rattle.std.proofs.Common.{◌≡◌, ◌/◌, Bool, length, refl, Result}
use Rattle.pcs_io.specs.Octets.{Told}
use Rattle.pcs_io.specs.Captures.{History, BeatsState, Stands, Going, Tells, TellsBy, IsReadAfterBy, Passes, PassesBy, header_at, levels_header_at}
use Rattle.pcs_io.specs.declared.header.Header.{Header}
use Rattle.pcs_io.specs.declared.levels_header.LevelsHeader.{LevelsHeader}
use Rattle.pcs_io.specs.declared.beats.Front.TheVariants as front
use Rattle.pcs_io.specs.declared.beats.BeatIn.{BeatIn}
use Rattle.pcs_io.specs.declared.beats.CapFault.{CapFault}
use Rattle.pcs_io.proofs.CaptureCalls.{passed, beats-passed, level-beats-passed}
use Rattle.pcs_drive.specs.FileKinds.{FileKind, Captures, LevelFiles, HeaderOf, at_of, front_of}

-- a call of `pass`
pub passes-of : (kind : FileKind) (header : HeaderOf kind) (old new : BeatsState) → old.front ≡ front_of kind header
    → ((k : History) (header : Header) → Stands old k → old.front ≡ front.Read header → k.course ≡ Going → Passes old.reader.buffer.unused k header new)
    → ((k : History) (header : LevelsHeader) → Stands old k → old.front ≡ front.ReadLevels header → k.course ≡ Going
    → PassesBy levels_header_at old.reader.buffer.unused k header new)
    → (k : History) → Stands old k → k.course ≡ Going → PassesBy (at_of kind) old.reader.buffer.unused k header new
passes-of Captures header old new read passes levels k s going = passes k header s read going
passes-of LevelFiles header old new read passes levels k s going = levels k header s read going

-- the state that it leaves
pub beats-passed-of : (kind : FileKind) (header : HeaderOf kind) (x : BeatsState) → x.front ≡ front_of kind header → (k : History) → Stands x k
    → k.course ≡ Going
    → PassesBy (at_of kind) x.reader.buffer.unused k header (record { reader = passed x.reader (length x.reader.buffer.unused / 16); front = x.front })
beats-passed-of Captures header x read k s going = beats-passed x (length x.reader.buffer.unused / 16) refl k header s read going
beats-passed-of LevelFiles header x read k s going = level-beats-passed x (length x.reader.buffer.unused / 16) refl k header s read going

-- a call of `next`
pub tells-of : (kind : FileKind) (header : HeaderOf kind) (old new : BeatsState) (before now : Told) (ended : Bool) (answer : Result BeatIn CapFault)
    → old.front ≡ front_of kind header
    → ((k : History) (header : Header) → Stands old k → old.front ≡ front.Read header → Tells k.course k header old new before now ended answer)
    → ((k : History) (header : LevelsHeader) → Stands old k → old.front ≡ front.ReadLevels header
    → TellsBy levels_header_at k.course k header old new before now ended answer)
    → (k : History) → Stands old k → TellsBy (at_of kind) k.course k header old new before now ended answer
tells-of Captures header old new before now ended answer read tells levels k s = tells k header s read
tells-of LevelFiles header old new before now ended answer read tells levels k s = levels k header s read

-- what had come when it read last
pub asks-of : (kind : FileKind) (header : HeaderOf kind) (old : BeatsState) (before now : Told) → old.front ≡ front_of kind header
    → ((k : History) (header : Header) → Stands old k → old.front ≡ front.Read header → k.course ≡ Going → IsReadAfterBy header_at k header before now)
    → ((k : History) (header : LevelsHeader) → Stands old k → old.front ≡ front.ReadLevels header → k.course ≡ Going
    → IsReadAfterBy levels_header_at k header before now)
    → (k : History) → Stands old k → k.course ≡ Going → IsReadAfterBy (at_of kind) k header before now
asks-of Captures header old before now read asks levels k s going = asks k header s read going
asks-of LevelFiles header old before now read asks levels k s going = levels k header s read going
