-- What a command on captures or on files of levels answers, by its header and by what comes behind it.
use Rattle.std.proofs.Common.{◌≡◌, ℕ, ◌+◌, ◌^◌, ◌<◌, ◌≤◌, Bool, List, [], ◌++◌, length, Option, Some, None, Ok, Err, refl, sym, subst, arith, append-nil, append_assoc, inl, inr, ap, ◌∙◌}
use Rattle.std.specs.Prelude.{IfSome}
use Rattle.pcs_io.specs.Octets.{Told, Gives}
use Rattle.pcs_io.specs.Captures.{FrontAt, Short, IsReadShort, header_at, levels_header_at, History, Going, BeatsState, Stands, HeaderAnswersBy, HeaderAnswers, header_told, opened}
use Rattle.pcs_io.specs.Histories.{octets_ahead}
use Rattle.pcs_io.specs.declared.header.Header.{Header}
use Rattle.pcs_io.specs.declared.levels_header.LevelsHeader.{LevelsHeader}
use Rattle.pcs_io.specs.declared.beats.Front.{Front}
use Rattle.pcs_io.specs.declared.beats.Front.TheVariants as front
use Rattle.pcs_io.specs.declared.beats.CapFault.{CapFault}
use Rattle.pcs_io.specs.declared.beats.CapFault.TheVariants as fault
use Rattle.pcs_io.proofs.HeaderSizes.{short-header, few-taken}
use Rattle.pcs_io.proofs.Told.{takes-after, takes-consumed}
use Rattle.pcs_drive.specs.Seen.{Seen, Written, ReadFailed}
use Rattle.pcs_drive.specs.Outcomes.{outcome_of_capture}
use Rattle.pcs_drive.specs.CaptureCommand.{BeatsText, TextBehind, CaptureText, LevelsText, HasOpenedBy, HasOpened, HasOpenedLevels, TookBeatsBy, TookAllBeatsBy, BrokeOffBy, KeptUpBy, FromBeatsBy, FromBeats, FromLevelBeats, FromFileBy, FromCapture, FromLevels}
use Rattle.pcs_drive.specs.declared.outcome.Outcome.{Outcome}
use Rattle.pcs_drive.specs.declared.outcome.Outcome.TheVariants.{Done, ReadFault, WriteFault, NoMemory, Cut, NotAligned, TooLong}
use Rattle.pcs_drive.proofs.Copying.{rose-after}
use Rattle.pcs_drive.proofs.LevelsFront.{short-levels, few-levels}

nothing-written : (held : Option (List ℕ)) → IfSome held (λ before. IfSome held (λ after. after ≡ before ++ []))
nothing-written None = tt
nothing-written (Some before) = sym (append-nil before)

module _ {X : Type 0} (at : List ℕ → FrontAt X) (read_as : X → Front) where
  -- the header was refused, and nothing was written
  pub refused : ((octets : List ℕ) → at octets ≡ Short → length octets < 32) → (text : TextBehind X) (seen : Seen) (got : List ℕ) (why : CapFault)
      → HeaderAnswersBy at (2 ^ 40) got seen.told_before seen.told_after seen.ended (Err why)
      → (why ≡ fault.Read → ReadFailed seen) → seen.held_after ≡ seen.held_before → FromFileBy at text seen (outcome_of_capture why)
  refused short text seen got why a rose same = by why a rose
    where
      nothing : Written seen []
      nothing = subst (λ held. IfSome seen.held_before (λ before. IfSome held (λ after. after ≡ before ++ []))) (sym same) (nothing-written seen.held_before)

      by : (why : CapFault) → HeaderAnswersBy at (2 ^ 40) got seen.told_before seen.told_after seen.ended (Err why) → (why ≡ fault.Read → ReadFailed seen)
          → FromFileBy at text seen (outcome_of_capture why)
      by fault.Read a rose = inl (got, rose refl, a.0, a.1, nothing)
      by (fault.BadHeader bad) (inl a) rose = ((got, inl (takes-consumed seen.told_before seen.told_after got a.0, a.1, a.2)), nothing)
      by (fault.BadHeader bad) (inr a) rose = ((got, inr (a.0, record { took = a.1.source; nothing = a.1.nothing; ended = a.1.over }, a.2, a.3)), nothing)
      by fault.TooLong a rose = absurd (omega (arith, a.1, short got a.2))

  -- there was no memory behind the header
  pub no-memory-behind : (text : TextBehind X) (seen : Seen) (beats : BeatsState) (header : X) → HasOpenedBy at read_as beats header seen.told_before seen.told_after
      → seen.held_after ≡ seen.held_before → FromFileBy at text seen NoMemory
  no-memory-behind text seen beats header o same = (
    (o.history.octets, takes-consumed seen.told_before seen.told_after o.history.octets o.took, o.few, inr (header, o.has.begins.1.0, o.has.begins.1.1)),
    same,
  )

  -- the header was read
  pub read-header : ((x : BeatsState) (h : History) (header : X) → Stands x h → x.front ≡ read_as header → h.beats ≡ [] → h.course ≡ Going
      → length h.octets ≤ 32 + length x.reader.buffer.unused)
      → (beats : BeatsState) (header : X) (before now : Told) (ended : Bool) (got : List ℕ)
      → HeaderAnswersBy at (2 ^ 40) got before now ended (Ok header) → Stands beats (header_told (opened (2 ^ 40)) got (Ok header)) → IsReadShort at before now
      → beats.front ≡ read_as header → octets_ahead beats.reader ≤ beats.reader.buffer.limit → length beats.reader.buffer.unused ≤ 65536
      → HasOpenedBy at read_as beats header before now
  read-header few beats header before now ended got told stands asked read ahead waits =
      let h = header_told (opened (2 ^ 40)) got (Ok header) in
      record {
        history = h;
        has = record {
          stands = stands;
          read = read;
          none = refl;
          going = refl;
          begins = (told.1, (told.1, told.2, refl));
          limit = omega arith;
          ahead = omega (arith, ahead, stands.read.limit);
        };
        limit = refl;
        took = told.0;
        asked = asked;
        few = omega (arith, few beats h header stands read refl refl, waits);
      }

-- what is answered behind the header is the answer for the whole file
module _ {X : Type 0} (at : List ℕ → FrontAt X) (seen : Seen) (mid : Told) (front_octets : List ℕ) (took : Gives seen.told_before mid front_octets)
    (asked : IsReadShort at seen.told_before mid) (reads_mid : ℕ) (no_fewer : seen.reads_before ≤ reads_mid) where
  abbrev pub later : Seen
  later = record seen { told_before = mid; reads_before = reads_mid }

  took-beats : (header : X) (beats : List (List ℕ)) (over : ℕ) → TookBeatsBy at front_octets header later beats over → TookBeatsBy at [] header seen beats over
  took-beats header beats over t = record {
    got = front_octets ++ t.got;
    took = takes-after seen.told_before mid seen.told_after front_octets t.got took t.took;
    whole = t.whole;
  }

  took-all-beats : (limit : ℕ) (header : X) (beats : List (List ℕ)) (over : ℕ) → TookAllBeatsBy at front_octets limit header later beats over
      → TookAllBeatsBy at [] limit header seen beats over
  took-all-beats limit header beats over t = record {
    got = front_octets ++ t.got;
    took = record {
      took = takes-after seen.told_before mid seen.told_after front_octets t.got took t.took.took;
      nothing = t.took.nothing;
      ended = t.took.ended;
    };
    short = t.short;
    whole = t.whole;
  }

  broke-off : (text : BeatsText) (limit : ℕ) (header : X) (beats : List (List ℕ)) → BrokeOffBy at text front_octets limit header later beats
      → BrokeOffBy at text [] limit header seen beats
  broke-off text limit header beats (inl b) =
      inl (front_octets ++ b.0, b.1, takes-after seen.told_before mid seen.told_after front_octets b.0 took b.2, b.3, b.4, b.5)
  broke-off text limit header beats (inr b) = inr (b.0, took-all-beats limit header beats b.0 b.1, b.2)

  kept-up : (text : BeatsText) (header : X) → KeptUpBy at text front_octets header later → KeptUpBy at text [] header seen
  kept-up text header (inr (early, told, up)) =
      inr (front_octets ++ early, told ∙ ap (λ xs. xs ++ early) took.0 ∙ append_assoc seen.told_before.given front_octets early, up)
  kept-up text header (inl same) = by asked
    where
      by : IsReadShort at seen.told_before mid → KeptUpBy at text [] header seen
      by (inl none) = inl (same ∙ none)
      by (inr (early, told, short)) = inr (early, ap (λ o. o.earlier) same ∙ told, inl short)

  whole : (text : BeatsText) (limit : ℕ) (header : X) (outcome : Outcome) → FromBeatsBy at text front_octets limit header later outcome
      → FromBeatsBy at text [] limit header seen outcome
  unfolding took-beats
  whole text limit header Done d = (d.0, took-all-beats limit header d.0 0 d.1, d.2, d.3)
  whole text limit header ReadFault d = (d.0, d.1, rose-after seen.reads_before reads_mid seen.reads_after no_fewer d.2, took-beats header d.0 d.1 d.3, d.4, d.5)
  whole text limit header WriteFault d = (d.0, d.1, broke-off text limit header d.0 d.2, kept-up text header d.3)
  whole text limit header (Cut rest) d = (d.0, d.1, took-all-beats limit header d.0 rest d.2, d.3)
  whole text limit header NotAligned d = (d.0, took-all-beats limit header d.0 0 d.1, d.2, d.3)
  whole text limit header TooLong d = (d.0, d.1, took-beats header d.0 d.1 d.2, d.3, d.4)
  whole text limit header outcome d = absurd d

behind-header : {X : Type 0} (at : List ℕ → FrontAt X) (text : TextBehind X) (seen : Seen) (header : X) (outcome : Outcome)
    → FromBeatsBy at (text header) [] (2 ^ 40) header seen outcome → FromFileBy at text seen outcome
behind-header at text seen header Done d = (header, d)
behind-header at text seen header ReadFault d = inr (header, d)
behind-header at text seen header WriteFault d = (header, d)
behind-header at text seen header (Cut rest) d = (header, d)
behind-header at text seen header NotAligned d = (header, d)
behind-header at text seen header TooLong d = (header, d)
behind-header at text seen header outcome d = absurd d

file-answered : {X : Type 0} (at : List ℕ → FrontAt X) (read_as : X → Front) (text : TextBehind X) (seen : Seen) (beats : BeatsState) (header : X)
    (mid : Told) (reads_mid : ℕ) (outcome : Outcome) → (o : HasOpenedBy at read_as beats header seen.told_before mid) → seen.reads_before ≤ reads_mid
    → FromBeatsBy at (text header) o.history.octets o.history.limit header (record seen { told_before = mid; reads_before = reads_mid }) outcome
    → FromFileBy at text seen outcome
file-answered at read_as text seen beats header mid reads_mid outcome o later_reads d =
    behind-header at text seen header outcome
    (whole at seen mid o.history.octets o.took o.asked reads_mid later_reads (text header) (2 ^ 40) header outcome
    (subst (λ limit. FromBeatsBy at (text header) o.history.octets limit header (record seen { told_before = mid; reads_before = reads_mid }) outcome) o.limit d))

-- ---- of captures
pub header-refused : (text : CaptureText) (seen : Seen) (got : List ℕ) (why : CapFault) → HeaderAnswers (2 ^ 40) got seen.told_before seen.told_after seen.ended (Err why)
    → (why ≡ fault.Read → ReadFailed seen) → seen.held_after ≡ seen.held_before → FromCapture text seen (outcome_of_capture why)
header-refused text seen got why a rose same = refused header_at front.Read short-header text seen got why a rose same

pub header-opened : (beats : BeatsState) (header : Header) (before now : Told) (ended : Bool) (got : List ℕ)
    → HeaderAnswers (2 ^ 40) got before now ended (Ok header) → Stands beats (header_told (opened (2 ^ 40)) got (Ok header)) → IsReadShort header_at before now
    → beats.front ≡ front.Read header → octets_ahead beats.reader ≤ beats.reader.buffer.limit → length beats.reader.buffer.unused ≤ 65536
    → HasOpened beats header before now
header-opened beats header before now ended got told stands asked read ahead waits =
    read-header header_at front.Read few-taken beats header before now ended got told stands asked read ahead waits

pub no-memory-opened : (text : CaptureText) (seen : Seen) (beats : BeatsState) (header : Header) → HasOpened beats header seen.told_before seen.told_after
    → seen.held_after ≡ seen.held_before → FromCapture text seen NoMemory
no-memory-opened text seen beats header o same = no-memory-behind header_at front.Read text seen beats header o same

pub capture-answered : (text : CaptureText) (seen : Seen) (beats : BeatsState) (header : Header) (mid : Told) (reads_mid : ℕ) (outcome : Outcome)
    → (o : HasOpened beats header seen.told_before mid) → seen.reads_before ≤ reads_mid
    → FromBeats (text header) o.history.octets o.history.limit header (record seen { told_before = mid; reads_before = reads_mid }) outcome
    → FromCapture text seen outcome
capture-answered text seen beats header mid reads_mid outcome o later_reads d =
    file-answered header_at front.Read text seen beats header mid reads_mid outcome o later_reads d

-- ---- of files of levels
pub levels-refused : (text : LevelsText) (seen : Seen) (got : List ℕ) (why : CapFault)
    → HeaderAnswersBy levels_header_at (2 ^ 40) got seen.told_before seen.told_after seen.ended (Err why)
    → (why ≡ fault.Read → ReadFailed seen) → seen.held_after ≡ seen.held_before → FromLevels text seen (outcome_of_capture why)
levels-refused text seen got why a rose same = refused levels_header_at front.ReadLevels short-levels text seen got why a rose same

pub levels-opened : (beats : BeatsState) (header : LevelsHeader) (before now : Told) (ended : Bool) (got : List ℕ)
    → HeaderAnswersBy levels_header_at (2 ^ 40) got before now ended (Ok header) → Stands beats (header_told (opened (2 ^ 40)) got (Ok header))
    → IsReadShort levels_header_at before now → beats.front ≡ front.ReadLevels header → octets_ahead beats.reader ≤ beats.reader.buffer.limit → length beats.reader.buffer.unused ≤ 65536
    → HasOpenedLevels beats header before now
levels-opened beats header before now ended got told stands asked read ahead waits =
    read-header levels_header_at front.ReadLevels few-levels beats header before now ended got told stands asked read ahead waits

pub levels-answered : (text : LevelsText) (seen : Seen) (beats : BeatsState) (header : LevelsHeader) (mid : Told) (reads_mid : ℕ) (outcome : Outcome)
    → (o : HasOpenedLevels beats header seen.told_before mid) → seen.reads_before ≤ reads_mid
    → FromLevelBeats (text header) o.history.octets o.history.limit header (record seen { told_before = mid; reads_before = reads_mid }) outcome
    → FromLevels text seen outcome
levels-answered text seen beats header mid reads_mid outcome o later_reads d =
    file-answered levels_header_at front.ReadLevels text seen beats header mid reads_mid outcome o later_reads d
