-- Beats that are read behind a header of either kind, and what is answered.
use Rattle.std.proofs.Common.{◌≡◌, ℕ, ◌<◌, ◌≤◌, Bool, true, false, List, [], ◌∷◌, ◌++◌, length, Option, Result, Ok, Err, refl, sym, ◌∙◌, ap, subst, arith, append_assoc, append-nil, inl, inr}
use Rattle.std.specs.Prelude.{◌⊎◌, IsSome}
use Rattle.std.specs.List.{AllByRecursion}
use Rattle.std.proofs.lemmas.Bool.{cases_lt, lt-ltb}
use Rattle.pcs_io.specs.Faults.{Rose}
use Rattle.pcs_io.specs.Grammars.{Begins}
use Rattle.pcs_io.specs.Beats.{beat_at}
use Rattle.pcs_io.specs.Octets.{Told, Gives, TakesWhereTold, AppendsFront}
use Rattle.pcs_io.specs.Captures.{FrontAt, History, BeatsState, Stands, StandsAt, course_of, Going, Failed, OpensBy, OpensWholeBy, IsReadAfterBy, TellsBy, PassesBy, BeatAnswersBy, header_read, beat_told, whole_front}
use Rattle.pcs_io.specs.declared.beats.Front.{Front}
use Rattle.pcs_io.specs.declared.beats.Front.TheVariants as front
use Rattle.pcs_io.specs.declared.beats.BeatIn.{BeatIn}
use Rattle.pcs_io.specs.declared.beats.BeatIn.TheVariants.{Beat, End}
use Rattle.pcs_io.specs.declared.beats.CapFault.{CapFault}
use Rattle.pcs_io.specs.declared.beats.CapFault.TheVariants as fault
use Rattle.pcs_io.specs.declared.reader.Standing.{Standing}
use Rattle.pcs_io.specs.declared.reader.Standing.TheVariants as standing
use Rattle.pcs_io.specs.declared.fault.InFault.TheVariants as in_fault
use Rattle.pcs_io.proofs.Told.{gives-append, gives-none, takes-after, takes-consumed}
use Rattle.pcs_io.proofs.BeatPieces.{is-piece, pieces-split}
use Rattle.pcs_drive.specs.Seen.{Seen, Took, Written, ReadFailed, WriteFailed}
use Rattle.pcs_drive.specs.Outcomes.{outcome_of_capture}
use Rattle.pcs_drive.specs.Writing.{Stays, BreaksOffBefore, Longer, StaysInFront}
use Rattle.pcs_drive.specs.CaptureCommand.{BeatsText, HasHeaderBy, TookAllBeatsBy, KeptUpBy, outcome_at_end, FromBeatsBy}
use Rattle.pcs_drive.specs.Tasks.{Meaning, HasPut, TakesBeat, BreaksAtBeat, TakesBeats, BreaksAtBeats, Finishes, BreaksAtEnd}
use Rattle.pcs_drive.specs.declared.outcome.Outcome.TheVariants.{WriteFault}
use Rattle.pcs_drive.proofs.Copying.{all-written, rose-after}
use Rattle.pcs_drive.proofs.WritingLemmas.{wrote-all, WroteFirst, first-longer, first-all, first-seen, longer-in-front}

-- beats in front of octets have sixteen octets each
sixteens : (octets : List ℕ) (beats : List (List ℕ)) (rest : List ℕ) → Begins beat_at octets beats rest → AllByRecursion (λ beat. length beat ≡ 16) beats
sixteens octets [] rest b = tt
sixteens octets (beat ∷ beats) rest b = ((is-piece octets beat b.0 b.1).sixteen, sixteens b.0 beats rest b.2)

-- beats behind others are such beats
later-sixteens : {X : Type 0} (at : List ℕ → FrontAt X) (octets : List ℕ) (header : X) (beats more : List (List ℕ)) (rest : List ℕ) → OpensBy at octets header (beats ++ more) rest
    → AllByRecursion (λ beat. length beat ≡ 16) more
later-sixteens at octets header beats more rest o =
    let parts = pieces-split o.0 beats more rest o.2 in sixteens parts.0 more rest parts.2

module _ {T X : Type 0} (Keeps : Meaning T) (at : List ℕ → FrontAt X) (h : History) (header : X) (text : BeatsText) where
  -- the octets and the beats read so far
  abbrev reading : List ℕ → List (List ℕ) → History
  reading got beats = record h { octets = h.octets ++ got; beats = beats }

  -- The source wasn't read, or when it was read last the text of the beats that had come was written.
  abbrev pub Asked : Told → Told → Option (List ℕ) → Option (List ℕ) → Type 0
  Asked before now start held =
      (now ≡ before)
      ⊎ ((early : List ℕ) × (now.earlier ≡ before.given ++ early)
      × (beats : List (List ℕ)) × (over : ℕ) × OpensWholeBy at (h.octets ++ early) header beats over × WroteFirst start held (text.so_far beats))

  asked-longer : (before now : Told) (start held held_now : Option (List ℕ)) → Asked before now start held → Longer held held_now → Asked before now start held_now
  asked-longer before now start held held_now (inl same) longer = inl same
  asked-longer before now start held held_now (inr (early, told, beats, over, opens, kept)) longer =
      inr (early, told, beats, over, opens, first-longer start held held_now (text.so_far beats) kept longer)

  kept-up : (seen : Seen) (held : Option (List ℕ)) → Asked seen.told_before seen.told_after seen.held_before held → StaysInFront held seen.held_after
      → KeptUpBy at text h.octets header seen
  kept-up seen held (inl same) stays = inl same
  kept-up seen held (inr (early, told, beats, over, opens, kept)) stays =
      inr (early, told, inr (beats, over, opens, first-seen seen.held_before held seen.held_after (text.so_far beats) kept stays))

  -- The reader goes on after the beats that it answered, the task took them, and its text is written but what is pending.
  pub record Reading (b : BeatsState) (task : T) (before now : Told) (start held : Option (List ℕ)) (pending : List ℕ) : Type 0 where
    pub got : List ℕ
    pub beats : List (List ℕ)
    pub rest : List ℕ
    pub stands : Stands b (reading got beats)
    pub took : Gives before now got
    pub opens : OpensBy at (h.octets ++ got) header beats rest
    pub put : HasPut Keeps task text beats start held pending
    pub asked : Asked before now start held

  pub reading-start : (read_as : X → Front) (b : BeatsState) (task : T) (before : Told) (start held : Option (List ℕ)) (pending : List ℕ) → HasHeaderBy at read_as b h header
      → HasPut Keeps task text [] start held pending → Reading b task before before start held pending
  reading-start read_as b task before start held pending has put =
      let same : h.octets ≡ h.octets ++ [] = sym (append-nil h.octets) in
      record {
        got = [];
        beats = [];
        rest = has.begins.0;
        stands = subst (λ o. Stands b (record h { octets = o; beats = [] })) same (subst (λ bs. Stands b (record h { beats = bs })) has.none has.stands);
        took = gives-none before;
        opens = subst (λ o. OpensBy at o header [] has.begins.0) same has.begins.1;
        put = put;
        asked = inl refl;
      }

  -- what is pending may be written at any time
  pub reading-kept : (b : BeatsState) (task : T) (before now : Told) (start held held_now : Option (List ℕ)) (pending more : List ℕ)
      → Reading b task before now start held pending → Stays held pending held_now more → Longer held held_now → Reading b task before now start held_now more
  reading-kept b task before now start held held_now pending more r kept longer = record {
    got = r.got;
    beats = r.beats;
    rest = r.rest;
    stands = r.stands;
    took = r.took;
    opens = r.opens;
    put = record { keeps = r.put.keeps; grows = r.put.grows; wrote = kept start (text.so_far r.beats) r.put.wrote };
    asked = asked-longer before now start held held_now r.asked longer;
  }

  -- All the beats among the octets that the reader held are taken at once.
  module _ (going : h.course ≡ Going) (old new : BeatsState) (task task_now : T) (before now : Told) (start held held_now : Option (List ℕ)) (pending more octets : List ℕ)
      (r : Reading old task before now start held pending) (is : octets ≡ whole_front old.reader.buffer.unused) where
    pub reading-all : ((k : History) → Stands old k → k.course ≡ Going → PassesBy at old.reader.buffer.unused k header new)
        → TakesBeats Keeps task task_now octets held pending held_now more → Longer held held_now → Reading new task_now before now start held_now more
    reading-all passes takes longer =
        let p = passes (reading r.got r.beats) r.stands going in
        record {
          got = r.got;
          beats = r.beats ++ p.0;
          rest = p.2.0;
          stands = p.3;
          took = r.took;
          opens = p.2.1;
          put = takes text r.beats p.0 start (record { joined = p.1 ∙ sym is; each = later-sixteens at (h.octets ++ r.got) header r.beats p.0 p.2.0 p.2.1 }) r.put;
          asked = asked-longer before now start held held_now r.asked longer;
        }

  -- A write failed behind beats.
  failed : (seen : Seen) (beats : List (List ℕ)) (got rest : List ℕ) → WriteFailed seen → Took seen got → length (h.octets ++ got) ≤ h.limit → OpensBy at (h.octets ++ got) header beats rest
      → AppendsFront seen.held_before seen.held_after (text.so_far beats) → KeptUpBy at text h.octets header seen
      → FromBeatsBy at text h.octets h.limit header seen WriteFault
  failed seen beats got rest rose took within opens front up = (beats, rose, inl (got, rest, took, within, opens, front), up)

  pub all-failed : (going : h.course ≡ Going) (seen : Seen) (old new : BeatsState) (task : T) (held : Option (List ℕ)) (pending octets : List ℕ)
      (r : Reading old task seen.told_before seen.told_after seen.held_before held pending) (is : octets ≡ whole_front old.reader.buffer.unused)
      → ((k : History) → Stands old k → k.course ≡ Going → PassesBy at old.reader.buffer.unused k header new)
      → WriteFailed seen → BreaksAtBeats Keeps task octets held pending seen.held_after → StaysInFront held seen.held_after
      → FromBeatsBy at text h.octets h.limit header seen WriteFault
  all-failed going seen old new task held pending octets r is passes rose breaks stays =
      let p = passes (reading r.got r.beats) r.stands going in
      failed seen (r.beats ++ p.0) r.got p.2.0 rose (takes-consumed seen.told_before seen.told_after r.got r.took) r.stands.read.within p.2.1
      (breaks text r.beats p.0 seen.held_before (record { joined = p.1 ∙ sym is; each = later-sixteens at (h.octets ++ r.got) header r.beats p.0 p.2.0 p.2.1 }) r.put)
      (kept-up seen held r.asked stays)

  pub kept-failed : (seen : Seen) (b : BeatsState) (task : T) (held : Option (List ℕ)) (pending : List ℕ)
      → Reading b task seen.told_before seen.told_after seen.held_before held pending → WriteFailed seen
      → BreaksOffBefore held pending seen.held_after → StaysInFront held seen.held_after → FromBeatsBy at text h.octets h.limit header seen WriteFault
  kept-failed seen b task held pending r rose breaks stays =
      failed seen r.beats r.got r.rest rose (takes-consumed seen.told_before seen.told_after r.got r.took) r.stands.read.within r.opens
      (breaks seen.held_before (text.so_far r.beats) r.put.wrote) (kept-up seen held r.asked stays)

  -- A call of `next`.
  module _ (going : h.course ≡ Going) (seen : Seen) (old new : BeatsState) (task : T) (mid : Told) (held : Option (List ℕ)) (pending : List ℕ)
      (r : Reading old task seen.told_before mid seen.held_before held pending) (answer : Result BeatIn CapFault)
      (tells : (k : History) → Stands old k → TellsBy at k.course k header old new mid seen.told_after seen.ended answer)
      (asks : (k : History) → Stands old k → k.course ≡ Going → IsReadAfterBy at k header mid seen.told_after) (empty : pending ≡ []) where
    abbrev Answered : Result BeatIn CapFault → Type 0
    Answered a =
        (got : List ℕ) × BeatAnswersBy at (reading r.got r.beats) header got mid seen.told_after seen.ended a
        × Stands new (beat_told (reading r.got r.beats) got a)

    told : (a : Result BeatIn CapFault) → answer ≡ a → Answered a
    told a is =
        subst Answered is
        (subst (λ course. TellsBy at course (reading r.got r.beats) header old new mid seen.told_after seen.ended answer) going (tells (reading r.got r.beats) r.stands))

    behind : (got : List ℕ) → (h.octets ++ r.got) ++ got ≡ h.octets ++ (r.got ++ got)
    behind got = append_assoc h.octets r.got got

    within : (got : List ℕ) → length ((h.octets ++ r.got) ++ got) ≤ h.limit → length (h.octets ++ (r.got ++ got)) ≤ h.limit
    within got few = subst (λ o. length o ≤ h.limit) (behind got) few

    -- all text was written before the call
    asked-now : Asked seen.told_before seen.told_after seen.held_before held
    asked-now = by (asks (reading r.got r.beats) r.stands going)
      where
        by : IsReadAfterBy at (reading r.got r.beats) header mid seen.told_after → Asked seen.told_before seen.told_after seen.held_before held
        by (inl same) = subst (λ o. Asked seen.told_before o seen.held_before held) (sym same) r.asked
        by (inr (early, told, over, opens)) = inr (
          r.got ++ early,
          told ∙ ap (λ xs. xs ++ early) r.took.0 ∙ append_assoc seen.told_before.given r.got early,
          r.beats,
          over,
          subst (λ o. OpensWholeBy at o header r.beats over) (append_assoc h.octets r.got early) opens,
          first-all seen.held_before held (text.so_far r.beats) pending empty r.put.wrote,
        )

    up-now : StaysInFront held seen.held_after → KeptUpBy at text h.octets header seen
    up-now stays = kept-up seen held asked-now stays

    -- a beat came, and the task took it
    pub reading-beat : (beat : List ℕ) (task_now : T) (held_now : Option (List ℕ)) (more : List ℕ) → answer ≡ Ok (Beat beat)
        → TakesBeat Keeps task task_now beat held pending held_now more → Longer held held_now
        → Reading new task_now seen.told_before seen.told_after seen.held_before held_now more
    reading-beat beat task_now held_now more is takes longer =
        let t = told (Ok (Beat beat)) is in
        record {
          got = r.got ++ t.0;
          beats = r.beats ++ beat ∷ [];
          rest = t.1.1;
          stands = subst (λ o. Stands new (record h { octets = o; beats = r.beats ++ beat ∷ [] })) (behind t.0) t.2;
          took = gives-append seen.told_before mid seen.told_after r.got t.0 r.took t.1.0;
          opens = subst (λ o. OpensBy at o header (r.beats ++ beat ∷ []) t.1.1) (behind t.0) t.1.2;
          put = takes text r.beats seen.held_before r.put;
          asked = asked-longer seen.told_before seen.told_after seen.held_before held held_now asked-now longer;
        }

    pub beat-failed : (beat : List ℕ) → answer ≡ Ok (Beat beat) → WriteFailed seen → BreaksAtBeat Keeps task beat held pending seen.held_after
        → StaysInFront held seen.held_after → FromBeatsBy at text h.octets h.limit header seen WriteFault
    beat-failed beat is rose breaks stays =
        let t = told (Ok (Beat beat)) is in
        failed seen (r.beats ++ beat ∷ []) (r.got ++ t.0) t.1.1 rose
        (takes-consumed seen.told_before seen.told_after (r.got ++ t.0) (gives-append seen.told_before mid seen.told_after r.got t.0 r.took t.1.0))
        (within t.0 t.2.read.within) (subst (λ o. OpensBy at o header (r.beats ++ beat ∷ []) t.1.1) (behind t.0) t.1.2) (breaks text r.beats seen.held_before r.put)
        (up-now stays)

    -- all of the input was taken
    took-all : (rest : ℕ) → answer ≡ Ok (End rest) → TookAllBeatsBy at h.octets h.limit header seen r.beats rest
    took-all rest is =
        let t = told (Ok (End rest)) is in
        record {
          got = r.got ++ t.0;
          took = record {
            took = takes-after seen.told_before mid seen.told_after r.got t.0 r.took t.1.0.source;
            nothing = t.1.0.nothing;
            ended = t.1.0.over;
          };
          short = subst (λ o. length o < h.limit) (behind t.0) t.1.1;
          whole = subst (λ o. OpensWholeBy at o header r.beats rest) (behind t.0) t.1.2;
        }

    ends : (rest : ℕ) (aligned : Bool) → aligned ≡ text.is_aligned r.beats → TookAllBeatsBy at h.octets h.limit header seen r.beats rest
        → Written seen (text.whole r.beats) → FromBeatsBy at text h.octets h.limit header seen (outcome_at_end rest aligned)
    ends rest aligned is all wrote = elim (cases_lt 0 rest) [
      | inl some ↦ rw (lt-ltb 0 rest some) (r.beats, some, all, wrote)
      | inr none ↦
          let zero_rest : rest ≡ 0 = omega (arith, none) in
          rw zero_rest (by aligned is (subst (TookAllBeatsBy at h.octets h.limit header seen r.beats) zero_rest all))
    ]
      where
        by : (a : Bool) → a ≡ text.is_aligned r.beats → TookAllBeatsBy at h.octets h.limit header seen r.beats 0
            → FromBeatsBy at text h.octets h.limit header seen (outcome_at_end 0 a)
        by true is whole = (r.beats, whole, sym is, wrote)
        by false is whole = (r.beats, whole, sym is, wrote)

    -- the input ended, and the rest of the text was put and written
    pub reading-end : (rest : ℕ) (aligned : Bool) (held_mid : Option (List ℕ)) (more : List ℕ) → answer ≡ Ok (End rest)
        → Finishes Keeps task aligned held pending held_mid more → Stays held_mid more seen.held_after []
        → FromBeatsBy at text h.octets h.limit header seen (outcome_at_end rest aligned)
    reading-end rest aligned held_mid more is finishes flushed =
        let f = finishes text r.beats seen.held_before r.put in
        ends rest aligned f.0 (took-all rest is)
        (all-written seen.held_before seen.held_after (text.whole r.beats)
        (wrote-all seen.held_before seen.held_after (text.whole r.beats) (flushed seen.held_before (text.whole r.beats) f.1)))

    -- a write failed at the end
    pub finish-failed : (rest : ℕ) → answer ≡ Ok (End rest) → WriteFailed seen → BreaksAtEnd Keeps task held pending seen.held_after
        → StaysInFront held seen.held_after → FromBeatsBy at text h.octets h.limit header seen WriteFault
    finish-failed rest is rose breaks stays =
        (r.beats, rose, inr (rest, took-all rest is, breaks text r.beats seen.held_before r.put), up-now stays)

    pub end-failed : (rest : ℕ) (aligned : Bool) (held_mid : Option (List ℕ)) (more : List ℕ) → answer ≡ Ok (End rest) → WriteFailed seen
        → Finishes Keeps task aligned held pending held_mid more → BreaksOffBefore held_mid more seen.held_after → Longer held held_mid
        → StaysInFront held_mid seen.held_after → FromBeatsBy at text h.octets h.limit header seen WriteFault
    end-failed rest aligned held_mid more is rose finishes breaks longer stays =
        let f = finishes text r.beats seen.held_before r.put in (
          r.beats,
          rose,
          inr (rest, took-all rest is, breaks seen.held_before (text.whole r.beats) f.1),
          up-now (longer-in-front held held_mid seen.held_after longer stays),
        )

    text-written : Stays held pending seen.held_after [] → Written seen (text.so_far r.beats)
    text-written flushed =
        all-written seen.held_before seen.held_after (text.so_far r.beats)
        (wrote-all seen.held_before seen.held_after (text.so_far r.beats) (flushed seen.held_before (text.so_far r.beats) r.put.wrote))

    took-more : (got : List ℕ) → TakesWhereTold mid seen.told_after got → Took seen (r.got ++ got)
    took-more got takes = takes-after seen.told_before mid seen.told_after r.got got r.took takes

    -- a fault came
    pub reading-fault : (why : CapFault) → answer ≡ Err why → (why ≡ fault.Read → ReadFailed seen) → Stays held pending seen.held_after []
        → FromBeatsBy at text h.octets h.limit header seen (outcome_of_capture why)
    reading-fault why is rose flushed = by why (told (Err why) is) rose
      where
        by : (why : CapFault) → Answered (Err why) → (why ≡ fault.Read → ReadFailed seen)
            → FromBeatsBy at text h.octets h.limit header seen (outcome_of_capture why)
        by fault.Read t rose = (
          r.beats,
          t.1.1,
          rose refl,
          record { got = r.got ++ t.0; took = took-more t.0 t.1.0; whole = subst (λ o. OpensWholeBy at o header r.beats t.1.1) (behind t.0) t.1.2 },
          within t.0 t.2.read.within,
          text-written flushed,
        )
        by (fault.BadHeader bad) t rose = absurd t.1
        by fault.TooLong t rose = (
          r.beats,
          t.1.2,
          record {
            got = r.got ++ t.0;
            took = took-more t.0 (takes-consumed mid seen.told_after t.0 t.1.0);
            whole = subst (λ o. OpensWholeBy at o header r.beats t.1.2) (behind t.0) t.1.3;
          },
          subst (λ o. length o ≡ h.limit) (behind t.0) t.1.1,
          text-written flushed,
        )

    -- a write failed behind a fault
    pub fault-failed : (why : CapFault) → answer ≡ Err why → WriteFailed seen → BreaksOffBefore held pending seen.held_after
        → StaysInFront held seen.held_after → FromBeatsBy at text h.octets h.limit header seen WriteFault
    fault-failed why is rose breaks stays = by why (told (Err why) is)
      where
        front : AppendsFront seen.held_before seen.held_after (text.so_far r.beats)
        front = breaks seen.held_before (text.so_far r.beats) r.put.wrote

        by : (why : CapFault) → Answered (Err why) → FromBeatsBy at text h.octets h.limit header seen WriteFault
        by fault.Read t =
            failed seen r.beats (r.got ++ t.0) t.1.2.0 rose (took-more t.0 t.1.0) (within t.0 t.2.read.within) (subst (λ o. OpensBy at o header r.beats t.1.2.0) (behind t.0) t.1.2.1) front
            (up-now stays)
        by (fault.BadHeader bad) t = absurd t.1
        by fault.TooLong t =
            failed seen r.beats (r.got ++ t.0) t.1.3.0 rose (took-more t.0 (takes-consumed mid seen.told_after t.0 t.1.0)) (within t.0 t.2.read.within)
            (subst (λ o. OpensBy at o header r.beats t.1.3.0) (behind t.0) t.1.3.1) front (up-now stays)

-- A reader that goes on answered no fault.
told-course : (f : Front) (h : History) (at : Standing) (pieces : List (List ℕ)) → IsSome (header_read f) → StandsAt f at pieces h
    → h.course ≡ course_of at (length h.octets)
told-course front.Unread h at pieces some stands = absurd cc
told-course front.Refused h at pieces some stands = absurd cc
told-course (front.Read header) h at pieces some stands = stands.1
told-course (front.ReadLevels header) h at pieces some stands = stands.1

module _ (k : History) (b : BeatsState) where
  goes-on : Stands b k → k.course ≡ Going → IsSome (header_read b.front) → b.reader.standing ≡ standing.Failed in_fault.Read → ⊥
  goes-on s going read failed =
      let is_failed : s.standing ≡ standing.Failed in_fault.Read = sym s.read.standing ∙ failed in
      let course : k.course ≡ Failed fault.Read =
      told-course b.front k s.standing s.pieces read s.at ∙ ap (λ t. course_of t (length k.octets)) is_failed in
      cc

  pub read-rose : (first mid last : ℕ) → Stands b k → k.course ≡ Going → IsSome (header_read b.front) → first ≤ mid
      → Rose mid last ⊎ (b.reader.standing ≡ standing.Failed in_fault.Read) → Rose first last
  read-rose first mid last s going read later (inl rose) = rose-after first mid last later rose
  read-rose first mid last s going read later (inr failed) = absurd (goes-on s going read failed)
