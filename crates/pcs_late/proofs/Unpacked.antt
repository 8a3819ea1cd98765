-- A pcap file that becomes frame lines, record by record.
use Rattle.std.proofs.Common.{◌≡◌, ℕ, ◌^◌, ◌≤◌, ◌⊎◌, inl, inr, Bool, true, false, List, [], ◌∷◌, ◌++◌, Option, Some, None, IsSome, Result, Ok, Err, subst, refl, sym, ap, ◌∙◌, append-nil, append_assoc, arith}
use Rattle.std.specs.Io.KnownBytes.{Appends}
use Rattle.std.proofs.lemmas.List.Concat.{flat_map-append}
use Rattle.pcs_io.specs.Faults.{Rose}
use Rattle.pcs_io.specs.Octets.{Told, Gives, TakesWhereTold, AppendsFront}
use Rattle.pcs_io.proofs.Told.{appends-none, gives-append, takes-after, takes-consumed}
use Rattle.pcap_frames.specs.Pcap.{header_at, Short, record_at, is_over, Opens}
use Rattle.pcap_frames.specs.Finding.{IsReadOpen, IsReadShort}
use Rattle.pcap_frames.specs.Histories.{PcapState, History, Going, Stands, StandsAt, HeaderAnswers, Answers, EndOpen, Nexts, header_told, told, opened}
use Rattle.pcap_frames.specs.declared.number.Order.{Order}
use Rattle.pcap_frames.specs.declared.fault.PcapFault.{PcapFault}
use Rattle.pcap_frames.specs.declared.fault.PcapFault.TheVariants as fault
use Rattle.pcap_frames.specs.declared.reader.Standing.{Standing}
use Rattle.pcap_frames.specs.declared.reader.Standing.TheVariants as reader
use Rattle.pcap_frames.proofs.Fronts.{header-long, still-over}
use Rattle.pcap_frames.proofs.Told.{some-order, opens-more}
use Rattle.pcs_drive.specs.Seen.{Seen, Written, ReadFailed, WriteFailed}
use Rattle.pcs_drive.specs.Writing.{Wrote, Stays, BreaksOffBefore, BreaksOff, Puts, Longer, StaysInFront}
use Rattle.pcs_drive.specs.declared.outcome.Outcome.TheVariants.{Done, WriteFault}
use Rattle.pcs_drive.proofs.Copying.{all-written, took-all, took-more, rose-after}
use Rattle.pcs_drive.proofs.WritingLemmas.{wrote-all, wrote-none, WroteFirst, first-longer, first-all, first-seen}
use Rattle.pcs_late.specs.Unpacking.{outcome_of_pcap, IsOpened, KeptUp, Unpacked, frame_line, unpacked_text}
use Rattle.pcs_late.specs.declared.pcap_outcome.PcapOutcome.TheVariants.{Usual}

no-frames : (gap : ℕ) → unpacked_text gap [] ≡ []
unfolding unpacked_text
no-frames gap = refl

one-frame : (gap : ℕ) (frames : List (List ℕ)) (frame : List ℕ) → unpacked_text gap (frames ++ frame ∷ []) ≡ unpacked_text gap frames ++ frame_line gap frame
unfolding unpacked_text
one-frame gap frames frame = flat_map-append (frame_line gap) frames (frame ∷ []) ∙ ap (λ t. unpacked_text gap frames ++ t) (append-nil (frame_line gap frame))

-- a reader that has taken these octets and answered these frames
abbrev reading : Bool → List ℕ → List (List ℕ) → History
reading short octets frames = record { limit = 2 ^ 40; short = short; octets = octets; frames = frames; course = Going }

module _ (gap : ℕ) (short : Bool) where
  -- The source wasn't read, or when it was read last the header wasn't whole, or the text of the records that had come was written.
  abbrev pub Asked : Told → Told → Option (List ℕ) → Option (List ℕ) → Type 0
  Asked before now start held =
      (now ≡ before)
      ⊎ ((early : List ℕ) × (now.earlier ≡ before.given ++ early)
      × ((header_at early ≡ Short)
      ⊎ ((order : Order) × (frames : List (List ℕ)) × EndOpen order short early frames × WroteFirst start held (unpacked_text gap frames))))

  asked-longer : (before now : Told) (start held held_now : Option (List ℕ)) → Asked before now start held → Longer held held_now → Asked before now start held_now
  asked-longer before now start held held_now (inl same) longer = inl same
  asked-longer before now start held held_now (inr (early, told, inl front)) longer = inr (early, told, inl front)
  asked-longer before now start held held_now (inr (early, told, inr (order, frames, over, first))) longer =
      inr (early, told, inr (order, frames, over, first-longer start held held_now (unpacked_text gap frames) first longer))

  kept-up : (seen : Seen) (held : Option (List ℕ)) → Asked seen.told_before seen.told_after seen.held_before held → StaysInFront held seen.held_after → KeptUp gap short seen
  kept-up seen held (inl same) stays = inl same
  kept-up seen held (inr (early, told, inl front)) stays = inr (early, told, inl front)
  kept-up seen held (inr (early, told, inr (order, frames, over, first))) stays =
      inr (early, told, inr (order, frames, over, first-seen seen.held_before held seen.held_after (unpacked_text gap frames) first stays))

  header-asked : (before now : Told) (start held : Option (List ℕ)) → IsReadShort [] before now → Asked before now start held
  header-asked before now start held (inl same) = inl same
  header-asked before now start held (inr (early, told, front)) = inr (early, told, inl front)

-- The reader goes on behind the records that it answered, and their text is written but what is pending.
pub record Unpacking (gap : ℕ) (short : Bool) (x : PcapState) (before now : Told) (held_before held_now : Option (List ℕ)) (pending : List ℕ) : Type 0 where
  pub octets : List ℕ
  pub frames : List (List ℕ)
  pub order : Order
  pub stands : Stands x (reading short octets frames)
  pub tells : x.order ≡ Some order
  pub took : Gives before now octets
  pub wrote : Wrote held_before held_now (unpacked_text gap frames) pending
  pub asked : Asked gap short before now held_before held_now

-- it goes on: no fault and no end was answered
goes-on : (s : Standing) (order : Order) (h : History) (unused : List ℕ) → h.course ≡ Going → StandsAt (Some order) s h unused
    → (s ≡ reader.Going) × Opens order h.short h.octets h.frames unused
goes-on reader.Going order h unused going at = (refl, at.1)
goes-on reader.Ended order h unused going at = absurd (cc)
goes-on (reader.Failed fault) order h unused going at = absurd (cc)

going : (gap : ℕ) (short : Bool) (x : PcapState) (before now : Told) (held_before held_now : Option (List ℕ)) (pending : List ℕ)
    → (u : Unpacking gap short x before now held_before held_now pending)
    → (x.standing ≡ reader.Going) × Opens u.order short u.octets u.frames x.buffer.unused
going gap short x before now held_before held_now pending u =
    goes-on x.standing u.order (reading short u.octets u.frames) x.buffer.unused refl
    (subst (λ o. StandsAt o x.standing (reading short u.octets u.frames) x.buffer.unused) u.tells u.stands.at)

module _ (gap : ℕ) (short : Bool) where
  -- the header was read
  pub unpacking-start : (old new : PcapState) (before now : Told) (held : Option (List ℕ)) (ended : Bool) (pending : List ℕ) → IsOpened old short → pending ≡ []
      → ((h : History) → Stands old h → (got : List ℕ) × HeaderAnswers h.limit got before now ended (Ok tt) × Stands new (header_told h got (Ok tt)))
      → ((h : History) → Stands old h → IsReadShort [] before now) → IsSome new.order → Unpacking gap short new before now held held pending
  unpacking-start old new before now held ended pending opens empty answers asks some =
      let a = answers (opened (2 ^ 40) short) opens.stands in
      let order = some-order new.order some in
      record {
        octets = a.0;
        frames = [];
        order = order.0;
        stands = a.2;
        tells = order.1;
        took = a.1.0;
        wrote = wrote-none held (unpacked_text gap []) pending (no-frames gap) empty;
        asked = header-asked gap short before now held held (asks (opened (2 ^ 40) short) opens.stands);
      }

  -- or it was not, and nothing is written
  pub header-fault : (seen : Seen) (old new : PcapState) (failing : PcapFault) → IsOpened old short → seen.held_after ≡ seen.held_before
      → ((h : History) → Stands old h
      → (got : List ℕ) × HeaderAnswers h.limit got seen.told_before seen.told_after seen.ended (Err failing) × Stands new (header_told h got (Err failing)))
      → (failing ≡ fault.Read → ReadFailed seen) → Unpacked gap short seen (outcome_of_pcap failing)
  header-fault seen old new failing opens same answers rose =
      let a = answers (opened (2 ^ 40) short) opens.stands in by failing a.0 a.1 rose
    where
      nothing : Written seen []
      nothing = all-written seen.held_before seen.held_after [] (subst (λ o. Appends seen.held_before o []) (sym same) (appends-none seen.held_before))

      by : (failing : PcapFault) (got : List ℕ) → HeaderAnswers (2 ^ 40) got seen.told_before seen.told_after seen.ended (Err failing)
          → (failing ≡ fault.Read → ReadFailed seen) → Unpacked gap short seen (outcome_of_pcap failing)
      by fault.Read got a rose = (rose refl, got, inl (a.0, a.1, nothing))
      by (fault.BadHeader bad) got (inl a) rose = ((got, inl (takes-consumed seen.told_before seen.told_after got a.0, a.1, a.2)), nothing)
      by (fault.BadHeader bad) got (inr a) rose = ((got, inr (a.0, record { took = a.1.source; nothing = a.1.nothing; ended = a.1.over }, a.2, a.3)), nothing)
      by (fault.BadRecord number kind) got a rose = absurd a
      by fault.TooLong got a rose = absurd (omega (arith, a.1, header-long got a.2))

  -- what is pending may be written at any time
  pub unpacking-kept : (x : PcapState) (before now : Told) (held_before held_mid held_now : Option (List ℕ)) (old new : List ℕ)
      → Unpacking gap short x before now held_before held_mid old → Stays held_mid old held_now new → Longer held_mid held_now
      → Unpacking gap short x before now held_before held_now new
  unpacking-kept x before now held_before held_mid held_now old new u kept longer = record {
    octets = u.octets;
    frames = u.frames;
    order = u.order;
    stands = u.stands;
    tells = u.tells;
    took = u.took;
    wrote = kept held_before (unpacked_text gap u.frames) u.wrote;
    asked = asked-longer gap short before now held_before held_mid held_now u.asked longer;
  }

  -- what a call of the reader tells
  tells : (old new : PcapState) (before mid now : Told) (held_before held_now : Option (List ℕ)) (pending : List ℕ) (ended : Bool)
      (answer : Result (Option (List ℕ)) PcapFault) → (u : Unpacking gap short old before mid held_before held_now pending) → Nexts old new mid now ended answer
      → (got : List ℕ) × Answers u.order (reading short u.octets u.frames) got mid now ended answer × Stands new (told (reading short u.octets u.frames) got answer)
  tells old new before mid now held_before held_now pending ended answer u n = n.history (reading short u.octets u.frames) u.order u.stands u.tells

  -- A record is at hand, or no text waits: then where the source is read, all text is written.
  pub asked-next : (old new : PcapState) (before mid now : Told) (held_before held_mid : Option (List ℕ)) (pending : List ℕ) (ended : Bool)
      (answer : Result (Option (List ℕ)) PcapFault) (holds : Bool)
      → ((order : Order) → old.order ≡ Some order → holds ≡ is_over (record_at order old.short old.buffer.unused)) → (holds ≡ false → pending ≡ [])
      → Unpacking gap short old before mid held_before held_mid pending → Nexts old new mid now ended answer → Asked gap short before now held_before held_mid
  asked-next old new before mid now held_before held_mid pending ended answer holds over empty u n = by holds (over u.order u.tells) empty (n.asks u.order u.tells)
    where
      by : (holds : Bool) → holds ≡ is_over (record_at u.order old.short old.buffer.unused) → (holds ≡ false → pending ≡ [])
          → IsReadOpen (record_at u.order old.short) old.buffer.unused mid now → Asked gap short before now held_before held_mid
      by holds over empty (inl same) = subst (λ o. Asked gap short before o held_before held_mid) (sym same) u.asked
      by true over empty (inr (front, told, none)) = absurd (still-over u.order old.short old.buffer.unused front (sym over) none)
      by false over empty (inr (front, told, none)) =
          let opens = (going gap short old before mid held_before held_mid pending u).1 in
          let rest = old.buffer.unused ++ front in
          inr (
            u.octets ++ front,
            told ∙ ap (λ xs. xs ++ front) u.took.0 ∙ append_assoc before.given u.octets front,
            inr (
              u.order,
              u.frames,
              (rest, opens-more u.order short u.octets u.frames old.buffer.unused front opens, ap (λ s. record_at u.order s rest) (sym u.stands.short) ∙ none),
              first-all held_before held_mid (unpacked_text gap u.frames) pending (empty refl) u.wrote,
            ),
          )

  -- one record more
  pub unpacking-frame : (old new : PcapState) (before mid now : Told) (held_before held_mid held_now : Option (List ℕ)) (pending more : List ℕ) (ended : Bool) (frame : List ℕ)
      → Unpacking gap short old before mid held_before held_mid pending → Nexts old new mid now ended (Ok (Some frame))
      → Puts held_mid pending (frame_line gap frame) held_now more → Asked gap short before now held_before held_mid → Longer held_mid held_now
      → Unpacking gap short new before now held_before held_now more
  unpacking-frame old new before mid now held_before held_mid held_now pending more ended frame u n put asked longer =
      let t = tells old new before mid now held_before held_mid pending ended (Ok (Some frame)) u n in
      record {
        octets = u.octets ++ t.0;
        frames = u.frames ++ frame ∷ [];
        order = u.order;
        stands = t.2;
        tells = n.order ∙ u.tells;
        took = gives-append before mid now u.octets t.0 u.took t.1.0;
        wrote = subst (λ text. Wrote held_before held_now text more) (sym (one-frame gap u.frames frame)) (put held_before (unpacked_text gap u.frames) u.wrote);
        asked = asked-longer gap short before now held_before held_mid held_now asked longer;
      }

  module _ (seen : Seen) (old : PcapState) (mid : Told) (held_mid : Option (List ℕ)) (pending : List ℕ)
      (u : Unpacking gap short old seen.told_before mid seen.held_before held_mid pending) where
    -- all text is written
    flushed-text : Stays held_mid pending seen.held_after [] → Written seen (unpacked_text gap u.frames)
    flushed-text flushed =
        all-written seen.held_before seen.held_after (unpacked_text gap u.frames)
        (wrote-all seen.held_before seen.held_after (unpacked_text gap u.frames) (flushed seen.held_before (unpacked_text gap u.frames) u.wrote))

    -- the end of the input between two records
    pub unpacked-done : (new : PcapState) → Nexts old new mid seen.told_after seen.ended (Ok None) → Stays held_mid pending seen.held_after []
        → Unpacked gap short seen (Usual Done)
    unpacked-done new n flushed =
        let t = tells old new seen.told_before mid seen.told_after seen.held_before held_mid pending seen.ended (Ok None) u n in
        (u.octets ++ t.0, u.frames, took-all seen mid u.octets t.0 u.took t.1.0, t.1.1, (u.order, t.1.2), flushed-text flushed)

    -- a fault of the reader
    pub unpacked-fault : (new : PcapState) (failing : PcapFault) → Nexts old new mid seen.told_after seen.ended (Err failing)
        → (failing ≡ fault.Read → ReadFailed seen) → Stays held_mid pending seen.held_after [] → Unpacked gap short seen (outcome_of_pcap failing)
    unpacked-fault new failing n rose flushed =
        by failing (tells old new seen.told_before mid seen.told_after seen.held_before held_mid pending seen.ended (Err failing) u n) rose
      where
        by : (failing : PcapFault) → (got : List ℕ) × Answers u.order (reading short u.octets u.frames) got mid seen.told_after seen.ended (Err failing)
            × Stands new (told (reading short u.octets u.frames) got (Err failing)) → (failing ≡ fault.Read → ReadFailed seen)
            → Unpacked gap short seen (outcome_of_pcap failing)
        by fault.Read t rose =
            (rose refl, u.octets ++ t.0, inr (u.frames, (takes-after seen.told_before mid seen.told_after u.octets t.0 u.took t.1.0, u.order, t.1.1), t.2.within, flushed-text flushed))
        by (fault.BadHeader bad) t rose = absurd t.1
        by (fault.BadRecord number kind) (got, (is, inl a), stands) rose =
            (u.frames, is, (u.octets ++ got, u.order, a.1, a.2, inl (took-more seen mid u.octets got u.took a.0, stands.within, a.3, a.4)), flushed-text flushed)
        by (fault.BadRecord number kind) (got, (is, inr a), stands) rose =
            (u.frames, is, (u.octets ++ got, u.order, a.3, a.4, inr (a.0, took-all seen mid u.octets got u.took a.1, a.2, a.5, a.6)), flushed-text flushed)
        by fault.TooLong t rose = (u.octets ++ t.0, u.frames, (took-more seen mid u.octets t.0 u.took t.1.0, u.order, t.1.2), t.1.1, flushed-text flushed)

    -- a write failed at the end of the input
    pub end-failed : (new : PcapState) → Nexts old new mid seen.told_after seen.ended (Ok None) → WriteFailed seen → BreaksOffBefore held_mid pending seen.held_after
        → Asked gap short seen.told_before seen.told_after seen.held_before held_mid → StaysInFront held_mid seen.held_after
        → Unpacked gap short seen (Usual WriteFault)
    end-failed new n rose front asked stays =
        let t = tells old new seen.told_before mid seen.told_after seen.held_before held_mid pending seen.ended (Ok None) u n in (
          rose,
          u.octets ++ t.0,
          u.frames,
          u.order,
          [],
          takes-after seen.told_before mid seen.told_after u.octets t.0 u.took t.1.0.source,
          t.2.within,
          t.1.2,
          front seen.held_before (unpacked_text gap u.frames) u.wrote,
          kept-up gap short seen held_mid asked stays,
        )

    -- within the text of a record
    pub frame-failed : (new : PcapState) (frame : List ℕ) → Nexts old new mid seen.told_after seen.ended (Ok (Some frame)) → WriteFailed seen
        → BreaksOff held_mid pending (frame_line gap frame) seen.held_after → Asked gap short seen.told_before seen.told_after seen.held_before held_mid → StaysInFront held_mid seen.held_after
        → Unpacked gap short seen (Usual WriteFault)
    frame-failed new frame n rose front asked stays =
        let t = tells old new seen.told_before mid seen.told_after seen.held_before held_mid pending seen.ended (Ok (Some frame)) u n in (
          rose,
          u.octets ++ t.0,
          u.frames ++ frame ∷ [],
          u.order,
          t.1.1,
          took-more seen mid u.octets t.0 u.took t.1.0,
          t.2.within,
          t.1.2,
          subst (AppendsFront seen.held_before seen.held_after) (sym (one-frame gap u.frames frame)) (front seen.held_before (unpacked_text gap u.frames) u.wrote),
          kept-up gap short seen held_mid asked stays,
        )

    -- behind a fault of the reader
    pub fault-failed : (new : PcapState) (failing : PcapFault) → Nexts old new mid seen.told_after seen.ended (Err failing) → WriteFailed seen
        → BreaksOffBefore held_mid pending seen.held_after
        → Asked gap short seen.told_before seen.told_after seen.held_before held_mid → StaysInFront held_mid seen.held_after
        → Unpacked gap short seen (Usual WriteFault)
    fault-failed new failing n rose front asked stays =
        let t = tells old new seen.told_before mid seen.told_after seen.held_before held_mid pending seen.ended (Err failing) u n in
        let behind = by failing t.0 t.1 in (
          rose,
          u.octets ++ t.0,
          u.frames,
          u.order,
          behind.0,
          takes-after seen.told_before mid seen.told_after u.octets t.0 u.took behind.1,
          t.2.within,
          behind.2,
          front seen.held_before (unpacked_text gap u.frames) u.wrote,
          kept-up gap short seen held_mid asked stays,
        )
      where
        by : (failing : PcapFault) (got : List ℕ) → Answers u.order (reading short u.octets u.frames) got mid seen.told_after seen.ended (Err failing)
            → (rest : List ℕ) × TakesWhereTold mid seen.told_after got × Opens u.order short (u.octets ++ got) u.frames rest
        by fault.Read got a = (a.1.0, a.0, a.1.1)
        by (fault.BadHeader bad) got a = absurd a
        by (fault.BadRecord number kind) got (is, inl a) = (a.1, takes-consumed mid seen.told_after got a.0, a.2)
        by (fault.BadRecord number kind) got (is, inr a) = (a.3, a.1.source, a.4)
        by fault.TooLong got a = (a.2.0, takes-consumed mid seen.told_after got a.0, a.2.1)

  -- before the next record is read
  pub release-failed : (seen : Seen) (x : PcapState) (held_mid : Option (List ℕ)) (pending : List ℕ)
      → Unpacking gap short x seen.told_before seen.told_after seen.held_before held_mid pending → WriteFailed seen → BreaksOffBefore held_mid pending seen.held_after
      → StaysInFront held_mid seen.held_after → Unpacked gap short seen (Usual WriteFault)
  release-failed seen x held_mid pending u rose front stays = (
    rose,
    u.octets,
    u.frames,
    u.order,
    x.buffer.unused,
    takes-consumed seen.told_before seen.told_after u.octets u.took,
    u.stands.within,
    (going gap short x seen.told_before seen.told_after seen.held_before held_mid pending u).1,
    front seen.held_before (unpacked_text gap u.frames) u.wrote,
    kept-up gap short seen held_mid u.asked stays,
  )

  -- a reader that goes on answers a read fault only where a read failed
  pub read-failed : (x : PcapState) (before now : Told) (held_before held_now : Option (List ℕ)) (pending : List ℕ) (first mid last : ℕ)
      → Unpacking gap short x before now held_before held_now pending → first ≤ mid → Rose mid last ⊎ (x.standing ≡ reader.Failed fault.Read) → Rose first last
  read-failed x before now held_before held_now pending first mid last u later (inl rose) = rose-after first mid last later rose
  read-failed x before now held_before held_now pending first mid last u later (inr over) =
      absurd (let on : x.standing ≡ reader.Going = (going gap short x before now held_before held_now pending u).0 in cc)
