-- Lines that are turned into text one by one, in any grammar and by any text.
use Rattle.std.proofs.Common.{◌≡◌, ℕ, ◌^◌, ◌<◌, ◌≤◌, ◌⊎◌, inl, inr, Bool, true, false, IsTrue, ◌↔◌, List, [], ◌∷◌, ◌++◌, length, Contains, Option, Some, None, IfSome, Result, Ok, Err, subst, refl, sym, ap, ◌∙◌, append-nil, append_assoc, arith}
use Rattle.std.proofs.lemmas.List.Elements.{Contains-append_left}
use Rattle.std.specs.Io.KnownBytes.{Appends}
use Rattle.pcs_io.specs.Faults.{Rose}
use Rattle.pcs_io.specs.Octets.{Told, Gives, TakesWhereTold, AppendsFront}
use Rattle.pcs_io.specs.Grammars.{LineAt, Open, Begins, EndOpen, AreRefused, AreCut, IsNear, IsGrammar}
use Rattle.pcs_io.specs.LineEnds.{EndsAtNewline}
use Rattle.pcs_io.specs.Reading.{IsReadOpen}
use Rattle.pcs_io.specs.Histories.{ReaderState, History, Stands, Nexts, IsReadAfter, Answers, Ends, told, opened}
use Rattle.pcs_io.specs.declared.fault.Kind.{Kind}
use Rattle.pcs_io.specs.declared.fault.Kind.TheVariants.{NoEnd}
use Rattle.pcs_io.specs.declared.fault.InFault.{InFault}
use Rattle.pcs_io.specs.declared.fault.InFault.TheVariants as in_fault
use Rattle.pcs_io.specs.declared.reader.Standing.TheVariants.{Going, Failed}
use Rattle.pcs_io.proofs.HistoryLemmas.{read-after}
use Rattle.pcs_io.proofs.Progress.{fresh-near}
use Rattle.pcs_io.proofs.Told.{gives-append, gives-none, takes-after, takes-consumed}
use Rattle.pcs_drive.specs.Outcomes.{outcome_of}
use Rattle.pcs_drive.specs.Seen.{Seen, TookAll, Written, ReadFailed, WriteFailed}
use Rattle.pcs_drive.specs.Writing.{Wrote, Stays, BreaksOffBefore, Longer, StaysInFront}
use Rattle.pcs_drive.specs.LineCommand.{Converted, KeptUp, IsRefused}
use Rattle.pcs_drive.specs.declared.outcome.Outcome.TheVariants.{Done, WriteFault}
use Rattle.pcs_drive.proofs.WritingLemmas.{wrote-all, WroteFirst, first-longer, first-stays, first-all, first-seen}

-- a reader that has taken these octets and answered these lines
abbrev pub reading : {X : Type 0} → List ℕ → List X → History X
reading octets lines = record { limit = 2 ^ 40; octets = octets; lines = lines; standing = Going }

-- the text is written, where the sink tells
pub all-written : (before after : Option (List ℕ)) (text : List ℕ) → Appends before after text → IfSome before (λ b. IfSome after (λ a. a ≡ b ++ text))
all-written None after text a = tt
all-written (Some before) None text a = absurd a
all-written (Some before) (Some after) text a = a

pub took-all : (seen : Seen) (mid : Told) (octets got : List ℕ) → Gives seen.told_before mid octets
    → Ends mid seen.told_after seen.ended got → TookAll seen (octets ++ got)
took-all seen mid octets got c e = record {
  took = takes-after seen.told_before mid seen.told_after octets got c e.source;
  nothing = e.nothing;
  ended = e.over;
}

pub took-more : (seen : Seen) (mid : Told) (octets got : List ℕ) → Gives seen.told_before mid octets
    → Gives mid seen.told_after got → TakesWhereTold seen.told_before seen.told_after (octets ++ got)
took-more seen mid octets got c e = takes-consumed seen.told_before seen.told_after (octets ++ got) (gives-append seen.told_before mid seen.told_after octets got c e)

-- a count that rose later rose since the start
pub rose-after : (first mid last : ℕ) → first ≤ mid → Rose mid last → Rose first last
rose-after first mid last later rose = omega arith

module _ {X : Type 0} (line_at : List ℕ → LineAt X) where
  pub refused : (seen : Seen) (mid : Told) (octets got : List ℕ) (lines : List X) (kind : Kind) → Gives seen.told_before mid octets → length (octets ++ got) ≤ 2 ^ 40
      → ((Gives mid seen.told_after got × AreRefused line_at (octets ++ got) lines kind)
      ⊎ ((kind ≡ NoEnd) × Ends mid seen.told_after seen.ended got × (length (octets ++ got) < 2 ^ 40) × AreCut line_at (octets ++ got) lines))
      → IsRefused line_at seen (octets ++ got) lines kind
  refused seen mid octets got lines kind took within (inl a) = inl (took-more seen mid octets got took a.0, within, a.1)
  refused seen mid octets got lines kind took within (inr a) = inr (a.0, took-all seen mid octets got took a.1, a.2, a.3)

  open-near : (rest : List ℕ) → line_at rest ≡ Open → IsNear line_at rest
  open-near rest is = (rest, [], sym (append-nil rest), λ _. is, omega arith)

  -- what a fault leaves behind the lines
  abbrev pub Behind : History X → List ℕ → Told → Told → Type 0
  Behind h got before now = (rest : List ℕ) × TakesWhereTold before now got × Begins line_at (h.octets ++ got) h.lines rest × IsNear line_at rest

  pub behind-fault : (h : History X) (got : List ℕ) (before now : Told) (ended : Bool) (fault : InFault)
      → Answers line_at h got before now ended (Err fault) → Behind h got before now
  behind-fault h got before now ended in_fault.Read a = (a.1.0, a.0, a.1.1, open-near a.1.0 a.1.2)
  behind-fault h got before now ended (in_fault.BadLine number kind) (same, inl a) = (a.1.0, takes-consumed before now got a.0, a.1.1, a.1.3)
  behind-fault h got before now ended (in_fault.BadLine number kind) (same, inr a) = (a.3.0, a.1.source, a.3.1, open-near a.3.0 a.3.2)
  behind-fault h got before now ended in_fault.TooLong a = (a.2.0, takes-consumed before now got a.0, a.2.1, open-near a.2.0 a.2.2)

-- a reader that was opened has taken nothing
pub opened-near : {X P : Type 0} (line_at : List ℕ → LineAt X) (lines : ReaderState P) → Stands line_at lines (opened (2 ^ 40)) → IsNear line_at lines.buffer.unused
opened-near line_at lines stands = subst (IsNear line_at) stands.unused (fresh-near line_at [] (omega arith))

module _ {X : Type 0} (line_at : List ℕ → LineAt X) (text_of : List X → List ℕ) where
  -- The source wasn't read, or when it was read last the text of the lines that had come was written.
  abbrev pub Asked : Told → Told → Option (List ℕ) → Option (List ℕ) → Type 0
  Asked before now start held =
      (now ≡ before)
      ⊎ ((early : List ℕ) × (now.earlier ≡ before.given ++ early) × (lines : List X) × EndOpen line_at early lines × WroteFirst start held (text_of lines))

  pub asked-longer : (before now : Told) (start held held_now : Option (List ℕ)) → Asked before now start held → Longer held held_now → Asked before now start held_now
  asked-longer before now start held held_now (inl same) longer = inl same
  asked-longer before now start held held_now (inr (early, told, lines, over, first)) longer =
      inr (early, told, lines, over, first-longer start held held_now (text_of lines) first longer)

  pub asked-stays : (before now : Told) (start held held_now : Option (List ℕ)) (all pending : List ℕ) → Asked before now start held → StaysInFront held held_now
      → Wrote start held_now all pending → Asked before now start held_now
  asked-stays before now start held held_now all pending (inl same) stays wrote = inl same
  asked-stays before now start held held_now all pending (inr (early, told, lines, over, first)) stays wrote =
      inr (early, told, lines, over, first-stays start held held_now (text_of lines) all pending first stays wrote)

  pub kept-up : (seen : Seen) (held : Option (List ℕ)) → Asked seen.told_before seen.told_after seen.held_before held → StaysInFront held seen.held_after
      → KeptUp line_at text_of seen
  kept-up seen held (inl same) stays = inl same
  kept-up seen held (inr (early, told, lines, over, first)) stays =
      inr (early, told, lines, over, first-seen seen.held_before held seen.held_after (text_of lines) first stays)

  -- a write failed: `rest` stands behind the lines whose text is written in part
  failed : (seen : Seen) (octets : List ℕ) (lines : List X) (rest : List ℕ) → WriteFailed seen
      → TakesWhereTold seen.told_before seen.told_after octets → length octets ≤ 2 ^ 40 → Begins line_at octets lines rest → IsNear line_at rest
      → AppendsFront seen.held_before seen.held_after (text_of lines) → KeptUp line_at text_of seen → Converted line_at text_of seen WriteFault
  failed seen octets lines rest rose took within begins near front up = (octets, lines, rest, rose, took, within, begins, near, front, up)

module _ {X P : Type 0} (line_at : List ℕ → LineAt X) where
  -- the answer of a call, by its arm
  pub next-line : (old new : ReaderState P) (mid now : Told) (ended : Bool) (answer : Result (Option X) InFault) (line : X)
      → answer ≡ Ok (Some line)
      → Nexts line_at old new mid now ended answer → Nexts line_at old new mid now ended (Ok (Some line))
  next-line old new mid now ended answer line is n = subst (Nexts line_at old new mid now ended) is n

  pub next-end : (old new : ReaderState P) (mid now : Told) (ended : Bool) (answer : Result (Option X) InFault) → answer ≡ Ok None
      → Nexts line_at old new mid now ended answer → Nexts line_at old new mid now ended (Ok None)
  next-end old new mid now ended answer is n = subst (Nexts line_at old new mid now ended) is n

  pub next-fault : (old new : ReaderState P) (mid now : Told) (ended : Bool) (answer : Result (Option X) InFault)
      (fault : InFault) → answer ≡ Err fault
      → Nexts line_at old new mid now ended answer → Nexts line_at old new mid now ended (Err fault)
  next-fault old new mid now ended answer fault is n = subst (Nexts line_at old new mid now ended) is n

module _ {X P : Type 0} (line_at : List ℕ → LineAt X) (text_of : List X → List ℕ) where
  -- The reader goes on after the lines that it answered, and their text is written but what is pending. `Keeps` is what else holds of
  -- these lines.
  pub record Copied (Keeps : List X → Type 0) (lines : ReaderState P) (before now : Told) (held_before held_now : Option (List ℕ)) (pending : List ℕ) : Type 0 where
    pub octets : List ℕ
    pub answered : List X
    pub stands : Stands line_at lines (reading octets answered)
    pub near : IsNear line_at lines.buffer.unused
    pub took : Gives before now octets
    pub wrote : Wrote held_before held_now (text_of answered) pending
    pub keeps : Keeps answered
    pub asked : Asked line_at text_of before now held_before held_now

  pub copied-start : (Keeps : List X → Type 0) (lines : ReaderState P) (before : Told) (held : Option (List ℕ)) (pending : List ℕ)
      → Stands line_at lines (opened (2 ^ 40))
      → Wrote held held (text_of []) pending → Keeps [] → Copied Keeps lines before before held held pending
  copied-start Keeps lines before held pending stands wrote keeps = record {
    octets = [];
    answered = [];
    stands = stands;
    near = opened-near line_at lines stands;
    took = gives-none before;
    wrote = wrote;
    keeps = keeps;
    asked = inl refl;
  }

  -- what is pending may be written at any time
  pub copied-kept : (Keeps : List X → Type 0) (lines : ReaderState P) (before now : Told) (held_before held_mid held_now : Option (List ℕ)) (old new : List ℕ)
      → Copied Keeps lines before now held_before held_mid old
      → Stays held_mid old held_now new → Longer held_mid held_now → Copied Keeps lines before now held_before held_now new
  copied-kept Keeps lines before now held_before held_mid held_now old new c kept longer = record {
    octets = c.octets;
    answered = c.answered;
    stands = c.stands;
    near = c.near;
    took = c.took;
    wrote = kept held_before (text_of c.answered) c.wrote;
    keeps = c.keeps;
    asked = asked-longer line_at text_of before now held_before held_mid held_now c.asked longer;
  }

  -- what a call of a reader that goes on tells
  pub tells : (Keeps : List X → Type 0) (old new : ReaderState P) (before mid now : Told) (held_before held_now : Option (List ℕ)) (pending : List ℕ)
      (ended : Bool) (answer : Result (Option X) InFault)
      → (c : Copied Keeps old before mid held_before held_now pending) → Nexts line_at old new mid now ended answer
      → (got : List ℕ) × Answers line_at (reading c.octets c.answered) got mid now ended answer × Stands line_at new (told (reading c.octets c.answered) got answer)
  tells Keeps old new before mid now held_before held_now pending ended answer c n = n.history (reading c.octets c.answered) c.stands

  -- A whole line waits, or no text does: then where the source is read, all text is written.
  pub asked-next : (Keeps : List X → Type 0) (old new : ReaderState P) (before mid now : Told) (held_before held_mid : Option (List ℕ)) (pending : List ℕ)
      (ended : Bool) (answer : Result (Option X) InFault) → IsGrammar line_at → EndsAtNewline line_at → Contains old.buffer.unused 10 ⊎ (pending ≡ [])
      → Copied Keeps old before mid held_before held_mid pending → Nexts line_at old new mid now ended answer → Asked line_at text_of before now held_before held_mid
  asked-next Keeps old new before mid now held_before held_mid pending ended answer grammar ends (inl holds) c n = by n.asks
    where
      by : IsReadOpen line_at old.buffer.unused mid now → Asked line_at text_of before now held_before held_mid
      by (inl same) = subst (λ o. Asked line_at text_of before o held_before held_mid) (sym same) c.asked
      by (inr (front, told, over)) = absurd (ends (old.buffer.unused ++ front) (Contains-append_left old.buffer.unused front 10 holds) over)
  asked-next Keeps old new before mid now held_before held_mid pending ended answer grammar ends (inr empty) c n =
      by (read-after line_at old (reading c.octets c.answered) mid now grammar c.stands refl n.asks)
    where
      by : IsReadAfter line_at (reading c.octets c.answered) mid now → Asked line_at text_of before now held_before held_mid
      by (inl same) = subst (λ o. Asked line_at text_of before o held_before held_mid) (sym same) c.asked
      by (inr (early, told, over)) = inr (
        c.octets ++ early,
        told ∙ ap (λ xs. xs ++ early) c.took.0 ∙ append_assoc before.given c.octets early,
        c.answered,
        over,
        first-all held_before held_mid (text_of c.answered) pending empty c.wrote,
      )

  -- one line more
  pub copied-line : (Keeps Next : List X → Type 0) (old new : ReaderState P)
      (before mid now : Told) (held_before held_mid held_now : Option (List ℕ)) (pending more : List ℕ) (ended : Bool) (line : X)
      → Copied Keeps old before mid held_before held_mid pending → Nexts line_at old new mid now ended (Ok (Some line))
      → ((lines : List X) → Keeps lines → Next (lines ++ line ∷ []))
      → ((lines : List X) → Keeps lines → (start : Option (List ℕ)) → Wrote start held_mid (text_of lines) pending → Wrote start held_now (text_of (lines ++ line ∷ [])) more)
      → Asked line_at text_of before now held_before held_mid → Longer held_mid held_now → Copied Next new before now held_before held_now more
  copied-line Keeps Next old new before mid now held_before held_mid held_now pending more ended line c n next put asked longer =
      let t = tells Keeps old new before mid now held_before held_mid pending ended (Ok (Some line)) c n in
      record {
        octets = c.octets ++ t.0;
        answered = c.answered ++ line ∷ [];
        stands = t.2;
        near = fresh-near line_at new.buffer.unused n.within;
        took = gives-append before mid now c.octets t.0 c.took t.1.0;
        wrote = put c.answered c.keeps held_before c.wrote;
        keeps = next c.answered c.keeps;
        asked = asked-longer line_at text_of before now held_before held_mid held_now asked longer;
      }

  pub flushed-text : (Keeps : List X → Type 0) (seen : Seen) (old : ReaderState P) (mid : Told) (held_mid : Option (List ℕ)) (pending : List ℕ)
      → (c : Copied Keeps old seen.told_before mid seen.held_before held_mid pending)
      → Stays held_mid pending seen.held_after [] → Written seen (text_of c.answered)
  flushed-text Keeps seen old mid held_mid pending c flushed =
      all-written seen.held_before seen.held_after (text_of c.answered)
      (wrote-all seen.held_before seen.held_after (text_of c.answered) (flushed seen.held_before (text_of c.answered) c.wrote))

  -- the end of the input between two lines
  pub copied-done : (Keeps : List X → Type 0) (seen : Seen) (old new : ReaderState P) (mid : Told) (held_mid : Option (List ℕ)) (pending : List ℕ)
      → Copied Keeps old seen.told_before mid seen.held_before held_mid pending → Nexts line_at old new mid seen.told_after seen.ended (Ok None)
      → Stays held_mid pending seen.held_after []
      → Converted line_at text_of seen Done
  copied-done Keeps seen old new mid held_mid pending c n flushed =
      let t = tells Keeps old new seen.told_before mid seen.told_after seen.held_before held_mid pending seen.ended (Ok None) c n in
      (c.octets ++ t.0, c.answered, took-all seen mid c.octets t.0 c.took t.1.0, t.1.1, t.1.2, flushed-text Keeps seen old mid held_mid pending c flushed)

  -- a fault of the reader
  pub copied-fault : (Keeps : List X → Type 0) (seen : Seen) (old new : ReaderState P) (mid : Told) (held_mid : Option (List ℕ)) (pending : List ℕ)
      (fault : InFault)
      → Copied Keeps old seen.told_before mid seen.held_before held_mid pending → Nexts line_at old new mid seen.told_after seen.ended (Err fault)
      → (fault ≡ in_fault.Read → ReadFailed seen)
      → Stays held_mid pending seen.held_after []
      → Converted line_at text_of seen (outcome_of fault)
  copied-fault Keeps seen old new mid held_mid pending in_fault.Read c n rose flushed =
      let t = tells Keeps old new seen.told_before mid seen.told_after seen.held_before held_mid pending seen.ended (Err in_fault.Read) c n in
      (c.octets ++ t.0, c.answered, rose refl, takes-after seen.told_before mid seen.told_after c.octets t.0 c.took t.1.0, t.2.within, t.1.1, flushed-text Keeps seen old mid held_mid pending c flushed)
  copied-fault Keeps seen old new mid held_mid pending (in_fault.BadLine number kind) c n rose flushed =
      let t = tells Keeps old new seen.told_before mid seen.told_after seen.held_before held_mid pending seen.ended (Err (in_fault.BadLine number kind)) c n in
      (c.octets ++ t.0, c.answered, t.1.0, refused line_at seen mid c.octets t.0 c.answered kind c.took t.2.within t.1.1, flushed-text Keeps seen old mid held_mid pending c flushed)
  copied-fault Keeps seen old new mid held_mid pending in_fault.TooLong c n rose flushed =
      let t = tells Keeps old new seen.told_before mid seen.told_after seen.held_before held_mid pending seen.ended (Err in_fault.TooLong) c n in
      (c.octets ++ t.0, c.answered, took-more seen mid c.octets t.0 c.took t.1.0, t.1.1, t.1.2, flushed-text Keeps seen old mid held_mid pending c flushed)

  -- before the next line is read
  pub copied-failed : (Keeps : List X → Type 0) (seen : Seen) (lines : ReaderState P) (held_mid : Option (List ℕ)) (pending : List ℕ)
      → Copied Keeps lines seen.told_before seen.told_after seen.held_before held_mid pending → WriteFailed seen
      → BreaksOffBefore held_mid pending seen.held_after → StaysInFront held_mid seen.held_after
      → Converted line_at text_of seen WriteFault
  copied-failed Keeps seen lines held_mid pending c rose front stays =
      failed line_at text_of seen c.octets c.answered lines.buffer.unused rose (takes-consumed seen.told_before seen.told_after c.octets c.took) c.stands.within c.stands.unused c.near
      (front seen.held_before (text_of c.answered) c.wrote) (kept-up line_at text_of seen held_mid c.asked stays)

  -- within the text of a line
  pub line-failed : (Keeps : List X → Type 0) (seen : Seen) (old new : ReaderState P) (mid : Told) (held_mid : Option (List ℕ)) (pending : List ℕ) (line : X)
      → Copied Keeps old seen.told_before mid seen.held_before held_mid pending
      → Nexts line_at old new mid seen.told_after seen.ended (Ok (Some line)) → WriteFailed seen
      → ((lines : List X) → Keeps lines → (start : Option (List ℕ)) → Wrote start held_mid (text_of lines) pending → AppendsFront start seen.held_after (text_of (lines ++ line ∷ [])))
      → Asked line_at text_of seen.told_before seen.told_after seen.held_before held_mid → StaysInFront held_mid seen.held_after → Converted line_at text_of seen WriteFault
  line-failed Keeps seen old new mid held_mid pending line c n rose front asked stays =
      let t = tells Keeps old new seen.told_before mid seen.told_after seen.held_before held_mid pending seen.ended (Ok (Some line)) c n in
      failed line_at text_of seen (c.octets ++ t.0) (c.answered ++ line ∷ []) new.buffer.unused rose (took-more seen mid c.octets t.0 c.took t.1.0) t.2.within t.2.unused (fresh-near line_at new.buffer.unused n.within)
      (front c.answered c.keeps seen.held_before c.wrote) (kept-up line_at text_of seen held_mid asked stays)

  -- at the end
  pub end-failed : (Keeps : List X → Type 0) (seen : Seen) (old new : ReaderState P) (mid : Told) (held_mid : Option (List ℕ)) (pending : List ℕ)
      → Copied Keeps old seen.told_before mid seen.held_before held_mid pending
      → Nexts line_at old new mid seen.told_after seen.ended (Ok None) → WriteFailed seen
      → BreaksOffBefore held_mid pending seen.held_after → Asked line_at text_of seen.told_before seen.told_after seen.held_before held_mid → StaysInFront held_mid seen.held_after
      → Converted line_at text_of seen WriteFault
  end-failed Keeps seen old new mid held_mid pending c n rose front asked stays =
      let t = tells Keeps old new seen.told_before mid seen.told_after seen.held_before held_mid pending seen.ended (Ok None) c n in
      failed line_at text_of seen (c.octets ++ t.0) c.answered [] rose (takes-after seen.told_before mid seen.told_after c.octets t.0 c.took t.1.0.source) t.2.within t.1.2 (fresh-near line_at [] (omega arith))
      (front seen.held_before (text_of c.answered) c.wrote) (kept-up line_at text_of seen held_mid asked stays)

  pub fault-failed : (Keeps : List X → Type 0) (seen : Seen) (old new : ReaderState P) (mid : Told) (held_mid : Option (List ℕ)) (pending : List ℕ)
      (fault : InFault)
      → Copied Keeps old seen.told_before mid seen.held_before held_mid pending
      → Nexts line_at old new mid seen.told_after seen.ended (Err fault) → WriteFailed seen
      → BreaksOffBefore held_mid pending seen.held_after → Asked line_at text_of seen.told_before seen.told_after seen.held_before held_mid → StaysInFront held_mid seen.held_after
      → Converted line_at text_of seen WriteFault
  fault-failed Keeps seen old new mid held_mid pending fault c n rose front asked stays =
      let t = tells Keeps old new seen.told_before mid seen.told_after seen.held_before held_mid pending seen.ended (Err fault) c n in
      let behind = behind-fault line_at (reading c.octets c.answered) t.0 mid seen.told_after seen.ended fault t.1 in
      failed line_at text_of seen (c.octets ++ t.0) c.answered behind.0 rose (takes-after seen.told_before mid seen.told_after c.octets t.0 c.took behind.1) t.2.within behind.2 behind.3
      (front seen.held_before (text_of c.answered) c.wrote) (kept-up line_at text_of seen held_mid asked stays)

  -- a reader that goes on answers a read fault only where a read failed
  pub read-failed : (Keeps : List X → Type 0) (lines : ReaderState P) (before now : Told) (held_before held_now : Option (List ℕ)) (pending : List ℕ)
      (first mid last : ℕ)
      → Copied Keeps lines before now held_before held_now pending
      → first ≤ mid → Rose mid last ⊎ (lines.standing ≡ Failed in_fault.Read) → Rose first last
  read-failed Keeps lines before now held_before held_now pending first mid last c later (inl rose) = rose-after first mid last later rose
  read-failed Keeps lines before now held_before held_now pending first mid last c later (inr over) = absurd (let going : lines.standing ≡ Going = c.stands.standing in cc)

-- by what a reader tells of whether a whole line waits, and what the output does then
pub line-or-none : (unused pending : List ℕ) (holds : Bool) → IsTrue holds ↔ Contains unused 10 → (holds ≡ false → pending ≡ []) → Contains unused 10 ⊎ (pending ≡ [])
line-or-none unused pending true same empty = inl (same.0 refl)
line-or-none unused pending false same empty = inr (empty refl)
