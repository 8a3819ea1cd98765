-- Lines that are sent one by one.
use Rattle.std.proofs.Common.{◌≡◌, ℕ, ◌+◌, ◌^◌, ◌<◌, ◌≤◌, inl, inr, List, [], ◌∷◌, ◌++◌, length, Option, Some, None, Result, Ok, Err, Bool, refl, sym, ◌∙◌, ap, subst, arith, append-nil, append_assoc, length-append}
use Rattle.std.proofs.lemmas.List.Concat.{flat_map-append}
use Rattle.mac_columns.specs.declared.column.Column.{Column}
use Rattle.rate_match.specs.Kept.{HasLegalGaps}
use Rattle.rate_match.proofs.Keeping.{legal_gaps-nil}
use Rattle.pcs_send.specs.Holding.{State}
use Rattle.pcs_io.specs.Octets.{Told, AppendsFront, TakesWhereTold}
use Rattle.pcs_io.specs.FrameLines.{FrameLine, frame_line_at}
use Rattle.pcs_io.specs.Histories.{ReaderState, History, Stands, Nexts, told, opened}
use Rattle.pcs_io.specs.declared.fault.InFault.{InFault}
use Rattle.pcs_io.specs.declared.fault.InFault.TheVariants as in_fault
use Rattle.pcs_io.specs.declared.source.Failed.{Failed}
use Rattle.pcs_io.specs.Grammars.{Begins, IsNear}
use Rattle.pcs_io.proofs.Told.{gives-none, gives-append, takes-after, takes-consumed}
use Rattle.pcs_io.specs.declared.fault.Kind.{Kind}
use Rattle.pcs_drive.specs.LineCommand.{IsRefused, KeptUp}
use Rattle.pcs_drive.specs.Seen.{Seen, TookAll, Written, ReadFailed, WriteFailed}
use Rattle.pcs_drive.specs.Outcomes.{outcome_of}
use Rattle.pcs_top.specs.Captures.{begun_octets, sent_octets}
use Rattle.pcs_top.specs.LineColumns.{columns_of_line, columns_of_lines}
use Rattle.pcs_top.specs.Encoding.{BrokeOff, HasWaited, Encoded, Encodes, HasBegun, begun_text}
use Rattle.pcs_top.specs.Sending.{HasPut, LineHalts}
use Rattle.std.specs.Prelude.{IfSome}
use Rattle.pcs_drive.specs.Writing.{Wrote, Stays, BreaksOffBefore, Longer, StaysInFront}
use Rattle.pcs_words.specs.declared.command.EncodeOptions.{EncodeOptions}
use Rattle.pcs_top.specs.declared.encode.Halt.{Halt}
use Rattle.pcs_top.specs.declared.encode.Halt.TheVariants as halt
use Rattle.pcs_drive.specs.declared.outcome.Outcome.{Outcome}
use Rattle.pcs_drive.specs.declared.outcome.Outcome.TheVariants.{Done, ReadFault, WriteFault, BadLine, TooTight, TooLong}
use Rattle.pcs_drive.proofs.WritingLemmas.{wrote-all, same-in-front}
use Rattle.pcs_io.proofs.Progress.{fresh-near}
use Rattle.pcs_drive.proofs.Copying.{Copied, opened-near, reading, all-written, took-all, took-more, refused, behind-fault, tells, Asked, asked-longer, asked-stays, kept-up}

no-lines : columns_of_lines [] ≡ []
unfolding columns_of_lines
no-lines = refl

pub columns-append : (lines more : List FrameLine) → columns_of_lines (lines ++ more) ≡ columns_of_lines lines ++ columns_of_lines more
unfolding columns_of_lines
columns-append = flat_map-append columns_of_line

pub one-line : (lines : List FrameLine) (line : FrameLine) → columns_of_lines (lines ++ line ∷ []) ≡ columns_of_lines lines ++ columns_of_line line
unfolding columns_of_lines
one-line lines line = columns-append lines (line ∷ []) ∙ ap (λ t. columns_of_lines lines ++ t) (append-nil (columns_of_line line))

-- text that was put is written at the end
written : (seen : Seen) (held_mid : Option (List ℕ)) (text pending : List ℕ) → Wrote seen.held_before held_mid text pending
    → Stays held_mid pending seen.held_after [] → Written seen text
written seen held_mid text pending wrote flushed = all-written seen.held_before seen.held_after text (wrote-all seen.held_before seen.held_after text (flushed seen.held_before text wrote))

module _ (o : EncodeOptions) where
  -- the sender has put the columns of these lines, and so their text may stand anywhere
  abbrev pub HasLines : State → List FrameLine → Type 0
  HasLines sender lines = (start held : Option (List ℕ)) (pending : List ℕ) → Wrote start held (begun_text o lines) pending → HasPut sender o (columns_of_lines lines) start held pending

  -- what is put may be written further
  pub put-again : (sender : State) (cs : List Column) (start start_now held held_now : Option (List ℕ)) (pending pending_now : List ℕ)
      → HasPut sender o cs start held pending → Wrote start_now held_now (begun_octets o cs) pending_now → HasPut sender o cs start_now held_now pending_now
  put-again sender cs start start_now held held_now pending pending_now put wrote = record {
    sent = record {
      history = put.sent.history;
      stands = put.sent.stands;
      period = put.sent.period;
      placed = put.sent.placed;
      debt = put.sent.debt;
      from = put.sent.from;
      low = put.sent.low;
      wrote = wrote;
    };
    legal = put.legal;
    least = put.least;
  }

  -- where the header and the lead were written before, they are written
  pub waited-told : (sender : State) (seen : Seen) (mid end : Option (List ℕ)) (pending text more : List ℕ) → HasPut sender o [] seen.held_before mid pending → pending ≡ []
      → StaysInFront mid end → Wrote seen.held_before end text more → StaysInFront end seen.held_after → HasWaited o seen
  waited-told sender seen mid end pending text more put none longer told later =
      by seen.held_before mid end seen.held_after (subst (Wrote seen.held_before mid (begun_octets o [])) none put.sent.wrote) longer told later
    where
      by : (before mid end after : Option (List ℕ)) → Wrote before mid (begun_octets o []) [] → StaysInFront mid end → Wrote before end text more → StaysInFront end after
          → IfSome before (λ b. IfSome after (λ a. length a < length b + length (begun_octets o []) → seen.told_after ≡ seen.told_before))
      by None mid end after w l t m = tt
      by (Some b) None end after w l t m = absurd w.appended
      by (Some b) (Some h) None after w l t m = absurd t.appended
      by (Some b) (Some h) (Some e) None w l t m = tt
      by (Some b) (Some h) (Some e) (Some a) w l t m =
          λ few. absurd (omega (
            arith,
            few,
            ap length l.1,
            length-append h l.0,
            ap length m.1,
            length-append e m.0,
            ap length w.appended,
            length-append b w.written,
            ap length w.joined,
            length-append w.written [],
          ))

  pub waited : (sender : State) (seen : Seen) (mid : Option (List ℕ)) (pending : List ℕ) → HasPut sender o [] seen.held_before mid pending → pending ≡ []
      → StaysInFront mid seen.held_after → HasWaited o seen
  waited sender seen mid pending put none longer =
      waited-told sender seen mid mid pending (begun_octets o []) pending put none (same-in-front mid) put.sent.wrote longer

  has-lines : (sender : State) (lines : List FrameLine) (cs : List Column) (start held : Option (List ℕ)) (pending : List ℕ)
      → HasPut sender o cs start held pending → columns_of_lines lines ≡ cs
      → HasLines sender lines
  has-lines sender lines cs start held pending put is start' held' pending' wrote =
      subst (λ xs. Wrote start' held' (begun_octets o xs) pending' → HasPut sender o xs start' held' pending') (sym is)
      (put-again sender cs start start' held held' pending pending' put) wrote

  module _ {P : Type 0} where
    abbrev pub SoFar : State → ReaderState P → Told → Told → Option (List ℕ) → Option (List ℕ) → List ℕ → Type 0
    SoFar sender = Copied {X = FrameLine} {P = P} frame_line_at (begun_text o) (HasLines sender)

    pub sent-start : (sender : State) (lines : ReaderState P) (before : Told) (start held : Option (List ℕ)) (pending : List ℕ)
        → Stands frame_line_at lines (opened (2 ^ 40))
        → HasPut sender o [] start held pending → SoFar sender lines before before start held pending
    sent-start sender lines before start held pending stands put = record {
      octets = [];
      answered = [];
      stands = stands;
      near = opened-near frame_line_at lines stands;
      took = gives-none before;
      wrote = subst (λ xs. Wrote start held (begun_octets o xs) pending) (sym no-lines) put.sent.wrote;
      keeps = has-lines sender [] [] start held pending put no-lines;
      asked = inl refl;
    }

    module _ (sender : State) (before mid : Told) (start held : Option (List ℕ)) (pending : List ℕ) (old : ReaderState P) (c : SoFar sender old before mid start held pending) where
      abbrev columns : List Column
      columns = columns_of_lines c.answered

      so-far : HasPut sender o columns start held pending
      so-far = c.keeps start held pending c.wrote

    -- one line more
    pub sent-line : (sender later : State) (before mid now : Told) (start held held_now : Option (List ℕ)) (pending after : List ℕ)
        (old new : ReaderState P) (ended : Bool) (line : FrameLine)
        → (c : SoFar sender old before mid start held pending) → Nexts frame_line_at old new mid now ended (Ok (Some line))
        → ((cs : List Column) → HasPut sender o cs start held pending → HasPut later o (cs ++ columns_of_line line) start held_now after)
        → Asked frame_line_at (begun_text o) before now start held → Longer held held_now → SoFar later new before now start held_now after
    sent-line sender later before mid now start held held_now pending after old new ended line c n puts asked longer =
        let t = tells frame_line_at (begun_text o) (HasLines sender) old new before mid now start held pending ended (Ok (Some line)) c n in
        let put = puts (columns_of_lines c.answered) (so-far sender before mid start held pending old c) in
        record {
          octets = c.octets ++ t.0;
          answered = c.answered ++ line ∷ [];
          stands = t.2;
          near = fresh-near frame_line_at new.buffer.unused n.within;
          took = gives-append before mid now c.octets t.0 c.took t.1.0;
          wrote = subst (λ xs. Wrote start held_now (begun_octets o xs) after) (sym (one-line c.answered line)) put.sent.wrote;
          keeps = has-lines later (c.answered ++ line ∷ []) (columns_of_lines c.answered ++ columns_of_line line) start held_now after put (one-line c.answered line);
          asked = asked-longer frame_line_at (begun_text o) before now start held held_now asked longer;
        }

    -- the ends
    module _ (sender : State) (seen : Seen) (mid : Told) (held : Option (List ℕ)) (pending : List ℕ) (old new : ReaderState P)
        (c : SoFar sender old seen.told_before mid seen.held_before held pending) where
      put-so-far : HasPut sender o (columns_of_lines c.answered) seen.held_before held pending
      put-so-far = so-far sender seen.told_before mid seen.held_before held pending old c

      -- what was written when the source was read last
      abbrev IsAsked : Option (List ℕ) → Type 0
      IsAsked now = Asked frame_line_at (begun_text o) seen.told_before seen.told_after seen.held_before now

      up : (now : Option (List ℕ)) → IsAsked now → StaysInFront now seen.held_after → KeptUp frame_line_at (begun_text o) seen
      up now asked stays = kept-up frame_line_at (begun_text o) seen now asked stays

      begun : Stays held pending seen.held_after [] → HasBegun o seen (columns_of_lines c.answered)
      begun flushed = record { legal = put-so-far.legal; written = written seen held (begun_text o c.answered) pending c.wrote flushed }

      -- the end of the input between two lines
      pub encoded-done : (held_end : Option (List ℕ)) (pending_end : List ℕ) → Nexts frame_line_at old new mid seen.told_after seen.ended (Ok None)
          → ((cs : List Column) → HasPut sender o cs seen.held_before held pending → Wrote seen.held_before held_end (sent_octets o cs) pending_end)
          → Stays held_end pending_end seen.held_after [] → Encoded o seen Done
      encoded-done held_end pending_end n finish flushed =
          let t = tells frame_line_at (begun_text o) (HasLines sender) old new seen.told_before mid seen.told_after seen.held_before held pending seen.ended (Ok None) c n in (
            c.octets ++ t.0,
            c.answered,
            took-all seen mid c.octets t.0 c.took t.1.0,
            t.1.1,
            t.1.2,
            put-so-far.legal,
            written seen held_end (sent_octets o (columns_of_lines c.answered)) pending_end (finish (columns_of_lines c.answered) put-so-far) flushed,
          )

      -- a fault of the reader
      pub encoded-fault : (fault : InFault) → Nexts frame_line_at old new mid seen.told_after seen.ended (Err fault)
          → (fault ≡ in_fault.Read → ReadFailed seen)
          → Stays held pending seen.held_after [] → Encoded o seen (outcome_of fault)
      encoded-fault in_fault.Read n rose flushed =
          let t = tells frame_line_at (begun_text o) (HasLines sender) old new seen.told_before mid seen.told_after seen.held_before held pending seen.ended (Err in_fault.Read) c n in
          (c.octets ++ t.0, c.answered, rose refl, takes-after seen.told_before mid seen.told_after c.octets t.0 c.took t.1.0, t.2.within, t.1.1, begun flushed)
      encoded-fault (in_fault.BadLine number kind) n rose flushed =
          let t = tells frame_line_at (begun_text o) (HasLines sender) old new seen.told_before mid seen.told_after seen.held_before held pending seen.ended (Err (in_fault.BadLine number kind)) c n in
          (c.octets ++ t.0, c.answered, t.1.0, refused frame_line_at seen mid c.octets t.0 c.answered kind c.took t.2.within t.1.1, begun flushed)
      encoded-fault in_fault.TooLong n rose flushed =
          let t = tells frame_line_at (begun_text o) (HasLines sender) old new seen.told_before mid seen.told_after seen.held_before held pending seen.ended (Err in_fault.TooLong) c n in
          (c.octets ++ t.0, c.answered, took-more seen mid c.octets t.0 c.took t.1.0, t.1.1, t.1.2, begun flushed)

      -- a column of the line brings the debt above its limit
      module _ (line : FrameLine) (n : Nexts frame_line_at old new mid seen.told_after seen.ended (Ok (Some line))) where
        abbrev own_columns : List Column
        own_columns = columns_of_line line

        pub encoded-tight : (number : ℕ) (held_end : Option (List ℕ)) (pending_end : List ℕ) (why : Halt) → why ≡ halt.TooTight
            → ((h : History FrameLine) → Stands frame_line_at new h → number ≡ length h.lines)
            → ((cs : List Column) → HasPut sender o cs seen.held_before held pending → LineHalts o cs own_columns seen.held_before held_end pending_end why)
            → Stays held_end pending_end seen.held_after [] → Encoded o seen (TooTight number)
        encoded-tight number held_end pending_end why is counts halts flushed =
            let t = tells frame_line_at (begun_text o) (HasLines sender) old new seen.told_before mid seen.told_after seen.held_before held pending seen.ended (Ok (Some line)) c n in
            let halted = subst (LineHalts o (columns_of_lines c.answered) own_columns seen.held_before held_end pending_end) is (halts (columns_of_lines c.answered) put-so-far) in (
              c.octets ++ t.0,
              c.answered,
              line,
              new.buffer.unused,
              halted.0,
              counts (told (reading c.octets c.answered) t.0 (Ok (Some line))) t.2 ∙ length-append c.answered (line ∷ []),
              took-more seen mid c.octets t.0 c.took t.1.0,
              t.2.within,
              t.2.unused,
              n.within,
              halted.1,
              written seen held_end (begun_octets o (columns_of_lines c.answered ++ halted.0)) pending_end halted.2 flushed,
            )

        -- its columns end early, since a write failed
        frame-failed : WriteFailed seen → HasWaited o seen → KeptUp frame_line_at (begun_text o) seen → (own left : List Column) → own_columns ≡ own ++ left
            → HasLegalGaps o.period (columns_of_lines c.answered ++ own)
            → AppendsFront seen.held_before seen.held_after (begun_octets o (columns_of_lines c.answered ++ own)) → Encoded o seen WriteFault
        frame-failed rose waits kept own left parts legal front =
            let t = tells frame_line_at (begun_text o) (HasLines sender) old new seen.told_before mid seen.told_after seen.held_before held pending seen.ended (Ok (Some line)) c n in (
              c.octets ++ t.0,
              c.answered ++ line ∷ [],
              rose,
              waits,
              inl (
                new.buffer.unused,
                took-more seen mid c.octets t.0 c.took t.1.0,
                t.2.within,
                t.2.unused,
                fresh-near frame_line_at new.buffer.unused n.within,
                columns_of_lines c.answered ++ own,
                left,
                one-line c.answered line ∙ ap (λ xs. columns_of_lines c.answered ++ xs) parts ∙ sym (append_assoc (columns_of_lines c.answered) own left),
                legal,
                front,
              ),
              kept,
            )

        pub encoded-frame-failed : (pending_end : List ℕ) (why : Halt) → why ≡ halt.Failed → WriteFailed seen → HasWaited o seen
            → ((cs : List Column) → HasPut sender o cs seen.held_before held pending → LineHalts o cs own_columns seen.held_before seen.held_after pending_end why)
            → IsAsked held → StaysInFront held seen.held_after → Encoded o seen WriteFault
        encoded-frame-failed pending_end why is rose waits halts asked stays =
            let halted = subst (LineHalts o (columns_of_lines c.answered) own_columns seen.held_before seen.held_after pending_end) is (halts (columns_of_lines c.answered) put-so-far) in
            frame-failed rose waits (up held asked stays) halted.0 halted.1 halted.2 halted.3 halted.4

        pub encoded-tight-failed : (held_end : Option (List ℕ)) (pending_end : List ℕ) (why : Halt) → why ≡ halt.TooTight → WriteFailed seen
            → ((text : List ℕ) → Wrote seen.held_before held_end text pending_end → HasWaited o seen)
            → ((cs : List Column) → HasPut sender o cs seen.held_before held pending → LineHalts o cs own_columns seen.held_before held_end pending_end why)
            → BreaksOffBefore held_end pending_end seen.held_after → IsAsked held → StaysInFront held held_end → StaysInFront held_end seen.held_after
            → Encoded o seen WriteFault
        encoded-tight-failed held_end pending_end why is rose waits halts failed asked stays later =
            let halted = subst (LineHalts o (columns_of_lines c.answered) own_columns seen.held_before held_end pending_end) is (halts (columns_of_lines c.answered) put-so-far) in
            let tight = halted.1 in
            let text = begun_octets o (columns_of_lines c.answered ++ halted.0) in
            let asked_end = asked-stays frame_line_at (begun_text o) seen.told_before seen.told_after seen.held_before held held_end text pending_end asked stays halted.2 in
            frame-failed rose (waits text halted.2) (up held_end asked_end later) halted.0 (tight.column ∷ tight.rest) tight.parts tight.legal (failed seen.held_before text halted.2)

      -- a write failed behind the lines
      behind : (octets rest : List ℕ) → WriteFailed seen → HasWaited o seen → TakesWhereTold seen.told_before seen.told_after octets → length octets ≤ 2 ^ 40
          → Begins frame_line_at octets c.answered rest → IsNear frame_line_at rest
          → AppendsFront seen.held_before seen.held_after (begun_text o c.answered) → KeptUp frame_line_at (begun_text o) seen → Encoded o seen WriteFault
      behind octets rest rose waits took within begins near front kept = (
        octets,
        c.answered,
        rose,
        waits,
        inl (rest, took, within, begins, near, columns_of_lines c.answered, [], sym (append-nil (columns_of_lines c.answered)), put-so-far.legal, front),
        kept,
      )

      pub encoded-end-failed : Nexts frame_line_at old new mid seen.told_after seen.ended (Ok None) → WriteFailed seen → HasWaited o seen
          → ((cs : List Column) → HasPut sender o cs seen.held_before held pending → AppendsFront seen.held_before seen.held_after (sent_octets o cs))
          → IsAsked held → StaysInFront held seen.held_after → Encoded o seen WriteFault
      encoded-end-failed n rose waits failed asked stays =
          let t = tells frame_line_at (begun_text o) (HasLines sender) old new seen.told_before mid seen.told_after seen.held_before held pending seen.ended (Ok None) c n in (
            c.octets ++ t.0,
            c.answered,
            rose,
            waits,
            inr (took-all seen mid c.octets t.0 c.took t.1.0, t.1.1, t.1.2, put-so-far.legal, failed (columns_of_lines c.answered) put-so-far),
            up held asked stays,
          )

      pub encoded-fault-failed : (fault : InFault) → Nexts frame_line_at old new mid seen.told_after seen.ended (Err fault) → WriteFailed seen → HasWaited o seen
          → BreaksOffBefore held pending seen.held_after → IsAsked held → StaysInFront held seen.held_after → Encoded o seen WriteFault
      encoded-fault-failed fault n rose waits failed asked stays =
          let t = tells frame_line_at (begun_text o) (HasLines sender) old new seen.told_before mid seen.told_after seen.held_before held pending seen.ended (Err fault) c n in
          let after = behind-fault frame_line_at (reading c.octets c.answered) t.0 mid seen.told_after seen.ended fault t.1 in
          behind (c.octets ++ t.0) after.0 rose waits (takes-after seen.told_before mid seen.told_after c.octets t.0 c.took after.1) t.2.within after.2 after.3
          (failed seen.held_before (begun_text o c.answered) c.wrote) (up held asked stays)

    -- before the next line is read
    pub encoded-failed : (sender : State) (seen : Seen) (held : Option (List ℕ)) (pending : List ℕ) (lines : ReaderState P)
        → (c : SoFar sender lines seen.told_before seen.told_after seen.held_before held pending) → WriteFailed seen → HasWaited o seen
        → BreaksOffBefore held pending seen.held_after → StaysInFront held seen.held_after → Encoded o seen WriteFault
    encoded-failed sender seen held pending lines c rose waits failed stays = (
      c.octets,
      c.answered,
      rose,
      waits,
      inl (
        lines.buffer.unused,
        takes-consumed seen.told_before seen.told_after c.octets c.took,
        c.stands.within,
        c.stands.unused,
        c.near,
        columns_of_lines c.answered,
        [],
        sym (append-nil (columns_of_lines c.answered)),
        (so-far sender seen.told_before seen.told_after seen.held_before held pending lines c).legal,
        failed seen.held_before (begun_text o c.answered) c.wrote,
      ),
      kept-up frame_line_at (begun_text o) seen held c.asked stays,
    )

  -- an earlier count of the writes that failed
  module _ (seen : Seen) (writes : ℕ) (few : writes ≤ seen.writes_before) where
    abbrev pub earlier_seen : Seen
    earlier_seen = record seen { writes_before = writes }

    all-taken : (octets : List ℕ) → TookAll seen octets → TookAll earlier_seen octets
    all-taken octets t = record { took = t.took; nothing = t.nothing; ended = t.ended }

    has-begun : (cs : List Column) → HasBegun o seen cs → HasBegun o earlier_seen cs
    has-begun cs b = record { legal = b.legal; written = b.written }

    is-refused : (octets : List ℕ) (lines : List FrameLine) (kind : Kind) → IsRefused frame_line_at seen octets lines kind
        → IsRefused frame_line_at earlier_seen octets lines kind
    is-refused octets lines kind (inl r) = inl r
    is-refused octets lines kind (inr r) = inr (r.0, all-taken octets r.1, r.2, r.3)

    broke-off : (octets : List ℕ) (lines : List FrameLine) → BrokeOff o seen octets lines → BrokeOff o earlier_seen octets lines
    broke-off octets lines (inl b) = inl b
    broke-off octets lines (inr b) = inr (all-taken octets b.0, b.1, b.2, b.3, b.4)

    earlier : (outcome : Outcome) → Encoded o seen outcome → Encoded o earlier_seen outcome
    earlier Done e = (e.0, e.1, all-taken e.0 e.2, e.3, e.4, e.5, e.6)
    earlier ReadFault e = (e.0, e.1, e.2, e.3, e.4, e.5, has-begun (columns_of_lines e.1) e.6)
    earlier WriteFault e = (e.0, e.1, omega (arith, few, e.2), e.3, broke-off e.0 e.1 e.4, e.5)
    earlier (BadLine number kind) e = (e.0, e.1, e.2, is-refused e.0 e.1 kind e.3, has-begun (columns_of_lines e.1) e.4)
    earlier (TooTight frame) e = e
    earlier TooLong e = (e.0, e.1, e.2, e.3, e.4, has-begun (columns_of_lines e.1) e.5)
    earlier outcome e = absurd e

    pub encodes-earlier : (result : Result Outcome Failed) → Encodes o seen result → Encodes o earlier_seen result
    encodes-earlier (Ok outcome) e = earlier outcome e
    encodes-earlier (Err failure) e = earlier WriteFault e

  -- the header or the lead was cut short
  pub encoded-unbegun : (seen : Seen) → WriteFailed seen → seen.told_after ≡ seen.told_before
      → AppendsFront seen.held_before seen.held_after (begun_octets o []) → Encoded o seen WriteFault
  encoded-unbegun seen rose same front = (
    [],
    [],
    rose,
    unread seen.held_before seen.held_after,
    inl (
      [],
      subst (λ told. TakesWhereTold seen.told_before told []) (sym same) (takes-consumed seen.told_before seen.told_before [] (gives-none seen.told_before)),
      omega arith,
      refl,
      fresh-near frame_line_at [] (omega arith),
      [],
      [],
      no-lines,
      legal_gaps-nil o.period,
      front,
    ),
    inl same,
  )
    where
      unread : (before after : Option (List ℕ)) → IfSome before (λ b. IfSome after (λ a. length a < length b + length (begun_octets o []) → seen.told_after ≡ seen.told_before))
      unread None after = tt
      unread (Some b) None = tt
      unread (Some b) (Some a) = λ few. same
