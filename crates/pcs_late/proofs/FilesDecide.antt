-- A packet capture decides how `pcap` ends, where no stream failed and there was memory.
use Rattle.std.proofs.Common.{◌≡◌, ℕ, ◌+◌, ◌-◌, ◌^◌, ◌<◌, ◌⊎◌, inl, inr, Bool, true, false, nat_lt, cond, List, [], ◌∷◌, ◌++◌, length, take, sym, ap, ap₂, subst, refl, ◌∙◌, arith, length-append}
use Rattle.std.proofs.lemmas.Bool.{le-ltb}
use Rattle.std.proofs.lemmas.Bool.Decides.{nat_tests}
use Rattle.pcs_io.specs.TextLines.{text_line_at}
use Rattle.pcs_io.specs.TextGrammar.{text_grammar}
use Rattle.pcs_io.specs.declared.header.BadHeader.{BadHeader as Refusal}
use Rattle.pcap_frames.specs.Pcap.{header_at, Whole, Wrong, Short, RecordAt, record_at, Record, Refused, Open, Begins, Opens, Records, pcap_octets}
use Rattle.pcap_frames.specs.declared.number.Order.{Order}
use Rattle.pcap_frames.specs.declared.fault.RecordKind.{RecordKind}
use Rattle.pcap_frames.specs.declared.fault.RecordKind.TheVariants.{Ended}
use Rattle.pcap_frames.proofs.Fronts.{header-more, header-stays, refused-more}
use Rattle.pcap_frames.proofs.Readings.{same-record, same-header}
use Rattle.pcap_frames.proofs.Told.{begins-more}
use Rattle.pcs_drive.specs.Seen.{Seen}
use Rattle.pcs_drive.specs.Deciding.{IsSettled, Given}
use Rattle.pcs_drive.specs.declared.outcome.Outcome.TheVariants.{Done, ReadFault, WriteFault, BadHeader, TooLong}
use Rattle.pcs_drive.proofs.Deciding.{front, all, reach, reach-front, all-reached, limit-reached, lines-decide}
use Rattle.pcs_late.specs.Laws.{IsSettledPcap, PcapDecides}
use Rattle.pcs_late.specs.Unpacking.{IsNoHeader, IsBadRecord, Unpacked}
use Rattle.pcs_late.specs.declared.pcap_outcome.PcapOutcome.{PcapOutcome}
use Rattle.pcs_late.specs.declared.pcap_outcome.PcapOutcome.TheVariants.{Usual, BadRecord}

-- ---- records stop in one way
-- there is no record here
abbrev IsStop : RecordAt → Type 0
IsStop (Record frame rest) = ⊥
IsStop (Refused kind) = Unit {0}
IsStop Open = Unit {0}

no-record : (order : Order) (short : Bool) (octets rest frame after : List ℕ) → octets ≡ rest → IsStop (record_at order short rest)
    → record_at order short octets ≡ Record frame after → ⊥
no-record order short octets rest frame after same stop e = subst IsStop (ap (record_at order short) (sym same) ∙ e) stop

one-stop : (order : Order) (short : Bool) (octets : List ℕ) (frames others : List (List ℕ)) (rest other : List ℕ) → Begins order short octets frames rest
    → Begins order short octets others other → IsStop (record_at order short rest) → IsStop (record_at order short other) → (frames ≡ others) × (rest ≡ other)
one-stop order short octets [] [] rest other b c s t = (refl, sym b ∙ c)
one-stop order short octets [] (frame ∷ others) rest other b c s t = absurd (no-record order short octets rest frame c.0 b s c.1)
one-stop order short octets (frame ∷ frames) [] rest other b c s t = absurd (no-record order short octets other frame b.0 c t b.1)
one-stop order short octets (first ∷ frames) (second ∷ others) rest other b c s t =
    let same = same-record _ _ _ _ _ b.1 c.1 in
    let more = one-stop order short b.0 frames others rest other b.2 (subst (λ o. Begins order short o others other) (sym same.1) c.2) s t in
    (ap₂ (λ f fs. f ∷ fs) same.0 more.0, more.1)

-- how it ends behind so many frames, of an input of so many octets
abbrev verdict : RecordAt → List ℕ → ℕ → ℕ → PcapOutcome
verdict (Record frame after) rest count size = Usual Done
verdict (Refused kind) rest count size = BadRecord (count + 1) kind
verdict Open [] count size = cond (nat_lt size (2 ^ 40)) (Usual Done) (Usual TooLong)
verdict Open (x ∷ rest) count size = cond (nat_lt size (2 ^ 40)) (BadRecord (count + 1) Ended) (Usual TooLong)

module _ (short : Bool) (input : List ℕ) where
  -- the records of the input, as far as it may be read, stop, and that tells the outcome
  pub record Stops (outcome : PcapOutcome) : Type 0 where
    pub order : Order
    pub frames : List (List ℕ)
    pub rest : List ℕ
    pub opens : Opens order short (reach input) frames rest
    pub stop : IsStop (record_at order short rest)
    pub is : outcome ≡ verdict (record_at order short rest) rest (length frames) (length input)

  -- or there is no header
  abbrev pub Stopped : PcapOutcome → Type 0
  Stopped outcome =
      ((bad : Refusal) × (header_at (reach input) ≡ Wrong bad) × (outcome ≡ Usual (BadHeader bad)))
      ⊎ ((header_at (reach input) ≡ Short) × (outcome ≡ Usual (BadHeader (record { place = length input; cut = true }))))
      ⊎ Stops outcome

  one-of : (first second : PcapOutcome) → Stops first → Stops second → first ≡ second
  one-of first second a b =
      let header = same-header _ _ _ _ _ a.opens.1 b.opens.1 in
      let begins : Begins a.order short a.opens.0 b.frames b.rest =
      subst (λ o. Begins o short a.opens.0 b.frames b.rest) (sym header.0) (subst (λ os. Begins b.order short os b.frames b.rest) (sym header.1) b.opens.2) in
      let stop : IsStop (record_at a.order short b.rest) = subst (λ o. IsStop (record_at o short b.rest)) (sym header.0) b.stop in
      let same = one-stop a.order short a.opens.0 a.frames b.frames a.rest b.rest a.opens.2 begins a.stop stop in
      a.is ∙ rw (header.0, same.0, same.1) refl ∙ sym b.is

  pub one-way : (first second : PcapOutcome) → Stopped first → Stopped second → first ≡ second
  one-way first second (inl (bad, e, is)) (inl (other, f, so)) = let same : bad ≡ other = cc in is ∙ ap (λ b. Usual (BadHeader b)) same ∙ sym so
  one-way first second (inl (bad, e, is)) (inr (inl (f, so))) = absurd (let x : Wrong bad ≡ Short = sym e ∙ f in cc)
  one-way first second (inl (bad, e, is)) (inr (inr b)) = absurd (let x : Wrong bad ≡ Whole b.order b.opens.0 = sym e ∙ b.opens.1 in cc)
  one-way first second (inr (inl (e, is))) (inl (bad, f, so)) = absurd (let x : Short ≡ Wrong bad = sym e ∙ f in cc)
  one-way first second (inr (inl (e, is))) (inr (inl (f, so))) = is ∙ sym so
  one-way first second (inr (inl (e, is))) (inr (inr b)) = absurd (let x : Short ≡ Whole b.order b.opens.0 = sym e ∙ b.opens.1 in cc)
  one-way first second (inr (inr a)) (inl (bad, f, so)) = absurd (let x : Whole a.order a.opens.0 ≡ Wrong bad = sym a.opens.1 ∙ f in cc)
  one-way first second (inr (inr a)) (inr (inl (f, so))) = absurd (let x : Whole a.order a.opens.0 ≡ Short = sym a.opens.1 ∙ f in cc)
  one-way first second (inr (inr a)) (inr (inr b)) = one-of first second a b

  pub stopped-done : (octets : List ℕ) (frames : List (List ℕ)) → input ≡ octets → length octets < 2 ^ 40 → Records octets short frames → Stopped (Usual Done)
  stopped-done octets frames same low whole =
      let few : nat_lt (length input) (2 ^ 40) ≡ true = rw same (grind (arith, nat_tests)) in
      inr (inr (record {
        order = whole.0;
        frames = frames;
        rest = [];
        opens = subst (λ os. Opens whole.0 short os frames []) (sym (all-reached input octets same (omega (arith, low)))) whole.1;
        stop = tt;
        is = rw few refl;
      }))

  cut-verdict : (rest : List ℕ) (count : ℕ) → 0 < length rest → nat_lt (length input) (2 ^ 40) ≡ true → BadRecord (count + 1) Ended ≡ verdict Open rest count (length input)
  cut-verdict [] count some few = absurd (omega (arith, some))
  cut-verdict (x ∷ rest) count some few = rw few refl

  long-verdict : (rest : List ℕ) (count : ℕ) → nat_lt (length input) (2 ^ 40) ≡ false → Usual TooLong ≡ verdict Open rest count (length input)
  long-verdict [] count many = rw many refl
  long-verdict (x ∷ rest) count many = rw many refl

  open-stop : (order : Order) (rest : List ℕ) → record_at order short rest ≡ Open → IsStop (record_at order short rest)
  open-stop order rest e = subst IsStop (sym e) tt

  bad-record : (seen : Seen) → Given seen input → (frames : List (List ℕ)) (kind : RecordKind) → IsBadRecord short seen frames kind
      → Stopped (BadRecord (length frames + 1) kind)
  bad-record seen g frames kind (octets, order, rest, opens, inl c) =
      let more = take (2 ^ 40 - length octets) g.rest in
      let same = reach-front input octets g.rest (front seen input octets g c.0) c.1 in
      let refused = refused-more order short rest more kind c.2 in
      inr (inr (record {
        order = order;
        frames = frames;
        rest = rest ++ more;
        opens =
            subst (λ os. Opens order short os frames (rest ++ more)) (sym same)
            (opens.0 ++ more, header-more octets more order opens.0 opens.1, begins-more order short opens.0 frames rest more opens.2);
        stop = subst IsStop (sym refused) tt;
        is = rw refused refl;
      }))
  bad-record seen g frames kind (octets, order, rest, opens, inr c) =
      let same = all seen input octets g c.1 in
      let few : nat_lt (length input) (2 ^ 40) ≡ true = rw same (let low = c.2 in grind (arith, nat_tests)) in
      inr (inr (record {
        order = order;
        frames = frames;
        rest = rest;
        opens = subst (λ os. Opens order short os frames rest) (sym (all-reached input octets same (omega (arith, c.2)))) opens;
        stop = open-stop order rest c.3;
        is = ap (λ k. BadRecord (length frames + 1) k) c.0 ∙ rw c.3 (cut-verdict rest (length frames) c.4 few);
      }))

  no-header : (seen : Seen) → Given seen input → (bad : Refusal) → IsNoHeader seen bad → Stopped (Usual (BadHeader bad))
  no-header seen g bad (octets, inl c) =
      let same = reach-front input octets g.rest (front seen input octets g c.0) (omega (arith, c.2)) in
      inl (bad, ap header_at same ∙ header-stays octets (take (2 ^ 40 - length octets) g.rest) bad c.1, refl)
  no-header seen g bad (octets, inr c) =
      let same = all seen input octets g c.1 in
      inr (inl (ap header_at (all-reached input octets same (omega (arith, c.2))) ∙ c.3, ap (λ b. Usual (BadHeader b)) c.0 ∙ rw same refl))

  pub stopped : (gap : ℕ) (seen : Seen) (outcome : PcapOutcome) → Given seen input → Unpacked gap short seen outcome
      → IsSettledPcap outcome → Stopped outcome
  stopped gap seen (Usual Done) g c s = stopped-done c.0 c.1 (all seen input c.0 g c.2) c.3 c.4
  stopped gap seen (Usual ReadFault) g c s = absurd (s.reads refl)
  stopped gap seen (Usual WriteFault) g c s = absurd (s.writes refl)
  stopped gap seen (Usual (BadHeader bad)) g c s = no-header seen g bad c.0
  stopped gap seen (Usual TooLong) g c s =
      let octets = c.0 in
      let order = c.2.1 in
      let ends = c.2.2 in
      let parts = front seen input octets g c.2.0 in
      let many : nat_lt (length input) (2 ^ 40) ≡ false = le-ltb (length input) (2 ^ 40) (omega (arith, c.3, ap length parts, length-append octets g.rest)) in
      inr (inr (record {
        order = order;
        frames = c.1;
        rest = ends.0;
        opens = subst (λ os. Opens order short os c.1 ends.0) (sym (limit-reached input octets g.rest parts c.3)) ends.1;
        stop = open-stop order ends.0 ends.2;
        is = rw ends.2 (long-verdict ends.0 (length c.1) many);
      }))
  stopped gap seen (BadRecord number kind) g c s = subst (λ n. Stopped (BadRecord n kind)) (sym c.1) (bad-record seen g c.0 kind c.2)
  stopped gap seen outcome g c s = absurd c

pub pcap-decides : PcapDecides
pcap-decides gap short true input one other first second g h (x, is, inl a) (y, so, inl b) s t =
    let settled-first : IsSettled x = record { reads = λ e. s.reads (is ∙ ap Usual e); writes = λ e. s.writes (is ∙ ap Usual e); memory = λ e. s.memory (is ∙ ap Usual e) } in
    let settled-second : IsSettled y = record { reads = λ e. t.reads (so ∙ ap Usual e); writes = λ e. t.writes (so ∙ ap Usual e); memory = λ e. t.memory (so ∙ ap Usual e) } in
    is ∙ ap Usual (lines-decide text_line_at text_grammar pcap_octets input one other x y g h a.converted b.converted settled-first settled-second) ∙ sym so
pcap-decides gap short true input one other first second g h (x, is, inr none) b s t = absurd (s.memory (is ∙ ap Usual none.0))
pcap-decides gap short true input one other first second g h (x, is, inl a) (y, so, inr none) s t = absurd (t.memory (so ∙ ap Usual none.0))
pcap-decides gap short false input one other first second g h (inl a) (inl b) s t =
    one-way short input first second (stopped short input gap one first g a s) (stopped short input gap other second h b t)
pcap-decides gap short false input one other first second g h (inr none) b s t = absurd (s.memory none.0)
pcap-decides gap short false input one other first second g h (inl a) (inr none) s t = absurd (t.memory none.0)
