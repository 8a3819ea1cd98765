-- The input decides how a command ends.
use Rattle.std.proofs.Common.{◌≡◌, ℕ, ◌+◌, ◌-◌, ◌^◌, ◌<◌, ◌≤◌, ◌⊎◌, inl, inr, Bool, true, false, List, [], ◌∷◌, ◌++◌, length, take, IfSome, sym, ◌∙◌, ap, ap₂, subst, refl, append-nil, append_assoc, length-append, arith}
use Rattle.std.specs.Prelude.{◌≢◌, nat_lt}
use Rattle.std.proofs.lemmas.Bool.{lt-ltb, le-ltb}
use Rattle.std.proofs.Math.Seq.{take-append-add}
use Rattle.std.proofs.lemmas.List.{append_cancel_left, length-take}
use Rattle.pcs_io.specs.Beats.{beat_at}
use Rattle.pcs_io.specs.Grammars.{LineAt, Line, Refused, Open, IsGrammar, Begins, AreLines, EndOpen}
use Rattle.pcs_io.specs.Captures.{FrontAt, Whole, Wrong, Short, OpensWholeBy}
use Rattle.pcs_io.specs.declared.header.BadHeader.{BadHeader as Refusal}
use Rattle.pcs_io.specs.declared.fault.Kind.{Kind}
use Rattle.pcs_io.specs.declared.fault.Kind.TheVariants.{NoEnd}
use Rattle.pcs_io.proofs.BeatPieces.{is-piece}
use Rattle.pcs_io.proofs.LineLaws.{begins-more, refused-more}
use Rattle.pcs_drive.specs.Seen.{Seen, Took, TookAll, ReadFailed, WriteFailed}
use Rattle.pcs_drive.specs.LineCommand.{Converted, IsRefused}
use Rattle.pcs_drive.specs.CaptureCommand.{TextBehind, TookAllBeatsBy, FromBeatsBy, FromFileBy, IsNoHeaderBy, outcome_at_end}
use Rattle.pcs_drive.specs.Deciding.{IsSettled, Given, GaveInput, LeftInput, Decides, LinesDecide, BeatsDecide}
use Rattle.pcs_drive.specs.declared.outcome.Outcome.{Outcome}
use Rattle.pcs_drive.specs.declared.outcome.Outcome.TheVariants.{Done, ReadFault, WriteFault, NoMemory, BadLine, BadHeader, Cut, NotAligned, TooLong}
use Rattle.pcs_drive.proofs.HeadersStay.{Stays, wrong-more, whole-more}

pub nothing-left : (rest : List ℕ) → length rest ≤ 0 → rest ≡ []
nothing-left [] few = refl
nothing-left (x ∷ rest) few = absurd (omega (arith, few))

-- what was taken is what reads gave
taken-is : (seen : Seen) (input taken : List ℕ) (g : Given seen input) → Took seen taken → g.octets ≡ taken
taken-is seen input taken g took = append_cancel_left seen.told_before.given g.octets taken (sym g.gave ∙ took.0)

-- the octets taken are the first of the input
pub front : (seen : Seen) (input taken : List ℕ) (g : Given seen input) → Took seen taken → input ≡ taken ++ g.rest
front seen input taken g took = g.parts ∙ ap (λ os. os ++ g.rest) (taken-is seen input taken g took)

-- or all of them, at the end
pub all : (seen : Seen) (input taken : List ℕ) (g : Given seen input) → TookAll seen taken → input ≡ taken
all seen input taken g took =
    let none : g.rest ≡ [] = g.whole (subst (TookAll seen) (sym (taken-is seen input taken g took.took)) took) in
    front seen input taken g took.took ∙ ap (λ r. taken ++ r) none ∙ append-nil taken

pub gave-input : GaveInput
gave-input seen octets took = record { octets = octets; rest = []; gave = took.0; parts = sym (append-nil octets); whole = λ all. refl }

pub left-input : LeftInput
left-input seen input rest octets before after took = record {
  octets = octets;
  rest = rest;
  gave = took.0;
  parts = subst (λ o. IfSome o (λ xs. xs ≡ octets ++ rest)) before (subst (λ o. IfSome seen.told_before.left (λ xs. IfSome o (λ ys. xs ≡ octets ++ ys))) after took.1);
  whole = λ all. subst (λ o. IfSome o (λ left. left ≡ [])) after all.nothing;
}

-- what may be read of an input
abbrev pub reach : List ℕ → List ℕ
reach input = take (2 ^ 40) input

pub reach-front : (input octets rest : List ℕ) → input ≡ octets ++ rest → length octets ≤ 2 ^ 40 → reach input ≡ octets ++ take (2 ^ 40 - length octets) rest
reach-front input octets rest parts few =
    let count : 2 ^ 40 ≡ length octets + (2 ^ 40 - length octets) = omega (arith, few) in
    ap (λ i. take (2 ^ 40) i) parts ∙ ap (λ n. take n (octets ++ rest)) count ∙ take-append-add octets rest (2 ^ 40 - length octets)

pub all-reached : (input octets : List ℕ) → input ≡ octets → length octets ≤ 2 ^ 40 → reach input ≡ octets
all-reached input octets same few =
    reach-front input octets [] (same ∙ sym (append-nil octets)) few ∙ ap (λ r. octets ++ r) (nothing-left (take (2 ^ 40 - length octets) []) (omega (arith, length-take {A = ℕ} (2 ^ 40 - length octets) [])))
    ∙ append-nil octets

-- at the limit
pub limit-reached : (input octets rest : List ℕ) → input ≡ octets ++ rest → length octets ≡ 2 ^ 40 → reach input ≡ octets
limit-reached input octets rest parts long =
    let none : length (take (2 ^ 40 - length octets) rest) ≤ 0 = omega (arith, long, length-take (2 ^ 40 - length octets) rest) in
    reach-front input octets rest parts (omega (arith, long)) ∙ ap (λ r. octets ++ r) (nothing-left (take (2 ^ 40 - length octets) rest) none) ∙ append-nil octets

-- Octets have one header and one list of beats.
begins-alone : (octets : List ℕ) (beats others : List (List ℕ)) (rest left : List ℕ) → Begins beat_at octets beats rest → Begins beat_at octets others left
    → length rest < 16 → length left < 16 → (beats ≡ others) × (rest ≡ left)
begins-alone octets [] [] rest left b o short low = (refl, sym b ∙ o)
begins-alone octets [] (other ∷ others) rest left b o short low =
    let piece = is-piece octets other o.0 o.1 in absurd (omega (arith, short, ap length b, ap length piece.parts, piece.sixteen, length-append other o.0))
begins-alone octets (beat ∷ beats) [] rest left b o short low =
    let piece = is-piece octets beat b.0 b.1 in absurd (omega (arith, low, ap length o, ap length piece.parts, piece.sixteen, length-append beat b.0))
begins-alone octets (beat ∷ beats) (other ∷ others) rest left b o short low =
    let same : Line beat b.0 ≡ Line other o.0 = sym b.1 ∙ o.1 in
    let first : beat ≡ other = cc in
    let behind : b.0 ≡ o.0 = cc in
    let later = begins-alone o.0 beats others rest left (subst (λ os. Begins beat_at os beats rest) behind b.2) o.2 short low in
    (subst (λ f. beat ∷ beats ≡ f ∷ others) first (ap (λ bs. beat ∷ bs) later.0), later.1)

pub opens-alone : {X : Type 0} (at : List ℕ → FrontAt X) (octets : List ℕ) (header other : X) (beats others : List (List ℕ)) (over left : ℕ)
    → OpensWholeBy at octets header beats over → OpensWholeBy at octets other others left → (header ≡ other) × (beats ≡ others) × (over ≡ left)
opens-alone at octets header other beats others over left o p =
    let same : Whole header o.1.0 ≡ Whole other p.1.0 = sym o.1.1 ∙ p.1.1 in
    let first : header ≡ other = cc in
    let behind : o.1.0 ≡ p.1.0 = cc in
    let later = begins-alone p.1.0 beats others o.0 p.0 (subst (λ os. Begins beat_at os beats o.0) behind o.1.2) p.1.2
    (omega (arith, o.2, o.3)) (omega (arith, p.2, p.3)) in
    (first, later.0, sym o.2 ∙ ap length later.1 ∙ p.2)

-- an outcome is settled where no stream failed
pub settled : (Answers : Outcome → Type 0) (seen : Seen) (outcome : Outcome) → Answers outcome → (Answers ReadFault → ReadFailed seen)
    → (Answers WriteFault → WriteFailed seen) → outcome ≢ NoMemory → ¬ ReadFailed seen → ¬ WriteFailed seen → IsSettled outcome
settled Answers seen outcome c read write memory reads writes = record { reads = λ e. reads (read (subst Answers e c)); writes = λ e. writes (write (subst Answers e c)); memory = memory }

-- ---- of lines

-- how it ends where the lines end so, and octets stand behind them or not
abbrev pub verdict : {X : Type 0} → ℕ → LineAt X → Bool → Bool → Outcome
verdict number (Line line rest) short some = Done
verdict number (Refused kind) short some = BadLine number kind
verdict number Open true true = BadLine number NoEnd
verdict number Open true false = Done
verdict number Open false some = TooLong

module _ {X : Type 0} (line_at : List ℕ → LineAt X) (grammar : IsGrammar line_at) where
  -- no line stands there
  abbrev pub IsStop : List ℕ → Type 0
  IsStop octets = (line : X) (rest : List ℕ) → line_at octets ≡ Line line rest → ⊥

  -- the lines before such a stop begin with any lines that stand in front of the octets
  pub stops : (octets : List ℕ) (lines others : List X) (rest left : List ℕ) → Begins line_at octets lines rest → IsStop rest → Begins line_at octets others left
      → (more : List X) × (lines ≡ others ++ more) × Begins line_at left more rest
  stops octets lines [] rest left b stop o = (lines, refl, subst (λ os. Begins line_at os lines rest) o b)
  stops octets [] (other ∷ others) rest left b stop o = absurd (stop other o.0 (ap line_at (sym b) ∙ o.1))
  stops octets (line ∷ lines) (other ∷ others) rest left b stop o =
      let is : Line line b.0 ≡ Line other o.0 = sym b.1 ∙ o.1 in
      let first : line ≡ other = cc in
      let behind : b.0 ≡ o.0 = cc in
      let later = stops o.0 lines others rest left (subst (λ os. Begins line_at os lines rest) behind b.2) stop o.2 in
      (later.0, ap₂ (λ l ls. l ∷ ls) first later.1, later.2)

  -- of two lists of lines in front of the octets the longer one begins with the shorter one
  pub longer : (octets : List ℕ) (lines behind others : List X) (rest left : List ℕ) → Begins line_at octets (lines ++ behind) rest
      → Begins line_at octets others left → length others ≤ length lines → (more : List X) × (lines ≡ others ++ more)
  longer octets lines behind [] rest left b o few = (lines, refl)
  longer octets [] behind (other ∷ others) rest left b o few = absurd (omega (arith, few))
  longer octets (line ∷ lines) behind (other ∷ others) rest left b o few =
      let is : Line line b.0 ≡ Line other o.0 = sym b.1 ∙ o.1 in
      let first : line ≡ other = cc in
      let same : b.0 ≡ o.0 = cc in
      let later = longer o.0 lines behind others rest left (subst (λ os. Begins line_at os (lines ++ behind) rest) same b.2) o.2 (omega (arith, few)) in
      (later.0, ap₂ (λ l ls. l ∷ ls) first later.1)

  -- there is one stop, and one list of lines before it
  alone : (octets : List ℕ) (lines others : List X) (rest left : List ℕ) → Begins line_at octets lines rest → IsStop rest → Begins line_at octets others left → IsStop left
      → (lines ≡ others) × (rest ≡ left)
  alone octets lines others rest left b stop o stop_too = let later = stops octets lines others rest left b stop o in by later.0 later.1 later.2
    where
      by : (more : List X) → lines ≡ others ++ more → Begins line_at left more rest → (lines ≡ others) × (rest ≡ left)
      by [] same last = (same ∙ append-nil others, sym last)
      by (line ∷ more) same last = absurd (stop_too line last.0 last.1)

  -- these are all lines of the input that is read, as far as it may be, and it ends so
  pub record Stopped (input : List ℕ) (lines : List X) (outcome : Outcome) : Type 0 where
    pub rest : List ℕ
    pub begins : Begins line_at (reach input) lines rest
    pub stop : IsStop rest
    pub is : outcome ≡ verdict (length lines + 1) (line_at rest) (nat_lt (length input) (2 ^ 40)) (nat_lt 0 (length rest))

  pub one-stop : (input : List ℕ) (lines others : List X) (first second : Outcome) → Stopped input lines first → Stopped input others second → first ≡ second
  one-stop input lines others first second s t =
      let same = alone (reach input) lines others s.rest t.rest s.begins s.stop t.begins t.stop in
      s.is ∙ ap₂ (λ ls rest. verdict (length ls + 1) (line_at rest) (nat_lt (length input) (2 ^ 40)) (nat_lt 0 (length rest))) same.0 same.1 ∙ sym t.is

  open-stop : (octets : List ℕ) → line_at octets ≡ Open → IsStop octets
  open-stop octets is line rest whole = let e : Open ≡ Line line rest = sym is ∙ whole in cc

  pub stopped-done : (input octets : List ℕ) (lines : List X) → input ≡ octets → AreLines line_at octets lines → length octets < 2 ^ 40 → Stopped input lines Done
  stopped-done input octets lines same whole short = record {
    rest = [];
    begins = subst (λ os. AreLines line_at os lines) (sym (all-reached input octets same (omega (arith, short)))) whole;
    stop = open-stop [] grammar.nothing;
    is = rw (grammar.nothing, same, lt-ltb (length octets) (2 ^ 40) short) refl;
  }

  pub stopped-bad : (seen : Seen) (input octets : List ℕ) (lines : List X) (kind : Kind) → Given seen input → IsRefused line_at seen octets lines kind
      → Stopped input lines (BadLine (length lines + 1) kind)
  stopped-bad seen input octets lines kind g (inl r) =
      let more = take (2 ^ 40 - length octets) g.rest in
      let same = reach-front input octets g.rest (front seen input octets g r.0) r.1 in
      let refused = refused-more line_at r.2.0 more kind grammar r.2.2 in
      record {
        rest = r.2.0 ++ more;
        begins = subst (λ os. Begins line_at os lines (r.2.0 ++ more)) (sym same) (begins-more line_at octets lines r.2.0 more grammar r.2.1);
        stop = λ line rest whole. let e : Refused kind ≡ Line line rest = sym refused ∙ whole in cc;
        is = rw refused refl;
      }
  stopped-bad seen input octets lines kind g (inr r) =
      let same = all seen input octets g r.1 in
      record {
        rest = r.3.0;
        begins = subst (λ os. Begins line_at os lines r.3.0) (sym (all-reached input octets same (omega (arith, r.2)))) r.3.1;
        stop = open-stop r.3.0 r.3.2;
        is = rw (r.3.2, same, lt-ltb (length octets) (2 ^ 40) r.2, lt-ltb 0 (length r.3.0) r.3.3) (ap (λ k. BadLine (length lines + 1) k) r.0);
      }

  pub stopped-long : (seen : Seen) (input octets : List ℕ) (lines : List X) → Given seen input
      → Took seen octets → EndOpen line_at octets lines → length octets ≡ 2 ^ 40 → Stopped input lines TooLong
  stopped-long seen input octets lines g took ends long =
      let parts = front seen input octets g took in
      let not_short : nat_lt (length input) (2 ^ 40) ≡ false = le-ltb (length input) (2 ^ 40) (omega (arith, long, ap length parts, length-append octets g.rest)) in
      record {
        rest = ends.0;
        begins = subst (λ os. Begins line_at os lines ends.0) (sym (limit-reached input octets g.rest parts long)) ends.1;
        stop = open-stop ends.0 ends.2;
        is = rw (ends.2, not_short) refl;
      }

  pub stopped : (text_of : List X → List ℕ) (seen : Seen) (input : List ℕ) (outcome : Outcome) → Given seen input
      → Converted line_at text_of seen outcome → IsSettled outcome → (lines : List X) × Stopped input lines outcome
  stopped text_of seen input Done g c s = (c.1, stopped-done input c.0 c.1 (all seen input c.0 g c.2) c.4 c.3)
  stopped text_of seen input ReadFault g c s = absurd (s.reads refl)
  stopped text_of seen input WriteFault g c s = absurd (s.writes refl)
  stopped text_of seen input (BadLine number kind) g c s =
      (c.1, subst (λ n. Stopped input c.1 (BadLine n kind)) (sym c.2) (stopped-bad seen input c.0 c.1 kind g c.3))
  stopped text_of seen input TooLong g c s = (c.1, stopped-long seen input c.0 c.1 g c.2 c.4 c.3)
  stopped text_of seen input outcome g c s = absurd c

  pub lines-decide : LinesDecide line_at
  lines-decide text_of input one other first second g h a b s t =
      let x = stopped text_of one input first g a s in
      let y = stopped text_of other input second h b t in
      one-stop input x.0 y.0 first second x.1 y.1

-- ---- of beats

-- how it ends where there is no header
abbrev pub refusal : {X : Type 0} → FrontAt X → ℕ → Outcome
refusal (Whole header rest) taken = Done
refusal (Wrong bad) taken = BadHeader bad
refusal Short taken = BadHeader (record { place = taken; cut = true })

module _ {X : Type 0} (at : List ℕ → FrontAt X) (stays : Stays at) (text : TextBehind X) (limit : ℕ) where
  -- the octets are a header and beats, and end before the limit
  pub record Ended (octets : List ℕ) (outcome : Outcome) : Type 0 where
    pub header : X
    pub beats : List (List ℕ)
    pub over : ℕ
    pub whole : OpensWholeBy at octets header beats over
    pub short : length octets < limit
    pub is : outcome ≡ outcome_at_end over ((text header).is_aligned beats)

  -- they reach the limit, behind a header
  pub record Long (octets : List ℕ) (outcome : Outcome) : Type 0 where
    pub header : X
    pub rest : List ℕ
    pub whole : at octets ≡ Whole header rest
    pub long : limit ≤ length octets
    pub is : outcome ≡ TooLong

  -- they begin with no header
  pub record NoHeader (octets : List ℕ) (outcome : Outcome) : Type 0 where
    pub none : (header : X) (rest : List ℕ) → at octets ≡ Whole header rest → ⊥
    pub is : outcome ≡ refusal (at octets) (length octets)

  abbrev pub Behind : List ℕ → Outcome → Type 0
  Behind octets outcome = Ended octets outcome ⊎ Long octets outcome

  one-end : (octets : List ℕ) (first second : Outcome) → Behind octets first → Behind octets second → first ≡ second
  one-end octets first second (inl e) (inl f) =
      let same = opens-alone at octets e.header f.header e.beats f.beats e.over f.over e.whole f.whole in
      e.is ∙ ap (λ h. outcome_at_end e.over ((text h).is_aligned e.beats)) same.0
      ∙ ap₂ (λ bs n. outcome_at_end n ((text f.header).is_aligned bs)) same.1 same.2 ∙ sym f.is
  one-end octets first second (inl e) (inr l) = absurd (omega (arith, e.short, l.long))
  one-end octets first second (inr l) (inl e) = absurd (omega (arith, e.short, l.long))
  one-end octets first second (inr l) (inr m) = l.is ∙ sym m.is

  module _ (seen : Seen) (before input : List ℕ) (g : Given seen input) where
    ended : (header : X) (beats : List (List ℕ)) (over : ℕ) (outcome : Outcome) → TookAllBeatsBy at before limit header seen beats over
        → outcome ≡ outcome_at_end over ((text header).is_aligned beats) → Behind (before ++ input) outcome
    ended header beats over outcome t is =
        let same : before ++ t.got ≡ before ++ input = ap (λ os. before ++ os) (sym (all seen input t.got g t.took)) in
        inl (record {
          header = header;
          beats = beats;
          over = over;
          whole = subst (λ os. OpensWholeBy at os header beats over) same t.whole;
          short = subst (λ os. length os < limit) same t.short;
          is = is;
        })

    pub behind : (header : X) (outcome : Outcome) → FromBeatsBy at (text header) before limit header seen outcome → IsSettled outcome
        → Behind (before ++ input) outcome
    behind header Done d s = ended header d.0 0 Done d.1 (rw d.2 refl)
    behind header ReadFault d s = absurd (s.reads refl)
    behind header WriteFault d s = absurd (s.writes refl)
    behind header (Cut rest) d s = ended header d.0 rest (Cut rest) d.2 (rw (lt-ltb 0 rest d.1) refl)
    behind header NotAligned d s = ended header d.0 0 NotAligned d.1 (rw d.2 refl)
    behind header TooLong d s =
        let t = d.2 in
        let same = front seen input t.got g t.took in
        let parts : before ++ input ≡ (before ++ t.got) ++ g.rest = ap (λ os. before ++ os) same ∙ sym (append_assoc before t.got g.rest) in
        inr (record {
          header = header;
          rest = t.whole.1.0 ++ g.rest;
          whole = ap at parts ∙ whole-more at (before ++ t.got) g.rest header t.whole.1.0 stays t.whole.1.1;
          long = omega (arith, ap length parts, length-append (before ++ t.got) g.rest, d.3);
          is = refl;
        })
    behind header outcome d s = absurd d

-- behind a header that was read before
pub beats-decide : {X : Type 0} (at : List ℕ → FrontAt X) → Stays at → BeatsDecide at
beats-decide at stays text before limit header input one other first second g h a b s t =
    let every : TextBehind _ = λ _. text in
    one-end at stays every limit (before ++ input) first second
    (behind at stays every limit one before input g header first a s) (behind at stays every limit other before input h header second b t)

-- ---- of whole files
module _ {X : Type 0} (at : List ℕ → FrontAt X) (stays : Stays at) (text : TextBehind X) where
  abbrev pub Found : List ℕ → Outcome → Type 0
  Found input outcome = Behind at stays text (2 ^ 40) input outcome ⊎ NoHeader at stays text (2 ^ 40) input outcome

  no-header : (seen : Seen) (input : List ℕ) (bad : Refusal) → Given seen input → IsNoHeaderBy at seen bad → NoHeader at stays text (2 ^ 40) input (BadHeader bad)
  no-header seen input bad g (octets, inl (took, wrong, few)) =
      let same = front seen input octets g took in
      let is = ap at same ∙ wrong-more at octets g.rest bad stays wrong in
      record { none = λ header rest whole. let e : Wrong bad ≡ Whole header rest = sym is ∙ whole in cc; is = rw is refl }
  no-header seen input bad g (octets, inr (cut, took, low, short)) =
      let same = all seen input octets g took in
      let is = ap at same ∙ short in
      record { none = λ header rest whole. let e : Short ≡ Whole header rest = sym is ∙ whole in cc; is = rw (is, same) (ap (λ b. BadHeader b) cut) }

  pub found : (seen : Seen) (input : List ℕ) (outcome : Outcome) → Given seen input → FromFileBy at text seen outcome → IsSettled outcome → Found input outcome
  found seen input Done g c s = inl (behind at stays text (2 ^ 40) seen [] input g c.0 Done c.1 s)
  found seen input ReadFault g c s = absurd (s.reads refl)
  found seen input WriteFault g c s = absurd (s.writes refl)
  found seen input NoMemory g c s = absurd (s.memory refl)
  found seen input (BadHeader bad) g c s = inr (no-header seen input bad g c.0)
  found seen input (Cut rest) g c s = inl (behind at stays text (2 ^ 40) seen [] input g c.0 (Cut rest) c.1 s)
  found seen input NotAligned g c s = inl (behind at stays text (2 ^ 40) seen [] input g c.0 NotAligned c.1 s)
  found seen input TooLong g c s = inl (behind at stays text (2 ^ 40) seen [] input g c.0 TooLong c.1 s)
  found seen input outcome g c s = absurd c

  not-both : (input : List ℕ) (first second : Outcome) → Behind at stays text (2 ^ 40) input first → NoHeader at stays text (2 ^ 40) input second → ⊥
  not-both input first second (inl e) n = n.none e.header e.whole.1.0 e.whole.1.1
  not-both input first second (inr l) n = n.none l.header l.rest l.whole

  pub one-of : (input : List ℕ) (first second : Outcome) → Found input first → Found input second → first ≡ second
  one-of input first second (inl a) (inl b) = one-end at stays text (2 ^ 40) input first second a b
  one-of input first second (inl a) (inr n) = absurd (not-both input first second a n)
  one-of input first second (inr n) (inl b) = absurd (not-both input second first b n)
  one-of input first second (inr n) (inr m) = n.is ∙ sym m.is

  pub files-decide : (input : List ℕ) → Decides input (FromFileBy at text)
  files-decide input one other first second g h a b s t = one-of input first second (found one input first g a s) (found other input second h b t)
