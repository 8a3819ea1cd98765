-- Beats that an impairer gives are put behind the header.
use Rattle.std.proofs.Common.{◌≡◌, ℕ, zero, suc, ◌+◌, ◌<◌, ◌≤◌, Bool, true, false, List, [], ◌∷◌, ◌++◌, Option, Some, None, refl, sym, ◌∙◌, ap, subst, arith, inl, inr, append_assoc, append-nil}
use Rattle.std.specs.Prelude.{nat_lt, if◌then◌else◌}
use Rattle.std.specs.List.{All}
use Rattle.std.proofs.lemmas.Bool.{cases_lt, lt-ltb, ltb-true, ltb-false}
use Rattle.bit_lists.specs.Places.{joined}
use Rattle.bit_lists.proofs.Lists.{joined-more}
use Rattle.lane_impair.specs.declared.item.Item.{Item}
use Rattle.lane_impair.specs.Items.{IsItem}
use Rattle.lane_impair.specs.Impairments.{beat_count, impaired, is_ready}
use Rattle.lane_impair.specs.Histories.{Impairing, lanes_of, beat_at, opened, after_take, after_finish, after_next, has_next, next_answer}
use Rattle.lane_impair.specs.Standing.{State, Stands, comes}
use Rattle.pcs_io.specs.Octets.{AppendsFront}
use Rattle.pcs_io.specs.Captures.{header_at}
use Rattle.pcs_io.specs.declared.header.Header.{Header}
use Rattle.pcs_drive.specs.Seen.{Seen}
use Rattle.pcs_drive.specs.CaptureCommand.{BeatsText, TookBeatsBy, TookAllBeatsBy, BrokeOffBy, FromBeats}
use Rattle.pcs_drive.specs.declared.outcome.Outcome.{Outcome}
use Rattle.pcs_drive.specs.declared.outcome.Outcome.TheVariants.{Done, ReadFault, WriteFault, Cut, NotAligned, TooLong}
use Rattle.pcs_drive.specs.Writing.{Wrote, Puts, BreaksOffBefore}
use Rattle.pcs_drive.proofs.Copying.{rose-after}
use Rattle.pcs_drive.proofs.WritingLemmas.{front-more, wrote-pending}
use Rattle.pcs_top.specs.Impairing.{header_octets_of, impairing}
use Rattle.pcs_top.specs.Giving.{with_given, given_text, AllCome, HasGiven, IsImpairing}
use Rattle.pcs_top.proofs.Impairing.{damaged, AllReady, ready-is, ready-front, same-later, ready-later, counted, all-is, all-front}

-- a call of `next`
module _ (old new : State) (h : Impairing) (front : List ℕ) (start held : Option (List ℕ)) (pending : List ℕ)
    (g : HasGiven old h front start held pending) (answer : Option (List ℕ))
    (answers : (h : Impairing) → Stands old h → answer ≡ next_answer h) (stands : (h : Impairing) → Stands old h → Stands new (after_next h)) where
  there : (beat : List ℕ) → answer ≡ Some beat → (has_next h ≡ true) × (beat ≡ beat_at (impaired (lanes_of h.beats) h.items) h.given)
  there beat is = by (has_next h) refl
    where
      by : (b : Bool) → has_next h ≡ b → (has_next h ≡ true) × (beat ≡ beat_at (impaired (lanes_of h.beats) h.items) h.given)
      by true has =
          let same = sym is ∙ answers h g.stands ∙ ap (λ b. if b then Some (beat_at (impaired (lanes_of h.beats) h.items) h.given) else None) has in (has, cc)
      by false has =
          let none = sym is ∙ answers h g.stands ∙ ap (λ b. if b then Some (beat_at (impaired (lanes_of h.beats) h.items) h.given) else None) has in absurd (cc)

  given-more : given_text front (with_given h (h.given + 1)) ≡ given_text front h ++ beat_at (impaired (lanes_of h.beats) h.items) h.given
  unfolding given_text
  given-more =
      let f = beat_at (impaired (lanes_of h.beats) h.items) in
      ap (λ o. front ++ o) (joined-more f h.given 1 ∙ ap (λ o. joined h.given f ++ o) (append-nil (f h.given)))
      ∙ sym (append_assoc front (joined h.given f) (f h.given))

  come-more : has_next h ≡ true → AllCome h (h.given + 1)
  come-more has b low = elim (cases_lt b h.given) [
    | inl before ↦ g.come b before
    | inr last ↦ let same : b ≡ h.given = omega (arith, low, last) in ap (comes h) same ∙ has
  ]

  -- it gave a beat, which is put
  pub gives-beat : (beat : List ℕ) (held_now : Option (List ℕ)) (pending_now : List ℕ) → answer ≡ Some beat → Puts held pending beat held_now pending_now
      → HasGiven new (with_given h (h.given + 1)) front start held_now pending_now
  gives-beat beat held_now pending_now is puts =
      let (has, same) = there beat is in
      record {
        stands = subst (λ b. Stands new (if b then with_given h (h.given + 1) else h)) has (stands h g.stands);
        come = come-more has;
        wrote = subst (λ t. Wrote start held_now t pending_now) (ap (λ b. given_text front h ++ b) same ∙ sym given-more) (puts start (given_text front h) g.wrote);
      }

  -- a write failed there
  pub beat-breaks : (held_now : Option (List ℕ)) → BreaksOffBefore held pending held_now → AppendsFront start held_now (given_text front h)
  beat-breaks held_now breaks = breaks start (given_text front h) g.wrote

  -- it gave none
  pub gives-none : answer ≡ None → HasGiven new h front start held pending × (comes h h.given ≡ false)
  gives-none is = by (has_next h) refl
    where
      by : (b : Bool) → has_next h ≡ b → HasGiven new h front start held pending × (comes h h.given ≡ false)
      by true has =
          let some = sym is ∙ answers h g.stands ∙ ap (λ b. if b then Some (beat_at (impaired (lanes_of h.beats) h.items) h.given) else None) has in absurd (cc)
      by false has = (
        record { stands = subst (λ b. Stands new (if b then with_given h (h.given + 1) else h)) has (stands h g.stands); come = g.come; wrote = g.wrote },
        has,
      )

-- the calls before `finish`
abbrev pub calls : List Item → List (List ℕ) → ℕ → Impairing
calls items beats given = record { items = items; beats = beats; given = given; finished = false }

-- and with it
abbrev pub ended : List Item → List (List ℕ) → ℕ → Impairing
ended items beats given = record { items = items; beats = beats; given = given; finished = true }

-- the text so far, and the whole text
given-ready : (items : List Item) (each : All IsItem items) (header : Header) (beats : List (List ℕ)) (n : ℕ) → AllReady items beats n
    → is_ready (lanes_of beats) items n ≡ false → given_text (header_octets_of header) (calls items beats n) ≡ (impairing items header).so_far beats
unfolding given_text
given-ready items each header beats n ready last = ap (λ o. header_octets_of header ++ o) (sym (ready-is items each beats n ready last))

front-ready : (items : List Item) (each : All IsItem items) (header : Header) (beats : List (List ℕ)) (n : ℕ) → AllReady items beats n
    → (rest : List ℕ) × ((impairing items header).so_far beats ≡ given_text (header_octets_of header) (calls items beats n) ++ rest)
unfolding given_text
front-ready items each header beats n ready =
    let front = ready-front items each beats n ready in
    (front.0, ap (λ o. header_octets_of header ++ o) front.1 ∙ sym (append_assoc (header_octets_of header) (joined n (damaged items beats)) front.0))

-- before the first beat
module _ (items : List Item) (each : All IsItem items) (header : Header) (start : Option (List ℕ)) where
  pub begins : (impairer : State) (pending : List ℕ) → Stands impairer (opened items) → pending ≡ header_octets_of header
      → HasGiven impairer (opened items) (header_octets_of header) start start pending
  unfolding given_text joined
  begins impairer pending stands is = record {
    stands = stands;
    come = λ b low. absurd (omega (arith, low));
    wrote = wrote-pending start _ _ (append-nil (header_octets_of header) ∙ sym is);
  }

-- beats were taken
module _ (text : BeatsText) (header : Header) (beats : List (List ℕ)) (start held : Option (List ℕ)) (pending : List ℕ) where
  -- all beats that are ready were given
  pub all-ready : (items : List Item) (impairer : State) (n : ℕ) → All IsItem items → text ≡ impairing items header
      → HasGiven impairer (calls items beats n) (header_octets_of header) start held pending → is_ready (lanes_of beats) items n ≡ false
      → IsImpairing impairer text beats × Wrote start held (text.so_far beats) pending
  all-ready items impairer n each is g last = (
    record { items = items; header = header; given = n; is = is; each = each; stands = g.stands; come = g.come; last = last },
    subst (λ t. Wrote start held t pending)
        (given-ready items each header beats n g.come last ∙ ap (λ (t : BeatsText). t.so_far beats) (sym is)) g.wrote,
  )

  -- a write failed before
  pub breaks-ready : (items : List Item) (n : ℕ) → All IsItem items → text ≡ impairing items header → AllReady items beats n
      → AppendsFront start held (given_text (header_octets_of header) (calls items beats n)) → AppendsFront start held (text.so_far beats)
  breaks-ready items n each is ready front =
      let rest = front-ready items each header beats n ready in
      subst (AppendsFront start held) (sym (ap (λ (t : BeatsText). t.so_far beats) is ∙ rest.1))
      (front-more start held (given_text (header_octets_of header) (calls items beats n)) rest.0 front)

  module _ (impairer : State) (k : IsImpairing impairer text beats) (wrote : Wrote start held (text.so_far beats) pending) where
    is-given : text.so_far beats ≡ given_text (header_octets_of k.header) (calls k.items beats k.given)
    is-given = ap (λ (t : BeatsText). t.so_far beats) k.is ∙ sym (given-ready k.items k.each k.header beats k.given k.come k.last)

    -- one more beat is taken
    pub takes-one : (new : State) (beat : List ℕ) → ((h : Impairing) → Stands impairer h → Stands new (after_take h beat))
        → HasGiven new (calls k.items (beats ++ beat ∷ []) k.given) (header_octets_of k.header) start held pending
    unfolding given_text
    takes-one new beat takes = record {
      stands = takes (calls k.items beats k.given) k.stands;
      come = ready-later k.items k.each beats beat k.given k.come;
      wrote = subst (λ t. Wrote start held t pending)
          (is-given ∙ ap (λ o. header_octets_of k.header ++ o) (sym (same-later k.items k.each beats beat k.given k.come))) wrote;
    }

    -- the beats end
    pub ends : (new : State) → ((h : Impairing) → Stands impairer h → Stands new (after_finish h))
        → HasGiven new (after_finish (calls k.items beats k.given)) (header_octets_of k.header) start held pending
    unfolding given_text
    ends new finishes = record {
      stands = finishes (calls k.items beats k.given) k.stands;
      come = λ b low. lt-ltb b (beat_count (lanes_of beats) k.items) (counted k.items k.each beats b (k.come b low));
      wrote = subst (λ t. Wrote start held t pending) is-given wrote;
    }

  -- all beats were given
  module _ (items : List Item) (each : All IsItem items) (is : text ≡ impairing items header) (n : ℕ) (come : AllCome (ended items beats n) n) where
    few : n ≤ beat_count (lanes_of beats) items
    few = up-to n come
      where
        up-to : (n : ℕ) → ((b : ℕ) → b < n → nat_lt b (beat_count (lanes_of beats) items) ≡ true) → n ≤ beat_count (lanes_of beats) items
        up-to zero come = omega arith
        up-to (suc m) come = omega (arith, ltb-true m (beat_count (lanes_of beats) items) (come m (omega arith)))

    pub all-given : comes (ended items beats n) n ≡ false → Wrote start held (given_text (header_octets_of header) (ended items beats n)) pending
        → Wrote start held (text.whole beats) pending
    unfolding given_text
    all-given last wrote =
        let count : n ≡ beat_count (lanes_of beats) items = omega (arith, few, ltb-false n (beat_count (lanes_of beats) items) last) in
        subst (λ t. Wrote start held t pending)
        (ap (λ o. header_octets_of header ++ o) (sym (all-is items each beats n count)) ∙ ap (λ (t : BeatsText). t.whole beats) (sym is)) wrote

    pub breaks-all : AppendsFront start held (given_text (header_octets_of header) (ended items beats n)) → AppendsFront start held (text.whole beats)
    unfolding given_text
    breaks-all front =
        let rest = all-front items each beats n few in
        subst (AppendsFront start held)
        (sym (ap (λ (t : BeatsText). t.whole beats) is ∙ ap (λ o. header_octets_of header ++ o) rest.1
        ∙ sym (append_assoc (header_octets_of header) (joined n (damaged items beats)) rest.0)))
        (front-more start held (header_octets_of header ++ joined n (damaged items beats)) rest.0 front)

-- what is answered where writes went well before is the answer for them all
module _ (text : BeatsText) (before : List ℕ) (limit : ℕ) (header : Header) (seen : Seen) (mid : ℕ) (later : seen.writes_before ≤ mid) where
  abbrev after : Seen
  after = record seen { writes_before = mid }

  took : (beats : List (List ℕ)) (over : ℕ) → TookBeatsBy header_at before header after beats over → TookBeatsBy header_at before header seen beats over
  took beats over t = record { got = t.got; took = t.took; whole = t.whole }

  took-all : (beats : List (List ℕ)) (over : ℕ) → TookAllBeatsBy header_at before limit header after beats over → TookAllBeatsBy header_at before limit header seen beats over
  took-all beats over t = record {
    got = t.got;
    took = record { took = t.took.took; nothing = t.took.nothing; ended = t.took.ended };
    short = t.short;
    whole = t.whole;
  }

  broke-off : (beats : List (List ℕ)) → BrokeOffBy header_at text before limit header after beats → BrokeOffBy header_at text before limit header seen beats
  broke-off beats (inl b) = inl b
  broke-off beats (inr b) = inr (b.0, took-all beats b.0 b.1, b.2)

  pub written-before : (outcome : Outcome) → FromBeats text before limit header after outcome → FromBeats text before limit header seen outcome
  unfolding took
  written-before Done d = (d.0, took-all d.0 0 d.1, d.2, d.3)
  written-before ReadFault d = (d.0, d.1, d.2, took d.0 d.1 d.3, d.4, d.5)
  written-before WriteFault d = (d.0, rose-after seen.writes_before mid seen.writes_after later d.1, broke-off d.0 d.2, d.3)
  written-before (Cut rest) d = (d.0, d.1, took-all d.0 rest d.2, d.3)
  written-before NotAligned d = (d.0, took-all d.0 0 d.1, d.2, d.3)
  written-before TooLong d = (d.0, d.1, took d.0 d.1 d.2, d.3, d.4)
  written-before outcome d = absurd d
