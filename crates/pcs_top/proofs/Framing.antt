-- The header and the lead, and the end of a transmission.
use Rattle.std.proofs.Common.{◌≡◌, ℕ, ◌+◌, ◌-◌, ◌*◌, ◌<◌, ◌≤◌, true, false, List, [], ◌++◌, length, reverse, Option, refl, sym, ◌∙◌, ap, ap₂, subst, arith, inl, inr, append_assoc, append-nil, length-append}
use Rattle.std.proofs.lemmas.Bool.{cases_lt, cases_Bool, lt-ltb, le-ltb, false≢true}
use Rattle.std.proofs.lemmas.List.{length-replicate}
use Rattle.std.specs.Prelude.{nat_lt, ◌&&◌}
use Rattle.mac_columns.specs.declared.column.Column.{Column}
use Rattle.mac_columns.specs.declared.column.Column.TheVariants.{Idle}
use Rattle.rate_match.specs.Kept.{room, debt}
use Rattle.rate_match.proofs.Keeping.{kept-nil, debt-nil, legal_gaps-nil}
use Rattle.pcs_send.specs.Transmission.{columns_before, whole_pairs, begun_columns, sent_columns, sent, lacking, idles}
use Rattle.pcs_send.specs.Histories.{Sending, sending, is_begun}
use Rattle.pcs_send.specs.Holding.{State, Stands}
use Rattle.pcs_send.proofs.Pairs.{wides-zero, whole_pairs-is, columns-periods}
use Rattle.pcs_send.proofs.Carrying.{pairs_octets-none}
use Rattle.pcs_send.proofs.Filling.{room_of_pair, lacking_full, lacking_begun}
use Rattle.pcs_top.specs.Captures.{form_header, begun_octets, sent_octets}
use Rattle.pcs_io.specs.Octets.{AppendsFront}
use Rattle.pcs_top.specs.Sending.{HasSent, HasPut, with_pairs, filled_columns, AreWhole}
use Rattle.pcs_drive.specs.Writing.{Wrote}
use Rattle.pcs_words.specs.declared.command.EncodeOptions.{EncodeOptions}
use Rattle.pcs_drive.proofs.WritingLemmas.{front-more}
use Rattle.pcs_top.proofs.Capturing.{capture, capture-is, capture-front}

none-whole : (p : ℕ) → whole_pairs p 0 ≡ 0
none-whole p = whole_pairs-is p 0 0 (omega (arith, wides-zero p)) (omega (arith, wides-zero p, room_of_pair p 0))

pub are_whole-none : (p : ℕ) → AreWhole p []
are_whole-none p = ap (columns_before p) (none-whole p) ∙ omega (arith, wides-zero p)

-- the capture of no column is the header
pub capture-none : (f : ℕ) (p : ℕ) → capture f p [] ≡ form_header f p
capture-none f p =
    capture-is f p [] 0 (omega (arith, wides-zero p)) (omega (arith, wides-zero p, room_of_pair p 0))
    ∙ ap (λ o. form_header f p ++ o) (pairs_octets-none p []) ∙ append-nil (form_header f p)

-- whole periods of idles
pub whole-periods : (p : ℕ) (cs : List Column) (k : ℕ) → 1 ≤ p → AreWhole p cs → with_pairs p cs (k * p) ≡ cs ++ idles (k * room p)
whole-periods p cs k least whole = ap (λ n. cs ++ idles n) (omega (arith, whole, columns-periods p (whole_pairs p (length cs)) k least))

-- the lead is what was begun before any column
pub lead-is : (o : EncodeOptions) → 1 ≤ o.period → with_pairs o.period [] (o.lead * o.period) ≡ begun_columns o.period o.lead []
unfolding begun_columns
lead-is o least =
    whole-periods o.period [] o.lead least (are_whole-none o.period)
    ∙ sym (append-nil (idles (o.lead * room o.period))) ∙ ap (λ xs. idles (o.lead * room o.period) ++ xs) (sym (kept-nil o.period))

-- the header is put by a sender that has placed nothing
pub header-sent : (s : State) (f : ℕ) (p : ℕ) (start held : Option (List ℕ)) (pending octets : List ℕ) → Stands s (sending p) → octets ≡ form_header f p
    → Wrote start held ([] ++ octets) pending → HasSent s f p [] 0 start held pending
header-sent s f p start held pending octets stands is wrote = record {
  history = sending p;
  stands = stands;
  period = refl;
  placed = refl;
  debt = refl;
  from = omega (arith, wides-zero p);
  low = omega (arith, wides-zero p, room_of_pair p 0);
  wrote = subst (λ t. Wrote start held t pending) (is ∙ sym (capture-none f p)) wrote;
}

pub lead-put : (s : State) (o : EncodeOptions) (start held : Option (List ℕ)) (pending : List ℕ) → 1 ≤ o.period
    → HasSent s o.form o.period (with_pairs o.period [] (o.lead * o.period)) 0 start held pending → HasPut s o [] start held pending
lead-put s o start held pending least sent = record {
  sent = subst (λ owed. HasSent s o.form o.period (begun_columns o.period o.lead []) owed start held pending) (sym (debt-nil o.period))
      (subst (λ xs. HasSent s o.form o.period xs 0 start held pending) (lead-is o least) sent);
  legal = legal_gaps-nil o.period;
  least = least;
}

-- a front of the header or of the lead was written
pub header-front : (o : EncodeOptions) (start now : Option (List ℕ)) → AppendsFront start now [] → AppendsFront start now (begun_octets o [])
header-front o start now front = front-more start now [] (begun_octets o []) front

pub lead-front : (o : EncodeOptions) (start now : Option (List ℕ)) → 1 ≤ o.period
    → AppendsFront start now (capture o.form o.period (with_pairs o.period [] (o.lead * o.period)))
    → AppendsFront start now (begun_octets o [])
lead-front o start now least front = subst (λ xs. AppendsFront start now (capture o.form o.period xs)) (lead-is o least) front

-- the end of a transmission: the last pair begun is filled, and the tail comes behind it
module _ (p : ℕ) (cs : List Column) where
  abbrev t : ℕ
  t = whole_pairs p (length cs)

  pub filled-is : columns_before p t < length cs → length cs < columns_before p (t + 1) → with_pairs p cs 1 ≡ cs ++ idles (lacking p (length cs))
  filled-is from low = ap (λ n. cs ++ idles n) (sym (lacking_begun p t (length cs) from low))

  pub filled-whole : columns_before p t < length cs → length cs < columns_before p (t + 1) → AreWhole p (with_pairs p cs 1)
  filled-whole from low =
      let n = columns_before p (t + 1) - length cs in
      let size : length (with_pairs p cs 1) ≡ columns_before p (t + 1) =
      length-append cs (idles n) ∙ ap (λ k. length cs + k) (length-replicate n Idle) ∙ omega (arith, low) in
      ap (columns_before p) (ap (whole_pairs p) size ∙ whole_pairs-is p (columns_before p (t + 1)) (t + 1) (omega arith) (room_of_pair p (t + 1))) ∙ sym size

-- the tail comes behind the last pair, filled
pub end-is : (o : EncodeOptions) (cs : List Column) (count : ℕ) → 1 ≤ o.period → count ≡ o.tail * o.period → AreWhole o.period (filled_columns o cs)
    → with_pairs o.period (filled_columns o cs) count ≡ sent_columns o.period o.lead o.tail cs
unfolding sent_columns
end-is o cs count least is whole =
    let begun = begun_columns o.period o.lead cs in
    ap (with_pairs o.period (filled_columns o cs)) is
    ∙ whole-periods o.period (filled_columns o cs) o.tail least whole
    ∙ append_assoc begun (idles (lacking o.period (length begun))) (idles (o.tail * room o.period))

pub ends-sent : (s : State) (o : EncodeOptions) (cs xs : List Column) (owed : ℕ) (start held : Option (List ℕ)) (pending : List ℕ)
    → xs ≡ sent_columns o.period o.lead o.tail cs
    → HasSent s o.form o.period xs owed start held pending → Wrote start held (sent_octets o cs) pending
unfolding sent
ends-sent s o cs xs owed start held pending is done = subst (λ ys. Wrote start held (capture o.form o.period ys) pending) is done.wrote

pub ends-failed : (o : EncodeOptions) (cs xs : List Column) (start now : Option (List ℕ)) → xs ≡ sent_columns o.period o.lead o.tail cs
    → AppendsFront start now (capture o.form o.period xs)
    → AppendsFront start now (sent_octets o cs)
unfolding sent
ends-failed o cs xs start now is front = subst (λ ys. AppendsFront start now (capture o.form o.period ys)) is front

-- a front of the capture of these columns, and of more
pub fill-failed : (o : EncodeOptions) (cs xs : List Column) (n : ℕ) (start now : Option (List ℕ))
    → with_pairs o.period xs n ≡ sent_columns o.period o.lead o.tail cs
    → AppendsFront start now (capture o.form o.period xs) → AppendsFront start now (sent_octets o cs)
fill-failed o cs xs n start now is front =
    let more = idles (columns_before o.period (whole_pairs o.period (length xs) + n) - length xs) in
    let rest = capture-front o.form o.period xs more in
    ends-failed o cs (with_pairs o.period xs n) start now is
    (subst (AppendsFront start now) (sym rest.1) (front-more start now (capture o.form o.period xs) rest.0 front))

-- whether a pair was begun
module _ (s : State) (o : EncodeOptions) (cs : List Column) (start held : Option (List ℕ)) (pending : List ℕ) (put : HasPut s o cs start held pending) where
  abbrev columns : List Column
  columns = begun_columns o.period o.lead cs

  abbrev h : Sending
  h = put.sent.history

  taken-is : whole_pairs o.period (length columns) ≡ h.taken
  taken-is = whole_pairs-is o.period (length columns) h.taken put.sent.from put.sent.low

  begun-test : is_begun h ≡ (nat_lt (columns_before o.period h.taken) (length columns) && nat_lt (length columns) (columns_before o.period (h.taken + 1)))
  begun-test = ap₂ (λ n q. nat_lt (columns_before q h.taken) n && nat_lt n (columns_before q (h.taken + 1))) (ap length put.sent.placed) put.sent.period

  pub is-begun : is_begun h ≡ true → columns_before o.period (whole_pairs o.period (length columns)) < length columns
  is-begun is = elim (cases_lt (columns_before o.period h.taken) (length columns)) [
    | inl more ↦ omega (arith, more, ap (columns_before o.period) taken-is)
    | inr none ↦
        absurd (false≢true (sym (begun-test ∙ ap (λ b. b && nat_lt (length columns) (columns_before o.period (h.taken + 1))) (le-ltb (columns_before o.period h.taken) (length columns) none)) ∙ is))
  ]

  pub room-left : length columns < columns_before o.period (whole_pairs o.period (length columns) + 1)
  room-left = omega (arith, put.sent.low, ap (λ t. columns_before o.period (t + 1)) taken-is)

  pub not-begun : is_begun h ≡ false → AreWhole o.period columns
  not-begun is = elim (cases_lt (columns_before o.period h.taken) (length columns)) [
    | inl more ↦
        absurd (false≢true (sym is ∙ begun-test
        ∙ ap₂ (λ a b. a && b) (lt-ltb (columns_before o.period h.taken) (length columns) more) (lt-ltb (length columns) (columns_before o.period (h.taken + 1)) put.sent.low)))
    | inr none ↦ ap (columns_before o.period) taken-is ∙ omega (arith, none, put.sent.from)
  ]

-- the same, where the number of pairs is told by an equation
pub lead-put-by : (s : State) (o : EncodeOptions) (count : ℕ) (start held : Option (List ℕ)) (pending : List ℕ) → 1 ≤ o.period
    → count ≡ o.lead * o.period
    → HasSent s o.form o.period (with_pairs o.period [] count) 0 start held pending → HasPut s o [] start held pending
lead-put-by s o count start held pending least is sent =
    lead-put s o start held pending least (subst (λ n. HasSent s o.form o.period (with_pairs o.period [] n) 0 start held pending) is sent)

pub lead-front-by : (o : EncodeOptions) (count : ℕ) (start now : Option (List ℕ)) → 1 ≤ o.period → count ≡ o.lead * o.period
    → AppendsFront start now (capture o.form o.period (with_pairs o.period [] count)) → AppendsFront start now (begun_octets o [])
lead-front-by o count start now least is front = lead-front o start now least (subst (λ n. AppendsFront start now (capture o.form o.period (with_pairs o.period [] n))) is front)

-- the last pair, filled, by its two cases
module _ (old : State) (o : EncodeOptions) (cs : List Column) (start held : Option (List ℕ)) (pending : List ℕ) (put : HasPut old o cs start held pending) where
  abbrev last_pair : List Column
  last_pair = begun_columns o.period o.lead cs

  filled-begun : is_begun put.sent.history ≡ true → with_pairs o.period last_pair 1 ≡ filled_columns o cs
  filled-begun begun = filled-is o.period last_pair (is-begun old o cs start held pending put begun) (room-left old o cs start held pending put)

  filled-none : is_begun put.sent.history ≡ false → last_pair ≡ filled_columns o cs
  filled-none not =
      sym (append-nil last_pair)
      ∙ ap (λ n. last_pair ++ idles n) (sym (lacking_full o.period (whole_pairs o.period (length last_pair)) (length last_pair) (not-begun old o cs start held pending put not)))

  pub all-whole : AreWhole o.period (filled_columns o cs)
  all-whole = elim (cases_Bool (is_begun put.sent.history)) [
    | inl begun ↦ subst (AreWhole o.period) (filled-begun begun) (filled-whole o.period last_pair (is-begun old o cs start held pending put begun) (room-left old o cs start held pending put))
    | inr not ↦ subst (AreWhole o.period) (filled-none not) (not-begun old o cs start held pending put not)
  ]

  pub none-to-fill : is_begun put.sent.history ≡ false → HasSent old o.form o.period (filled_columns o cs) (debt o.period (reverse cs)) start held pending
  none-to-fill not = subst (λ xs. HasSent old o.form o.period xs (debt o.period (reverse cs)) start held pending) (filled-none not) put.sent

  pub pair-filled : (new : State) (now : Option (List ℕ)) (after : List ℕ) → is_begun put.sent.history ≡ true
      → HasSent new o.form o.period (with_pairs o.period last_pair 1) (debt o.period (reverse cs)) start now after
      → HasSent new o.form o.period (filled_columns o cs) (debt o.period (reverse cs)) start now after
  pair-filled new now after begun sent = subst (λ xs. HasSent new o.form o.period xs (debt o.period (reverse cs)) start now after) (filled-begun begun) sent

  pub filling-failed : (now : Option (List ℕ)) → is_begun put.sent.history ≡ true
      → AppendsFront start now (capture o.form o.period (with_pairs o.period last_pair 1))
      → AppendsFront start now (capture o.form o.period (filled_columns o cs))
  filling-failed now begun front = subst (λ xs. AppendsFront start now (capture o.form o.period xs)) (filled-begun begun) front
