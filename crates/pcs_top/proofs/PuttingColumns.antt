-- What a column adds to what was sent.
use Rattle.std.proofs.Common.{◌≡◌, ℕ, ◌+◌, ◌-◌, ◌*◌, ◌%◌, ◌<◌, ◌≤◌, Bool, true, false, cond, ◌==◌, ◌&&◌, List, [], ◌∷◌, ◌++◌, length, reverse, Option, Ok, Err, refl, sym, ◌∙◌, ap, ap₂, subst, arith, inl, inr, append_assoc, length-append}
use Rattle.std.specs.Prelude.{Result}
use Rattle.std.proofs.lemmas.Bool.{cases_Bool, eqb-true, eqb-false, leb-true, leb-false}
use Rattle.std.proofs.lemmas.List.{length-replicate, reverse-append}
use Rattle.bit_lists.specs.Places.{flat}
use Rattle.mac_columns.specs.declared.column.Column.{Column}
use Rattle.mac_columns.specs.declared.column.Column.TheVariants.{Idle}
use Rattle.rate_match.specs.Thinning.{leaves, accepts}
use Rattle.rate_match.specs.Kept.{room, kept, debt, HasLegalGaps}
use Rattle.rate_match.specs.Laws.{OneMoreColumn}
use Rattle.rate_match.specs.declared.thin.TooTight.{TooTight}
use Rattle.rate_match.proofs.Keeping.{one_more_column, legal_gaps-push, legal_gaps-whole}
use Rattle.pcs_send.specs.Transmission.{columns_before, begun_columns, idles, pair_beats}
use Rattle.pcs_send.specs.Histories.{Sending, end_column, is_full, begins_group, placed_answer, after_put, put_answer, after_take}
use Rattle.pcs_send.specs.Holding.{State, Stands}
use Rattle.pcs_send.specs.declared.sender.Put.{Put}
use Rattle.pcs_send.specs.declared.sender.Put.TheVariants.{More, PairReady}
use Rattle.pcs_send.proofs.SenderFacts.{left_is, plain_is, group_is, refused_is}
use Rattle.pcs_send.proofs.Filling.{group_falls}
use Rattle.pcs_io.specs.Octets.{AppendsFront}
use Rattle.pcs_top.specs.Captures.{begun_octets}
use Rattle.pcs_top.specs.Sending.{HasSent, HasPut}
use Rattle.pcs_drive.specs.Writing.{Wrote, Puts, BreaksOff}
use Rattle.pcs_words.specs.declared.command.EncodeOptions.{EncodeOptions}
use Rattle.pcs_top.proofs.Capturing.{capture, capture-same, capture-more, pair-sent}

length-begun : (p lead : ℕ) (cs : List Column) → length (begun_columns p lead cs) ≡ lead * room p + length (kept p cs)
unfolding begun_columns
length-begun p lead cs = length-append (idles (lead * room p)) (kept p cs) ∙ ap (λ n. n + length (kept p cs)) (length-replicate (lead * room p) Idle)

begun-same : (p lead : ℕ) (cs ds : List Column) → kept p ds ≡ kept p cs → begun_columns p lead ds ≡ begun_columns p lead cs
unfolding begun_columns
begun-same p lead cs ds same = ap (λ xs. idles (lead * room p) ++ xs) same

begun-more : (p lead : ℕ) (cs ds : List Column) (c : Column) → kept p ds ≡ kept p cs ++ c ∷ [] → begun_columns p lead ds ≡ begun_columns p lead cs ++ c ∷ []
unfolding begun_columns
begun-more p lead cs ds c more = ap (λ xs. idles (lead * room p) ++ xs) more ∙ sym (append_assoc (idles (lead * room p)) (kept p cs) (c ∷ []))

module _ (s : State) (o : EncodeOptions) (cs : List Column) (start held : Option (List ℕ)) (pending : List ℕ) (put : HasPut s o cs start held pending) (c : Column) where
  abbrev p : ℕ
  p = o.period

  abbrev f : ℕ
  f = o.form

  abbrev h : Sending
  h = put.sent.history

  law : OneMoreColumn p cs c
  law = one_more_column p cs c put.least

  latest : reverse (cs ++ c ∷ []) ≡ c ∷ reverse cs
  latest = reverse-append cs (c ∷ [])

  size : length h.placed ≡ o.lead * room p + length (kept p cs)
  size = ap length put.sent.placed ∙ length-begun p o.lead cs

  -- a group stands before the column exactly where the kept columns fill whole periods
  group-is : begins_group h ≡ (length (kept p cs) % room p == 0)
  group-is =
      ap₂ (λ n q. (n == columns_before q h.taken) && (h.taken % q == 0)) size put.sent.period
      ∙ group_falls p o.lead h.taken (length (kept p cs)) put.least
      (omega (arith, put.sent.from, length-begun p o.lead cs)) (omega (arith, put.sent.low, length-begun p o.lead cs))

  leaves-now : (left : Bool) → leaves h.debt c ≡ left → leaves (debt p (reverse cs)) c ≡ left
  leaves-now left is = ap (λ d. leaves d c) (sym put.sent.debt) ∙ is

  paid : debt p (reverse cs) ≤ 128
  paid = legal_gaps-whole p cs put.legal

  -- the record of one column more
  put-one : (new : State) (now : Option (List ℕ)) (after : List ℕ)
      → HasSent new f p (begun_columns p o.lead (cs ++ c ∷ [])) (debt p (c ∷ reverse cs)) start now after
      → debt p (c ∷ reverse cs) ≤ 128 → HasPut new o (cs ++ c ∷ []) start now after
  put-one new now after sent few = record {
    sent = subst (λ past. HasSent new f p (begun_columns p o.lead (cs ++ c ∷ [])) (debt p past) start now after) (sym latest) sent;
    legal = legal_gaps-push p cs c put.legal few;
    least = put.least;
  }

  -- the column is left out
  left : (new : State) → leaves h.debt c ≡ true → Stands new (record h { debt = h.debt - 1 }) → HasPut new o (cs ++ c ∷ []) start held pending
  left new is stands =
      let goes = law.goes (leaves-now true is) in
      let same = begun-same p o.lead cs (cs ++ c ∷ []) goes.0 in
      put-one new held pending (record {
        history = record h { debt = h.debt - 1 };
        stands = stands;
        period = put.sent.period;
        placed = put.sent.placed ∙ sym same;
        debt = omega (arith, put.sent.debt, goes.1);
        from = subst (λ xs. columns_before p h.taken ≤ length xs) (sym same) put.sent.from;
        low = subst (λ xs. length xs < columns_before p (h.taken + 1)) (sym same) put.sent.low;
        wrote = subst (λ xs. Wrote start held (capture f p xs) pending) (sym same) put.sent.wrote;
      }) (omega (arith, paid, goes.1))

  -- the history with the column kept
  abbrev kept_one : Sending
  kept_one = record h { placed = h.placed ++ c ∷ []; debt = debt p (c ∷ reverse cs) }

  columns-are : leaves h.debt c ≡ false → begun_columns p o.lead (cs ++ c ∷ []) ≡ begun_columns p o.lead cs ++ c ∷ []
  columns-are is = begun-more p o.lead cs (cs ++ c ∷ []) c (law.stays (leaves-now false is)).0

  kept-placed : leaves h.debt c ≡ false → kept_one.placed ≡ begun_columns p o.lead (cs ++ c ∷ [])
  kept-placed is = ap (λ xs. xs ++ c ∷ []) put.sent.placed ∙ sym (columns-are is)

  kept-size : leaves h.debt c ≡ false → length (begun_columns p o.lead (cs ++ c ∷ [])) ≡ length (begun_columns p o.lead cs) + 1
  kept-size is = ap length (columns-are is) ∙ length-append (begun_columns p o.lead cs) (c ∷ [])

  -- the pair in hand has room for more
  more : (new : State) → leaves h.debt c ≡ false → debt p (c ∷ reverse cs) ≤ 128 → is_full kept_one ≡ false → Stands new kept_one
      → HasPut new o (cs ++ c ∷ []) start held pending
  more new is few room stands =
      let size = kept-size is in
      let not : ¬ (length kept_one.placed ≡ end_column h) = eqb-false (length kept_one.placed) (end_column h) room in
      let at : length kept_one.placed ≡ length (begun_columns p o.lead cs) + 1 = ap length (kept-placed is) ∙ size in
      let end : end_column h ≡ columns_before p (h.taken + 1) = ap (λ q. columns_before q (h.taken + 1)) put.sent.period in
      let low : length (begun_columns p o.lead (cs ++ c ∷ [])) < columns_before p (h.taken + 1) = omega (arith, size, put.sent.low, at, end, not) in
      let text : capture f p (begun_columns p o.lead (cs ++ c ∷ [])) ≡ capture f p (begun_columns p o.lead cs) =
      ap (capture f p) (columns-are is)
      ∙ capture-same f p (begun_columns p o.lead cs) (c ∷ []) h.taken put.sent.from (subst (λ xs. length xs < columns_before p (h.taken + 1)) (columns-are is) low) in
      put-one new held pending (record {
        history = kept_one;
        stands = stands;
        period = put.sent.period;
        placed = kept-placed is;
        debt = refl;
        from = omega (arith, size, put.sent.from);
        low = low;
        wrote = subst (λ t. Wrote start held t pending) (sym text) put.sent.wrote;
      }) few

  full-size : leaves h.debt c ≡ false → is_full kept_one ≡ true → length (begun_columns p o.lead cs ++ c ∷ []) ≡ columns_before p (h.taken + 1)
  full-size is full =
      ap length (sym (columns-are is) ∙ sym (kept-placed is)) ∙ eqb-true (length kept_one.placed) (end_column h) full ∙ ap (λ q. columns_before q (h.taken + 1)) put.sent.period

  -- the pair in hand is full, and its beats are put
  module _ (mid : State) (is : leaves h.debt c ≡ false) (few : debt p (c ∷ reverse cs) ≤ 128) (full : is_full kept_one ≡ true) (stands : Stands mid kept_one)
      (now : Option (List ℕ)) where
    filled : (new : State) (after : List ℕ) → ((x : Sending) → Stands mid x → Stands new (after_take x))
        → ((x : Sending) → Stands mid x → Puts held pending (flat (pair_beats x.period x.placed x.taken)) now after)
        → HasPut new o (cs ++ c ∷ []) start now after
    filled new after takes puts =
        put-one new now after (subst (λ xs. HasSent new f p xs (debt p (c ∷ reverse cs)) start now after) (sym (columns-are is))
        (pair-sent new kept_one f p (begun_columns p o.lead cs) (c ∷ []) (debt p (c ∷ reverse cs)) start held now pending after
        (pair_beats kept_one.period kept_one.placed kept_one.taken) refl put.sent.period
        (kept-placed is ∙ columns-are is) put.sent.from put.sent.low (full-size is full) put.sent.wrote refl
        (takes kept_one stands) (puts kept_one stands))) few

    broken : ((x : Sending) → Stands mid x → BreaksOff held pending (flat (pair_beats x.period x.placed x.taken)) now)
        → AppendsFront start now (begun_octets o (cs ++ c ∷ []))
    broken failed =
        subst (AppendsFront start now)
        (ap (λ b. capture f p (begun_columns p o.lead cs) ++ flat b)
        (ap₂ (λ q xs. pair_beats q xs h.taken) put.sent.period (kept-placed is ∙ columns-are is))
        ∙ sym (capture-more f p (begun_columns p o.lead cs) (c ∷ []) h.taken put.sent.from put.sent.low (full-size is full))
        ∙ ap (capture f p) (sym (columns-are is)))
        (failed kept_one stands start (capture f p (begun_columns p o.lead cs)) put.sent.wrote)

  -- the answer of `put`, by its tests
  data Case : Type 0 where
    goes : leaves h.debt c ≡ true → (put_answer h c ≡ Ok More) → (after_put h c ≡ record h { debt = h.debt - 1 }) → Case
    stays : leaves h.debt c ≡ false → debt p (c ∷ reverse cs) ≤ 128 → (put_answer h c ≡ Ok (placed_answer kept_one)) → (after_put h c ≡ kept_one) → Case
    refused : 128 < debt p (c ∷ reverse cs) → (put_answer h c ≡ Err (record {})) → Case

  owed-with : (begins : Bool) → leaves h.debt c ≡ false → begins_group h ≡ begins → debt p (c ∷ reverse cs) ≡ h.debt + cond begins 32 0
  owed-with begins is b =
      (law.stays (leaves-now false is)).1
      ∙ ap₂ (λ d g. d + cond g 32 0) (sym put.sent.debt) (sym group-is ∙ b)

  cases : Case
  cases = elim (cases_Bool (leaves h.debt c)) [
    | inl is ↦ goes is (left_is h c is).0 (left_is h c is).1
    | inr is ↦ elim (cases_Bool (begins_group h)) [
      | inl b ↦ elim (cases_Bool (accepts h.debt)) [
        | inl a ↦
            let owed : debt p (c ∷ reverse cs) ≡ h.debt + 32 = owed-with true is b in
            let with : ℕ → Sending = λ d. record h { placed = h.placed ++ c ∷ []; debt = d } in
            stays is (omega (arith, owed, leb-true (h.debt + 32) 128 a)) (group_is h c is b a).0 ((group_is h c is b a).1 ∙ ap with (sym owed))
        | inr a ↦
            let owed : debt p (c ∷ reverse cs) ≡ h.debt + 32 = owed-with true is b in
            refused (omega (arith, owed, leb-false (h.debt + 32) 128 a)) (refused_is h c is b a).0
      ]
      | inr b ↦
          let owed : debt p (c ∷ reverse cs) ≡ h.debt = owed-with false is b ∙ omega arith in
          let with : ℕ → Sending = λ d. record h { placed = h.placed ++ c ∷ []; debt = d } in
          stays is (omega (arith, owed, paid, put.sent.debt)) (plain_is h c is b).0 ((plain_is h c is b).1 ∙ ap with (sym owed))
    ]
  ]

  pub more-put : (new : State) → Ok More ≡ put_answer h c → Stands new (after_put h c) → HasPut new o (cs ++ c ∷ []) start held pending
  more-put new answer stands = elim cases [
    | goes is a e ↦ left new is (subst (Stands new) e stands)
    | stays is few a e ↦ more new is few (not-full (is_full kept_one) (answer ∙ a)) (subst (Stands new) e stands)
    | refused over a ↦ absurd (let never = answer ∙ a in cc)
  ] where
    not-full : (b : Bool) → ◌≡◌ {A = Result Put TooTight} (Ok More) (Ok (cond b PairReady More)) → b ≡ false
    not-full true e = absurd (cc)
    not-full false e = refl

  pub refused-put : (e : TooTight) → Err e ≡ put_answer h c → 128 < debt p (c ∷ reverse cs)
  refused-put e answer = elim cases [
    | goes is a e ↦ absurd (let never = answer ∙ a in cc)
    | stays is few a e ↦ absurd (let never = answer ∙ a in cc)
    | refused over a ↦ over
  ]

  module _ (mid : State) (answer : Ok PairReady ≡ put_answer h c) (stands : Stands mid (after_put h c))
      (now : Option (List ℕ)) where
    is-full : (b : Bool) → ◌≡◌ {A = Result Put TooTight} (Ok PairReady) (Ok (cond b PairReady More)) → b ≡ true
    is-full true e = refl
    is-full false e = absurd (cc)

    pub full-put : (new : State) (after : List ℕ) → ((x : Sending) → Stands mid x → Stands new (after_take x))
        → ((x : Sending) → Stands mid x → Puts held pending (flat (pair_beats x.period x.placed x.taken)) now after)
        → HasPut new o (cs ++ c ∷ []) start now after
    full-put new after takes puts = elim cases [
      | goes is a e ↦ absurd (let never = answer ∙ a in cc)
      | stays is few a e ↦ filled mid is few (is-full (is_full kept_one) (answer ∙ a)) (subst (Stands mid) e stands) now new after takes puts
      | refused over a ↦ absurd (let never = answer ∙ a in cc)
    ]

    pub failed-put : ((x : Sending) → Stands mid x → BreaksOff held pending (flat (pair_beats x.period x.placed x.taken)) now)
        → HasLegalGaps p (cs ++ c ∷ []) × AppendsFront start now (begun_octets o (cs ++ c ∷ []))
    failed-put failed = elim cases [
      | goes is a e ↦ absurd (let never = answer ∙ a in cc)
      | stays is few a e ↦
          (legal_gaps-push p cs c put.legal few, broken mid is few (is-full (is_full kept_one) (answer ∙ a)) (subst (Stands mid) e stands) now failed)
      | refused over a ↦ absurd (let never = answer ∙ a in cc)
    ]
