-- A beat put behind the lanes, one lane after the other.
use Rattle.std.proofs.Common.{◌≡◌, ℕ, ◌+◌, ◌<◌, ◌≤◌, List, ◌++◌, length, get_or, set, refl, sym, ◌∙◌, ap, ap₂, subst, inl, inr, arith, get_or-set_same, get_or-set_other, ◌-◌, ◌*◌, ◌%◌, ◌^◌, List, [], length-set, length-append}
use Rattle.std.specs.Prelude.{◌≢◌, bit_or, Bool, true, false, if◌then◌else◌}
use Rattle.std.proofs.lemmas.Bool.{cases_lt, cases_eq, eq-eqb, ne_eqb, le-leb, lt-leb, lt-ltb, le-ltb}
use Rattle.std.proofs.lemmas.List.{append-nil, set_past}
use Rattle.bit_lists.specs.Bits.{bits}
use Rattle.bit_lists.proofs.BitsOnly.{are_bits-append}
use Rattle.bit_lists.proofs.Facts.{bits_below_2, length-bits}
use Rattle.lane_impair.proofs.Octets.{octet_at-append, word_octet}
use Rattle.lane_impair.proofs.Held.{or_zero}
use Rattle.lane_impair.specs.Holding.{Held, HoldsLane, Grows, is_at, row_octet, octet_at, with_row}

-- the lanes below n have more behind them
pub record GrowsBelow (old new : Held) (more : ℕ → List ℕ) (n : ℕ) : Type 0 where
  pub done : (l : ℕ) (xs : List ℕ) → l < n → HoldsLane old l xs → HoldsLane new l (xs ++ more l)
  pub left : (l : ℕ) (xs : List ℕ) → n ≤ l → HoldsLane old l xs → HoldsLane new l xs
  pub rest : new ≡ record old { rows = new.rows; lengths = new.lengths }
  pub count : length new.rows ≡ length old.rows
  pub same : (l : ℕ) → n ≤ l → get_or new.lengths l 0 ≡ get_or old.lengths l 0
  pub most : (l : ℕ) → get_or new.lengths l 0 ≤ get_or old.lengths l 0 + 8

-- a number set in a list of numbers
set_most : (xs : List ℕ) (n v l : ℕ) → get_or xs n 0 ≤ v → v ≤ get_or xs n 0 + 8 → get_or (set xs n v) l 0 ≤ get_or xs l 0 + 8
set_most xs n v l least most =
    elim (cases_eq l n) [
      | inl same ↦ rw same (elim (cases_lt n (length xs)) [
        | inl low ↦ rw (get_or-set_same xs n v 0 low) most
        | inr high ↦ rw (set_past xs n v high) (omega arith)
      ])
      | inr other ↦ rw (get_or-set_other xs n l v 0 other) (omega arith)
    ]

-- lane n gets more
pub grows_next : (old s t : Held) (more : ℕ → List ℕ) (n width value : ℕ) → GrowsBelow old s more n → width ≤ 8 → bits width value ≡ more n
    → ((xs : List ℕ) → HoldsLane s n xs → HoldsLane t n (xs ++ bits width value))
    → ((l : ℕ) (xs : List ℕ) → l ≢ n → HoldsLane s l xs → HoldsLane t l xs)
    → length t.rows ≡ length s.rows
    → t ≡ record s { rows = t.rows; lengths = set s.lengths n (get_or s.lengths n 0 + width) }
    → GrowsBelow old t more (n + 1)
grows_next old s t more n width value g narrow is lane others count rest = record {
  done = λ l xs low h. elim (cases_eq l n) [
    | inl same ↦
        let here : HoldsLane old n xs = subst (λ m. HoldsLane old m xs) same h in
        subst (λ m. HoldsLane t m (xs ++ more m)) (sym same) (subst (λ ys. HoldsLane t n (xs ++ ys)) is (lane xs (g.left n xs (omega arith) here)))
    | inr other ↦ others l (xs ++ more l) other (g.done l xs (omega arith) h)
  ];
  left = λ l xs low h. let other : l ≢ n = omega arith in others l xs other (g.left l xs (omega arith) h);
  rest = rest_is;
  count = count ∙ g.count;
  same = λ l low.
      let other : l ≢ n = omega arith in
      lengths l ∙ get_or-set_other s.lengths n l (get_or s.lengths n 0 + width) 0 other ∙ g.same l (omega arith);
  most = λ l. elim (cases_eq l n) [
    | inl same ↦
        rw same (omega (arith, lengths n, set_most s.lengths n (get_or s.lengths n 0 + width) n (omega arith) (omega arith), g.same n (omega arith)))
    | inr other ↦ omega (arith, lengths l, get_or-set_other s.lengths n l (get_or s.lengths n 0 + width) 0 other, g.most l)
  ];
} where
  lengths : (l : ℕ) → get_or t.lengths l 0 ≡ get_or (set s.lengths n (get_or s.lengths n 0 + width)) l 0
  lengths l = ap (λ r. get_or r.lengths l 0) rest

  rest_is : t ≡ record old { rows = t.rows; lengths = t.lengths }
  rest_is =
      let make : ℕ → ℕ → Held = λ room given. record { rows = t.rows; room = room; lengths = t.lengths; given = given } in
      ap₂ make (ap (λ r. r.room) rest ∙ ap (λ r. r.room) g.rest) (ap (λ r. r.given) rest ∙ ap (λ r. r.given) g.rest)

-- lane n gets nothing more
pub grows_past : (old t : Held) (more : ℕ → List ℕ) (n : ℕ) → GrowsBelow old t more n → more n ≡ [] → GrowsBelow old t more (n + 1)
grows_past old t more n g none = record {
  done = λ l xs low h. elim (cases_eq l n) [
    | inl same ↦
        let here : HoldsLane t n xs = g.left n xs (omega arith) (subst (λ m. HoldsLane old m xs) same h) in
        let all : HoldsLane t n (xs ++ more n) = subst (HoldsLane t n) (sym (ap (λ ys. xs ++ ys) none ∙ append-nil xs)) here in
        subst (λ m. HoldsLane t m (xs ++ more m)) (sym same) all
    | inr other ↦ g.done l xs (omega arith) h
  ];
  left = λ l xs low h. g.left l xs (omega arith) h;
  rest = g.rest;
  count = g.count;
  same = λ l low. g.same l (omega arith);
  most = g.most;
}

pub grows_same : (old new : Held) (f g : ℕ → List ℕ) → ((l : ℕ) → l < 16 → f l ≡ g l) → Grows old new f → Grows old new g
grows_same old new f g same h = record {
  lanes = λ l xs low is. subst (λ ys. HoldsLane new l (xs ++ ys)) (same l low) (h.lanes l xs low is);
  rest = h.rest;
  count = h.count;
  most = h.most;
}

-- One octet behind each of the lanes that have the same whole octets, put into one row.
pub group_grows : (s t : Held) (octets row : List ℕ) (number : ℕ)
    → ((l : ℕ) → l < 16 → get_or octets l 0 < 2 ^ 8)
    → (s.given ≤ number → number - s.given < length s.rows → (l : ℕ) → l < 16
    → get_or row l 0
    ≡ (if is_at s.lengths number l then bit_or (row_octet s.rows (number - s.given) l) (get_or octets l 0) else row_octet s.rows (number - s.given) l))
    → t ≡ record s { rows = with_row s number row; lengths = t.lengths }
    → ((l : ℕ) → l < 16 → get_or t.lengths l 0 ≡ (if is_at s.lengths number l then get_or s.lengths l 0 + 8 else get_or s.lengths l 0))
    → ((l : ℕ) → 16 ≤ l → get_or t.lengths l 0 ≡ get_or s.lengths l 0)
    → Grows s t (λ l. if is_at s.lengths number l then bits 8 (get_or octets l 0) else [])
group_grows s t octets row number fit joined is longer same = record {
  lanes = λ l xs low h. elim (cases_eq (get_or s.lengths l 0) (8 * number)) [
    | inl whole ↦ rw (eq-eqb (get_or s.lengths l 0) (8 * number) whole) (grown l low whole xs h)
    | inr other ↦ rw (ne_eqb (get_or s.lengths l 0) (8 * number) other) (subst (HoldsLane t l) (sym (append-nil xs)) (as_before l low other xs h))
  ];
  rest = is ∙ ap (λ rows. record s { rows = rows; lengths = t.lengths }) (sym (ap (λ r. r.rows) is));
  count = count;
  most = λ l. elim (cases_lt l 16) [
    | inl low ↦ elim (cases_eq (get_or s.lengths l 0) (8 * number)) [
      | inl whole ↦ omega (arith, longer_inside l low whole)
      | inr other ↦ omega (arith, longer_outside l low other)
    ]
    | inr high ↦ omega (arith, same l high)
  ];
} where
  longer_inside : (l : ℕ) → l < 16 → get_or s.lengths l 0 ≡ 8 * number → get_or t.lengths l 0 ≡ get_or s.lengths l 0 + 8
  longer_inside l low whole =
      longer l low ∙ ap (λ b. if b then get_or s.lengths l 0 + 8 else get_or s.lengths l 0) (eq-eqb (get_or s.lengths l 0) (8 * number) whole)

  longer_outside : (l : ℕ) → l < 16 → get_or s.lengths l 0 ≢ 8 * number → get_or t.lengths l 0 ≡ get_or s.lengths l 0
  longer_outside l low other =
      longer l low ∙ ap (λ b. if b then get_or s.lengths l 0 + 8 else get_or s.lengths l 0) (ne_eqb (get_or s.lengths l 0) (8 * number) other)

  row_there : s.given ≤ number → number - s.given < length s.rows → with_row s number row ≡ set s.rows (number - s.given) row
  row_there from low = rw (le-leb s.given number from, lt-ltb (number - s.given) (length s.rows) low) refl

  row_none : ((i : ℕ) → i < length s.rows → s.given + i ≢ number) → with_row s number row ≡ s.rows
  row_none none =
      elim (cases_lt number s.given) [
        | inl before ↦ rw (lt-leb s.given number before) refl
        | inr from ↦ elim (cases_lt (number - s.given) (length s.rows)) [
          | inl low ↦ absurd (none (number - s.given) low (omega arith))
          | inr past ↦ rw (le-leb s.given number from, le-ltb (number - s.given) (length s.rows) past) refl
        ]
      ]

  count : length t.rows ≡ length s.rows
  count = ap (λ r. length r.rows) is ∙ elim (cases_lt number s.given) [
    | inl before ↦ ap length (row_none (λ i h. let e : s.given + i ≢ number = omega arith in e))
    | inr from ↦ elim (cases_lt (number - s.given) (length s.rows)) [
      | inl low ↦ ap length (row_there from low) ∙ length-set s.rows (number - s.given) row
      | inr past ↦ ap length (row_none (λ i h. let e : s.given + i ≢ number = omega arith in e))
    ]
  ]

  kept : (l i : ℕ) → i < length s.rows → s.given + i ≢ number → row_octet (with_row s number row) i l ≡ row_octet s.rows i l
  kept l i there other =
      elim (cases_lt number s.given) [
        | inl before ↦ ap (λ rows. row_octet rows i l) (row_none (λ j h. let e : s.given + j ≢ number = omega arith in e))
        | inr from ↦ elim (cases_lt (number - s.given) (length s.rows)) [
          | inl low ↦
              let apart : i ≢ number - s.given = omega arith in
              ap (λ rows. row_octet rows i l) (row_there from low) ∙ ap (λ r. get_or r l 0) (get_or-set_other s.rows (number - s.given) i row [] apart)
          | inr past ↦ ap (λ rows. row_octet rows i l) (row_none (λ j h. let e : s.given + j ≢ number = omega arith in e))
        ]
      ]

  elsewhere : (o k : ℕ) → o < 2 ^ 8 → k ≢ number → word_octet (o * 1) number k ≡ 0
  elsewhere o k small other =
      elim (cases_eq k (number + 1)) [
        | inl next ↦ rw (ne_eqb k number other, eq-eqb k (number + 1) next) (omega arith)
        | inr far ↦ rw (ne_eqb k number other, ne_eqb k (number + 1) far) refl
      ]

  chosen : (b : Bool) (l : ℕ) → is_at s.lengths number l ≡ b → s.given ≤ number → number - s.given < length s.rows → l < 16
      → get_or row l 0
      ≡ (if b then bit_or (row_octet s.rows (number - s.given) l) (get_or octets l 0) else row_octet s.rows (number - s.given) l)
  chosen b l test from there low =
      joined from there l low
      ∙ ap (λ c. if c then bit_or (row_octet s.rows (number - s.given) l) (get_or octets l 0) else row_octet s.rows (number - s.given) l) test

  row_is : (l i : ℕ) → l < 16 → get_or s.lengths l 0 ≡ 8 * number → i < length s.rows → (xs : List ℕ) → HoldsLane s l xs
      → row_octet t.rows i l ≡ bit_or (octet_at xs (s.given + i)) (word_octet (get_or octets l 0 * 2 ^ 0) number (s.given + i))
  row_is l i low whole there xs h =
      let o : ℕ = get_or octets l 0 in
      ap (λ r. row_octet r.rows i l) is ∙ elim (cases_eq (s.given + i) number) [
        | inl here ↦
            let place : number - s.given ≡ i = omega arith in
            let small : o * 1 % 256 ≡ o = omega (arith, fit l low) in
            ap (λ rows. row_octet rows i l) (row_there (omega arith) (omega arith))
            ∙ rw (place, get_or-set_same s.rows i row [] there, eq-eqb (s.given + i) number here, small)
            (chosen true l (eq-eqb (get_or s.lengths l 0) (8 * number) whole) (omega arith) (omega arith) low
            ∙ ap (λ k. bit_or (row_octet s.rows k l) o) place
            ∙ ap (λ x. bit_or x o) (h.octets i there))
        | inr other ↦
            let none : word_octet (o * 1) number (s.given + i) ≡ 0 = elsewhere o (s.given + i) (fit l low) other in
            kept l i there other ∙ h.octets i there ∙ sym (ap (bit_or (octet_at xs (s.given + i))) none ∙ or_zero (octet_at xs (s.given + i)))
      ]

  row_same : (l i : ℕ) → l < 16 → get_or s.lengths l 0 ≢ 8 * number → i < length s.rows → row_octet t.rows i l ≡ row_octet s.rows i l
  row_same l i low other there =
      ap (λ r. row_octet r.rows i l) is ∙ elim (cases_eq (s.given + i) number) [
        | inl here ↦
            let place : number - s.given ≡ i = omega arith in
            ap (λ rows. row_octet rows i l) (row_there (omega arith) (omega arith))
            ∙ rw (place, get_or-set_same s.rows i row [] there)
            (chosen false l (ne_eqb (get_or s.lengths l 0) (8 * number) other) (omega arith) (omega arith) low
            ∙ ap (λ k. row_octet s.rows k l) place)
        | inr apart ↦ kept l i there apart
      ]

  grown : (l : ℕ) → l < 16 → get_or s.lengths l 0 ≡ 8 * number → (xs : List ℕ) → HoldsLane s l xs → HoldsLane t l (xs ++ bits 8 (get_or octets l 0))
  grown l low whole xs h = record {
    are_bits = are_bits-append xs (bits 8 (get_or octets l 0)) h.are_bits (bits_below_2 8 (get_or octets l 0));
    size = longer_inside l low whole ∙ omega (arith, h.size, length-append xs (bits 8 (get_or octets l 0)), length-bits 8 (get_or octets l 0));
    octets = λ i there. row_is l i low whole (omega (arith, count)) xs h
        ∙ sym (octet_at-append xs 8 (get_or octets l 0) number 0 (s.given + i) h.are_bits (omega (arith, h.size, whole)) (omega arith) (omega arith) (fit l low))
        ∙ ap (λ g. octet_at (xs ++ bits 8 (get_or octets l 0)) (g + i)) (sym (ap (λ r. r.given) is));
  }

  as_before : (l : ℕ) → l < 16 → get_or s.lengths l 0 ≢ 8 * number → (xs : List ℕ) → HoldsLane s l xs → HoldsLane t l xs
  as_before l low other xs h = record {
    are_bits = h.are_bits;
    size = longer_outside l low other ∙ h.size;
    octets = λ i there.
        let within : i < length s.rows = omega (arith, count) in
        row_same l i low other within ∙ h.octets i within ∙ ap (λ g. octet_at xs (g + i)) (sym (ap (λ r. r.given) is));
  }
