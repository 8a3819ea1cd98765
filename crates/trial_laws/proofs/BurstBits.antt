-- The bits of a burst, one after the other.
use Rattle.std.proofs.Common.{◌≡◌, ℕ, ◌+◌, ◌*◌, ◌/◌, ◌%◌, ◌^◌, ◌<◌, ◌≤◌, Bool, true, false, List, [], length, get_or, set, refl, sym, ◌∙◌, ap, arith, inl, inr, get_or-set_same, get_or-set_other}
use Rattle.std.proofs.Math.Bool.{and-false}
use Rattle.std.specs.Prelude.{◌&&◌, ◌==◌, ◌≢◌, nat_eq, nat_le, nat_lt, bit_xor}
use Rattle.std.specs.Int.{bit_at}
use Rattle.std.proofs.lemmas.Bool.{cases_eq, cases_lt, eq-eqb, ne_eqb, le-leb, lt-leb, lt-ltb, le-ltb}
use Rattle.std.proofs.lemmas.Nat.Bits.{bit_at-lt}
use Rattle.std.proofs.lemmas.Grind.{get_or-set_at}
use Rattle.bit_lists.specs.Bits.{bit_of}
use Rattle.lane_impair.proofs.SpanFacts.{bit_inverted}

-- a bit of a beat
pub inverted-bit : (octets : List ℕ) (lane place l i : ℕ) → length octets ≡ 16 → lane < 16 → place < 8 → l < 16 → i < 8
    → bit_at (get_or (set octets lane (bit_xor (get_or octets lane 0) (1 * 2 ^ place % 256))) l 0) i
    ≡ (bit_at (get_or octets l 0) i + bit_of (nat_eq lane l && nat_eq place i)) % 2
inverted-bit octets lane place l i size low small within few =
    let there : lane < length octets = omega (arith, size, low) in
    elim (cases_eq l lane) [
      | inl same ↦
          rw (same, eq-eqb lane lane refl, get_or-set_same octets lane (bit_xor (get_or octets lane 0) (1 * 2 ^ place % 256)) 0 there)
          (bit_inverted (get_or octets lane 0) place i small few)
      | inr other ↦
          let apart : lane ≢ l = λ e. other (sym e) in
          rw (ne_eqb lane l apart, get_or-set_other octets lane l (bit_xor (get_or octets lane 0) (1 * 2 ^ place % 256)) 0 other)
          (omega (arith, bit_at-lt (get_or octets l 0) i))
    ]

-- one more place
one-place : (l lane first m n : ℕ) → first ≤ n
    → bit_of (l == lane && (nat_le first m && nat_lt m (n + 1))) ≡ bit_of (l == lane && (nat_le first m && nat_lt m n)) + bit_of (nat_eq lane l && nat_eq n m)
one-place l lane first m n low = elim (cases_eq l lane) [
  | inr other ↦ let apart : lane ≢ l = λ e. other (sym e) in rw (ne_eqb l lane other, ne_eqb lane l apart) refl
  | inl same ↦ elim (cases_lt m n) [
    | inl before ↦
        rw (eq-eqb l lane same, eq-eqb lane l (sym same), lt-ltb m (n + 1) (omega (arith, before)), lt-ltb m n before, ne_eqb n m (λ e. omega (arith, e, before)))
        (omega arith)
    | inr since ↦ elim (cases_eq n m) [
      | inl at ↦
          rw (eq-eqb l lane same, eq-eqb lane l (sym same), lt-ltb m (n + 1) (omega (arith, at)), le-ltb m n since, le-leb first m (omega (arith, low, at)), eq-eqb n m at)
          refl
      | inr off ↦
          rw (eq-eqb l lane same, eq-eqb lane l (sym same), le-ltb m (n + 1) (omega (arith, since, off)), le-ltb m n since, ne_eqb n m off) (omega arith)
    ]
  ]
]

-- a bit of the pair, where one bit of a beat is inverted
pub one-bit : (old pair : List (List ℕ)) (row : List ℕ) (l lane first m n : ℕ) → first ≤ n → length pair ≡ 85 → n < 680 → l < 16
    → bit_at (get_or (get_or pair (m / 8) []) l 0) (m % 8)
    ≡ (bit_at (get_or (get_or old (m / 8) []) l 0) (m % 8) + bit_of (l == lane && (nat_le first m && nat_lt m n))) % 2
    → ((i : ℕ) → i < 8 → bit_at (get_or row l 0) i ≡ (bit_at (get_or (get_or pair (n / 8) []) l 0) i + bit_of (nat_eq lane l && nat_eq (n % 8) i)) % 2)
    → bit_at (get_or (get_or (set pair (n / 8) row) (m / 8) []) l 0) (m % 8)
    ≡ (bit_at (get_or (get_or old (m / 8) []) l 0) (m % 8) + bit_of (l == lane && (nat_le first m && nat_lt m (n + 1)))) % 2
one-bit old pair row l lane first m n low long few within before inverts = elim (cases_eq (m / 8) (n / 8)) [
  | inl same ↦
      let here = ap (λ r. bit_at (get_or r l 0) (m % 8)) (get_or-set_at pair (n / 8) (m / 8) row [] same (omega (arith, few, long))) in
      let old_row : bit_at (get_or (get_or pair (n / 8) []) l 0) (m % 8) ≡ bit_at (get_or (get_or pair (m / 8) []) l 0) (m % 8) =
      ap (λ q. bit_at (get_or (get_or pair q []) l 0) (m % 8)) (sym same) in
      let places : nat_eq (n % 8) (m % 8) ≡ nat_eq n m = elim (cases_eq n m) [
        | inl at ↦ eq-eqb (n % 8) (m % 8) (ap (λ k. k % 8) at) ∙ sym (eq-eqb n m at)
        | inr off ↦ ne_eqb (n % 8) (m % 8) (λ e. off (omega (arith, same, e))) ∙ sym (ne_eqb n m off)
      ] in
      let bits = here ∙ inverts (m % 8) (omega arith) ∙ ap (λ b. (bit_at (get_or (get_or pair (n / 8) []) l 0) (m % 8) + bit_of (nat_eq lane l && b)) % 2) places in
      omega (arith, bits, old_row, before, one-place l lane first m n low)
  | inr other ↦
      let here = ap (λ r. bit_at (get_or r l 0) (m % 8)) (get_or-set_other pair (n / 8) (m / 8) row [] other) in
      let off : n ≢ m = λ e. other (ap (λ k. k / 8) (sym e)) in
      let none : bit_of (nat_eq lane l && nat_eq n m) ≡ 0 = ap (λ b. bit_of (nat_eq lane l && b)) (ne_eqb n m off) ∙ no-bit (nat_eq lane l) in
      omega (arith, here, before, none, one-place l lane first m n low)
]
  where
    no-bit : (b : Bool) → bit_of (b && false) ≡ 0
    no-bit true = refl
    no-bit false = refl

-- nothing is inverted yet
pub no-place : (bit l lane first m : ℕ) → bit < 2 → bit ≡ (bit + bit_of (l == lane && (nat_le first m && nat_lt m first))) % 2
no-place bit l lane first m low = elim (cases_lt m first) [
  | inl before ↦
      rw (lt-leb first m before) (omega (arith, low, ap bit_of (and-false (l == lane))))
  | inr since ↦
      rw (le-ltb m first since) (omega (arith, low, ap bit_of (ap (λ b. l == lane && b) (and-false (nat_le first m)) ∙ and-false (l == lane))))
]
