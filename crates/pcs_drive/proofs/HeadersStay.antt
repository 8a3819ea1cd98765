-- What some octets begin with stays so, whatever follows.
use Rattle.std.proofs.Common.{◌≡◌, ℕ, ◌≤◌, Bool, true, false, cond, List, ◌++◌, length, take, drop, Result, Ok, Err, sym, ap, subst, refl, length-append, arith, inl, inr}
use Rattle.std.specs.Prelude.{nat_le}
use Rattle.std.proofs.lemmas.Bool.{cases_lt, le-leb, lt-leb, leb-true}
use Rattle.std.proofs.lemmas.List.{take-append-le, drop-append-le}
use Rattle.pcs_io.specs.Headers.{header_of, header2_of}
use Rattle.pcs_io.specs.LevelsHeaders.{levels_header_of}
use Rattle.pcs_io.specs.Captures.{FrontAt, Whole, Wrong, Short, settled, is_version2, header_at, levels_header_at}
use Rattle.pcs_io.specs.declared.header.Header.{Header}
use Rattle.pcs_io.specs.declared.header.BadHeader.{BadHeader as Refusal}

-- more octets change nothing of a header, or of its refusal
abbrev pub IsKept : {X : Type 0} → FrontAt X → FrontAt X → List ℕ → Type 0
IsKept (Whole header rest) later more = later ≡ Whole header (rest ++ more)
IsKept (Wrong bad) later more = later ≡ Wrong bad
IsKept Short later more = Unit {0}

-- what every kind of header meets
abbrev pub Stays : {X : Type 0} → (List ℕ → FrontAt X) → Type 0
Stays at = (octets more : List ℕ) → IsKept (at octets) (at (octets ++ more)) more

pub wrong-more : {X : Type 0} (at : List ℕ → FrontAt X) (octets more : List ℕ) (bad : Refusal) → Stays at → at octets ≡ Wrong bad → at (octets ++ more) ≡ Wrong bad
wrong-more at octets more bad stays is = subst (λ now. IsKept now (at (octets ++ more)) more) is (stays octets more)

pub whole-more : {X : Type 0} (at : List ℕ → FrontAt X) (octets more : List ℕ) (header : X) (rest : List ℕ) → Stays at → at octets ≡ Whole header rest
    → at (octets ++ more) ≡ Whole header (rest ++ more)
whole-more at octets more header rest stays is = subst (λ now. IsKept now (at (octets ++ more)) more) is (stays octets more)

kept : {X : Type 0} (r other : Result X Refusal) (rest later more : List ℕ) → r ≡ other → later ≡ rest ++ more → IsKept (settled r rest) (settled other later) more
kept (Ok header) other rest later more same is = subst (λ r. settled r later ≡ Whole header (rest ++ more)) same (ap (λ l. Whole header l) is)
kept (Err bad) other rest later more same is = subst (λ r. settled r later ≡ Wrong bad) same refl

pub header-stays : Stays header_at
unfolding header_at
header-stays octets more = elim (cases_lt (length octets) 16) [
  | inl low ↦ rw (lt-leb 16 (length octets) low) tt
  | inr high ↦
      let one : nat_le 16 (length octets) ≡ true = le-leb 16 (length octets) (omega (arith, high)) in
      let long : nat_le 16 (length (octets ++ more)) ≡ true = le-leb 16 (length (octets ++ more)) (omega (arith, high, length-append octets more)) in
      let five : take 5 (octets ++ more) ≡ take 5 octets = take-append-le 5 octets more (omega (arith, high)) in
      let sixteen : take 16 (octets ++ more) ≡ take 16 octets = take-append-le 16 octets more (omega (arith, high)) in
      rw (one, long, five, sixteen)
      (by (is_version2 octets) (nat_le 32 (length octets)) (nat_le 32 (length (octets ++ more)))
      (header2_of (take 32 octets)) (header2_of (take 32 (octets ++ more))) (header_of (take 16 octets))
      (drop 32 octets) (drop 16 octets) (drop 32 (octets ++ more)) (drop 16 (octets ++ more)) (drop-append-le 16 octets more (omega (arith, high)))
      (λ whole.
      let enough : 32 ≤ length octets = leb-true 32 (length octets) whole in
      (le-leb 32 (length (octets ++ more)) (omega (arith, enough, length-append octets more)), ap header2_of (sym (take-append-le 32 octets more enough)), drop-append-le 32 octets more enough)))
]
  where
    by : (version2 short long : Bool) (second other : Result Header Refusal) (first : Result Header Refusal) (a b c d : List ℕ) → d ≡ b ++ more
        → (short ≡ true → (long ≡ true) × (second ≡ other) × (c ≡ a ++ more))
        → IsKept (cond version2 (cond short (settled second a) Short) (settled first b)) (cond version2 (cond long (settled other c) Short) (settled first d)) more
    by true false long second other first a b c d is follows = tt
    by true true long second other first a b c d is follows =
        let told = follows refl in
        subst (λ l. IsKept (settled second a) (cond l (settled other c) Short) more) (sym told.0) (kept second other a c more told.1 told.2)
    by false short long second other first a b c d is follows = kept first first b d more refl is

pub levels-stay : Stays levels_header_at
unfolding levels_header_at
levels-stay octets more = elim (cases_lt (length octets) 32) [
  | inl low ↦ rw (lt-leb 32 (length octets) low) tt
  | inr high ↦
      let one : nat_le 32 (length octets) ≡ true = le-leb 32 (length octets) (omega (arith, high)) in
      let long : nat_le 32 (length (octets ++ more)) ≡ true = le-leb 32 (length (octets ++ more)) (omega (arith, high, length-append octets more)) in
      rw (one, long)
      (kept (levels_header_of (take 32 octets)) (levels_header_of (take 32 (octets ++ more))) (drop 32 octets) (drop 32 (octets ++ more)) more
      (ap levels_header_of (sym (take-append-le 32 octets more (omega (arith, high))))) (drop-append-le 32 octets more (omega (arith, high))))
]
