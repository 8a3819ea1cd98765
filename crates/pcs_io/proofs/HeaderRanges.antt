-- The ranges of a header that was read.
use Rattle.std.proofs.Common.{◌≡◌, ℕ, Bool, true, false, cond, List, [], ◌∷◌, Some, Result, Ok, Err, ap, subst, arith, inl, inr, take, drop}
use Rattle.std.specs.Prelude.{nat_le}
use Rattle.std.specs.List.{AllByRecursion}
use Rattle.std.proofs.lemmas.Bool.{cases_Bool, and_parts, leb-true}
use Rattle.pcs_io.specs.Headers.{Field, first_wrong, header_or, fields, fields2, header_of, header2_of, IsInRange}
use Rattle.pcs_io.specs.Captures.{Whole, Short, settled, header_at, is_version2}
use Rattle.pcs_io.specs.declared.header.Header.{Header}
use Rattle.pcs_io.specs.declared.header.BadHeader.{BadHeader}

abbrev pub AreRight : List Field → Type 0
AreRight fs = AllByRecursion (λ f. f.right ≡ true) fs

pub none-wrong : (fs : List Field) (h got : Header) → header_or (first_wrong fs) h ≡ Ok got → AreRight fs × (h ≡ got)
none-wrong [] h got is = (tt, cc)
none-wrong (f ∷ fs) h got is = elim (cases_Bool f.right) [
  | inl right ↦ let rest = none-wrong fs h got (rw right at is) in ((right, rest.0), rest.1)
  | inr wrong ↦ absurd (let bad : header_or (Some f.place) h ≡ Ok got = rw wrong at is in cc)
]

ranged1 : (octets : List ℕ) (got : Header) → header_of octets ≡ Ok got → IsInRange got
unfolding header_of
ranged1 octets got is =
    let right = none-wrong (fields octets) _ got is in
    let both = and_parts _ _ right.0.1.1.1.0 in
    subst IsInRange right.1 (record { least = leb-true _ _ both.0; most = omega (arith, leb-true _ _ both.1); skew = omega arith })

pub ranged2 : (octets : List ℕ) (got : Header) → header2_of octets ≡ Ok got → IsInRange got
unfolding header2_of
ranged2 octets got is =
    let right = none-wrong (fields2 octets) _ got is in
    let both = and_parts _ _ right.0.1.1.1.1.0 in
    subst IsInRange right.1 (record { least = leb-true _ _ both.0; most = leb-true _ _ both.1; skew = leb-true _ _ right.0.1.1.1.1.1.0 })

settled-has : (P : Header → Type 0) (r : Result Header BadHeader) (rest behind : List ℕ) (got : Header) → (r ≡ Ok got → P got)
    → settled r rest ≡ Whole got behind → P got
settled-has P (Ok h) rest behind got has is = let same : h ≡ got = cc in has (ap Ok same)
settled-has P (Err bad) rest behind got has is = absurd (cc)

-- what holds of the headers of both versions holds of one that octets begin with
pub header-has : (P : Header → Type 0) (octets : List ℕ) (got : Header) (behind : List ℕ) → ((front : List ℕ) → header_of front ≡ Ok got → P got)
    → ((front : List ℕ) → header2_of front ≡ Ok got → P got) → header_at octets ≡ Whole got behind → P got
unfolding header_at
header-has P octets got behind first second is = by (nat_le 16 _) (is_version2 octets) (nat_le 32 _) is
  where
    by : (a b c : Bool)
        → cond a (cond b (cond c (settled (header2_of (take 32 octets)) (drop 32 octets)) Short) (settled (header_of (take 16 octets)) (drop 16 octets))) Short ≡ Whole got behind
        → P got
    by false b c is = absurd (cc)
    by true true true is = settled-has P _ _ behind got (second (take 32 octets)) is
    by true true false is = absurd (cc)
    by true false c is = settled-has P _ _ behind got (first (take 16 octets)) is

-- a header that octets begin with is in range
pub header-ranged : (octets : List ℕ) (got : Header) (behind : List ℕ) → header_at octets ≡ Whole got behind → IsInRange got
header-ranged octets got behind is = header-has IsInRange octets got behind (λ front. ranged1 front got) (λ front. ranged2 front got) is
