-- Headers that were written are read back.
use Rattle.std.proofs.Common.{◌≡◌, ℕ, ◌≤◌, Bool, true, false, List, ◌++◌, take, drop, replicate, None, Ok, refl, sym, ◌∙◌, ap, ap₂, subst, arith}
use Rattle.std.specs.Prelude.{◌==◌, nat_le, bytes_eq, codes, slice_range, slice_index}
use Rattle.std.proofs.lemmas.Bool.{le-leb, eq-eqb}
use Rattle.pcs_io.specs.Headers.{header2_of, header2_octets, header_or, first_wrong, most_skew, period2_of, skew2_of, AreInRange, IsHeader2}
use Rattle.pcs_io.specs.LevelsHeaders.{levels_header_octets, levels_fields, levels_header_of}
use Rattle.pcs_io.specs.Captures.{settled, header_at, levels_header_at, Whole}
use Rattle.pcs_io.specs.declared.header.Header.{Header}
use Rattle.pcs_io.specs.declared.levels_header.LevelsHeader.{LevelsHeader}
use Rattle.pcs_io.proofs.Headers.{header2_right, in_range}
use Rattle.pcs_io.proofs.HeaderReading.{header2-is, levels-is}

same-period : (period skew : ℕ) → period ≤ 65536 → period2_of (header2_octets period skew) ≡ period
same-period period skew most = omega (arith, most)

same-skew : (period skew : ℕ) → skew ≤ 100000 → skew2_of (header2_octets period skew) ≡ skew
same-skew period skew most = omega (arith, most)

pub header2-back : (h : Header) → IsHeader2 h → header2_of (header2_octets h.period h.skew) ≡ Ok h
header2-back h is =
    let period = same-period h.period h.skew is.most in
    let skew = same-skew h.period h.skew (omega (arith, is.skew)) in
    header2_right (header2_octets h.period h.skew) refl refl refl refl
    (omega (arith, period, is.least)) (omega (arith, period, is.most)) (rw (period, skew) is.skew) refl
    ∙ ap₂ (λ p s. Ok (record { version = 2; period = p; skew = s })) period skew
    ∙ ap (λ v. Ok (record { version = v; period = h.period; skew = h.skew })) (sym is.version)

-- whatever follows it
pub header2-at : (h : Header) (rest : List ℕ) → IsHeader2 h → header_at (header2_octets h.period h.skew ++ rest) ≡ Whole h rest
header2-at h rest is =
    let octets = header2_octets h.period h.skew in
    let whole : take 16 octets ++ drop 16 octets ≡ octets = refl in
    subst (λ o. header_at (o ++ rest) ≡ settled (header2_of o) rest) whole (header2-is (take 16 octets) (drop 16 octets) rest refl refl refl)
    ∙ ap (λ r. settled r rest) (header2-back h is)

levels_right : (octets : List ℕ) → bytes_eq (take 4 octets) (codes "P4LV") ≡ true → slice_index octets 4 ≡ 1 → slice_index octets 5 ≡ 8
    → nat_le (slice_index octets 6) 1 ≡ true → slice_index octets 7 ≡ 0
    → 1 ≤ period2_of octets → period2_of octets ≤ 65536 → skew2_of octets ≤ most_skew (period2_of octets)
    → bytes_eq (slice_range octets 16 32) (replicate 16 0) ≡ true
    → levels_header_of octets ≡ Ok (record { precode = slice_index octets 6 == 1; period = period2_of octets; skew = skew2_of octets })
unfolding levels_header_of
levels_right octets magic version lanes precode zero least most skew rest =
    let none : first_wrong (levels_fields octets) ≡ None =
    rw (
      magic,
      eq-eqb (slice_index octets 4) 1 version,
      eq-eqb (slice_index octets 5) 8 lanes,
      precode,
      eq-eqb (slice_index octets 7) 0 zero,
      in_range 1 (period2_of octets) 65536 least most,
      le-leb (skew2_of octets) (most_skew (period2_of octets)) skew,
      rest,
    ) refl in
    ap (λ wrong. header_or wrong (record { precode = slice_index octets 6 == 1; period = period2_of octets; skew = skew2_of octets })) none

same-levels-period : (precode : Bool) (period skew : ℕ) → period ≤ 65536 → period2_of (levels_header_octets precode period skew) ≡ period
same-levels-period precode period skew most = omega (arith, most)

same-levels-skew : (precode : Bool) (period skew : ℕ) → skew ≤ 100000 → skew2_of (levels_header_octets precode period skew) ≡ skew
same-levels-skew precode period skew most = omega (arith, most)

levels-back : (precode : Bool) (period skew : ℕ) → AreInRange period skew
    → levels_header_of (levels_header_octets precode period skew) ≡ Ok (record { precode = precode; period = period; skew = skew })
levels-back precode period skew is =
    let octets = levels_header_octets precode period skew in
    let same_period = same-levels-period precode period skew is.most in
    let same_skew = same-levels-skew precode period skew (omega (arith, is.skew)) in
    levels_right octets refl refl refl (flag precode).0 refl
    (omega (arith, same_period, is.least)) (omega (arith, same_period, is.most)) (rw (same_period, same_skew) is.skew) refl
    ∙ ap₂ (λ p s. Ok (record { precode = slice_index octets 6 == 1; period = p; skew = s })) same_period same_skew
    ∙ ap (λ c. Ok (record { precode = c; period = period; skew = skew })) (flag precode).1
  where
    flag : (p : Bool) → (nat_le (slice_index (levels_header_octets p period skew) 6) 1 ≡ true) × ((slice_index (levels_header_octets p period skew) 6 == 1) ≡ p)
    flag true = (refl, refl)
    flag false = (refl, refl)

-- the header of a file of levels that was written is read back, whatever follows it
pub levels-at : (h : LevelsHeader) (rest : List ℕ) → AreInRange h.period h.skew
    → levels_header_at (levels_header_octets h.precode h.period h.skew ++ rest) ≡ Whole h rest
levels-at h rest is =
    let octets = levels_header_octets h.precode h.period h.skew in
    let whole : take 16 octets ++ drop 16 octets ≡ octets = refl in
    subst (λ o. levels_header_at (o ++ rest) ≡ settled (levels_header_of o) rest) whole (levels-is (take 16 octets) (drop 16 octets) rest refl refl)
    ∙ ap (λ r. settled r rest) (levels-back h.precode h.period h.skew is)
