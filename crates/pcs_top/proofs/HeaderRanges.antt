-- A header that was read can be written again.
use Rattle.std.proofs.Common.{◌≡◌, ℕ, List, Ok, refl, sym, ap, subst, arith}
use Rattle.std.proofs.lemmas.Bool.{and_parts, leb-true}
use Rattle.pcs_io.specs.Headers.{fields, fields2, header_of, header2_of, IsHeader}
use Rattle.pcs_io.specs.Captures.{Whole, header_at}
use Rattle.pcs_io.specs.declared.header.Header.{Header}
use Rattle.pcs_io.proofs.HeaderRanges.{none-wrong, ranged2, header-has}
use Rattle.pcs_top.specs.Giving.{IsRead}

-- a header of version 1 or 2
read1 : (octets : List ℕ) (got : Header) → header_of octets ≡ Ok got → IsRead got
unfolding header_of
read1 octets got is =
    let right = none-wrong (fields octets) _ got is in
    let both = and_parts _ _ right.0.1.1.1.0 in
    let written : IsHeader got = subst IsHeader right.1 (record { version = refl; least = leb-true _ _ both.0; most = leb-true _ _ both.1; skew = refl }) in
    record { first = λ one. written; second = λ other. absurd (other written.version) }

read2 : (octets : List ℕ) (got : Header) → header2_of octets ≡ Ok got → IsRead got
unfolding header2_of
read2 octets got is =
    let ranged = ranged2 octets got is in
    let version : got.version ≡ 2 = ap (λ h. h.version) (sym (none-wrong (fields2 octets) _ got is).1) in
    record {
      first = λ one. absurd (omega (arith, one, version));
      second = λ other. record { version = version; least = ranged.least; most = ranged.most; skew = ranged.skew };
    }

pub header-read : (octets : List ℕ) (got : Header) (behind : List ℕ) → header_at octets ≡ Whole got behind → IsRead got
header-read octets got behind is = header-has IsRead octets got behind (λ front. read1 front got) (λ front. read2 front got) is
