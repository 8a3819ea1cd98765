-- Octets of which no field is wrong.
use Rattle.std.proofs.Common.{◌≡◌, ℕ, ◌≤◌, List, None, take, replicate, refl, ap, Ok}
use Rattle.std.specs.Prelude.{bytes_eq, codes, slice_range, slice_index, ◌&&◌, Bool, true, nat_le}
use Rattle.std.proofs.lemmas.Bool.{le-leb, eq-eqb}
use Rattle.pcs_io.specs.Headers.{header2_of, header_or, period2_of, skew2_of, most_skew, first_wrong, fields2}

both : (a b : Bool) → a ≡ true → b ≡ true → (a && b) ≡ true
both a b s t = rw (s, t) refl

pub in_range : (least n most : ℕ) → least ≤ n → n ≤ most → (nat_le least n && nat_le n most) ≡ true
in_range least n most low high = both _ _ (le-leb least n low) (le-leb n most high)

pub header2_right : (octets : List ℕ) → bytes_eq (take 4 octets) (codes "P4LC") ≡ true → slice_index octets 4 ≡ 2 → slice_index octets 5 ≡ 16
    → bytes_eq (slice_range octets 6 8) (replicate 2 0) ≡ true
    → 1 ≤ period2_of octets → period2_of octets ≤ 65536 → skew2_of octets ≤ most_skew (period2_of octets)
    → bytes_eq (slice_range octets 16 32) (replicate 16 0) ≡ true
    → header2_of octets ≡ Ok (record { version = 2; period = period2_of octets; skew = skew2_of octets })
unfolding header2_of
header2_right octets magic version lanes zeros least most skew rest =
    let none : first_wrong (fields2 octets) ≡ None =
    rw (
      magic,
      eq-eqb (slice_index octets 4) 2 version,
      eq-eqb (slice_index octets 5) 16 lanes,
      zeros,
      in_range 1 (period2_of octets) 65536 least most,
      le-leb (skew2_of octets) (most_skew (period2_of octets)) skew,
      rest,
    ) refl in
    ap (λ wrong. header_or wrong (record { version = 2; period = period2_of octets; skew = skew2_of octets })) none
