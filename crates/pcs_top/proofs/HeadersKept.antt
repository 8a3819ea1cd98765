-- The octets of a header that was read are those that are written of it.
use Rattle.std.proofs.Common.{◌≡◌, ℕ, ◌+◌, ◌*◌, ◌/◌, ◌%◌, ◌<◌, Bool, true, false, cond, List, [], ◌∷◌, ◌++◌, length, take, drop, Result, Ok, Err, refl, sym, ◌∙◌, ap, subst, arith, inl, inr, append-nil, length-take}
use Rattle.std.specs.Prelude.{nat_le, bytes_eq, slice_index}
use Rattle.std.specs.List.{flat_map}
use Rattle.std.proofs.lemmas.Bool.{eqb-true, leb-true, cases_lt}
use Rattle.std.proofs.lemmas.List.{take-append-drop, get_or-take, get_or_past, nil_from_length}
use Rattle.std.proofs.lemmas.Slice.Eq.{bytes_eq-Decides}
use Rattle.bit_lists.specs.Places.{for_each}
use Rattle.bit_lists.proofs.ByPlaces.{by_places}
use Rattle.pcs_io.specs.Headers.{fields, fields2, header_of, header2_of, header_octets, header2_octets, period_of, period2_of, skew2_of}
use Rattle.pcs_io.specs.declared.header.Header.{Header}
use Rattle.pcs_io.specs.Captures.{Whole, Short, settled, header_at, is_version2}
use Rattle.pcs_io.specs.declared.header.BadHeader.{BadHeader}
use Rattle.pcs_io.proofs.BeatPieces.{pieces-parts}
use Rattle.pcs_top.specs.Impairing.{header_octets_of}
use Rattle.block66.specs.Blocks.{AreOctets}
use Rattle.pcs_top.specs.Laws.{HeadersAreKept}
use Rattle.pcs_io.proofs.HeaderRanges.{AreRight, none-wrong}

bytes-are : (xs ys : List ℕ) → bytes_eq xs ys ≡ true → xs ≡ ys
bytes-are xs ys same = (bytes_eq-Decides xs ys).0 same

written1 : (a b c d v l p q z0 z1 z2 z3 z4 z5 z6 z7 : ℕ) → p < 256 → q < 256
    → AreRight (fields (a ∷ b ∷ c ∷ d ∷ v ∷ l ∷ p ∷ q ∷ z0 ∷ z1 ∷ z2 ∷ z3 ∷ z4 ∷ z5 ∷ z6 ∷ z7 ∷ []))
    → (a ∷ b ∷ c ∷ d ∷ v ∷ l ∷ p ∷ q ∷ z0 ∷ z1 ∷ z2 ∷ z3 ∷ z4 ∷ z5 ∷ z6 ∷ z7 ∷ [])
    ≡ header_octets (period_of (a ∷ b ∷ c ∷ d ∷ v ∷ l ∷ p ∷ q ∷ z0 ∷ z1 ∷ z2 ∷ z3 ∷ z4 ∷ z5 ∷ z6 ∷ z7 ∷ []))
written1 a b c d v l p q z0 z1 z2 z3 z4 z5 z6 z7 low high right =
    let magic : (a ∷ b ∷ c ∷ d ∷ []) ≡ (80 ∷ 52 ∷ 76 ∷ 67 ∷ []) = bytes-are _ _ right.0 in
    let version : v ≡ 1 = eqb-true v 1 right.1.0 in
    let lanes : l ≡ 16 = eqb-true l 16 right.1.1.0 in
    let zeros : (z0 ∷ z1 ∷ z2 ∷ z3 ∷ z4 ∷ z5 ∷ z6 ∷ z7 ∷ []) ≡ (0 ∷ 0 ∷ 0 ∷ 0 ∷ 0 ∷ 0 ∷ 0 ∷ 0 ∷ []) = bytes-are _ _ right.1.1.1.1.0 in
    let first : p ≡ (p * 256 + (q * 1 + 0)) / 256 % 256 = omega (arith, low, high) in
    let second : q ≡ (p * 256 + (q * 1 + 0)) % 256 = omega (arith, low, high) in
    cc

-- the octets of a number of four octets
four : (p0 p1 p2 p3 : ℕ) → p0 < 256 → p1 < 256 → p2 < 256 → p3 < 256
    → (p0 ≡ (p0 * 16777216 + (p1 * 65536 + (p2 * 256 + (p3 * 1 + 0)))) / 16777216 % 256) × (p1 ≡ (p0 * 16777216 + (p1 * 65536 + (p2 * 256 + (p3 * 1 + 0)))) / 65536 % 256)
    × (p2 ≡ (p0 * 16777216 + (p1 * 65536 + (p2 * 256 + (p3 * 1 + 0)))) / 256 % 256) × (p3 ≡ (p0 * 16777216 + (p1 * 65536 + (p2 * 256 + (p3 * 1 + 0)))) % 256)
four p0 p1 p2 p3 a b c d = (omega (arith, a, b, c, d), omega (arith, a, b, c, d), omega (arith, a, b, c, d), omega (arith, a, b, c, d))

written2 : (a b c d v l y z p0 p1 p2 p3 s0 s1 s2 s3 n0 n1 n2 n3 n4 n5 n6 n7 n8 n9 n10 n11 n12 n13 n14 n15 : ℕ)
    → p0 < 256 → p1 < 256 → p2 < 256 → p3 < 256 → s0 < 256 → s1 < 256 → s2 < 256 → s3 < 256
    → AreRight (fields2 (a ∷ b ∷ c ∷ d ∷ v ∷ l ∷ y ∷ z ∷ p0 ∷ p1 ∷ p2 ∷ p3 ∷ s0 ∷ s1 ∷ s2 ∷ s3 ∷ n0 ∷ n1 ∷ n2 ∷ n3 ∷ n4 ∷ n5 ∷ n6 ∷ n7 ∷ n8 ∷ n9 ∷ n10 ∷ n11 ∷ n12 ∷ n13 ∷ n14 ∷ n15 ∷ []))
    → (a ∷ b ∷ c ∷ d ∷ v ∷ l ∷ y ∷ z ∷ p0 ∷ p1 ∷ p2 ∷ p3 ∷ s0 ∷ s1 ∷ s2 ∷ s3 ∷ n0 ∷ n1 ∷ n2 ∷ n3 ∷ n4 ∷ n5 ∷ n6 ∷ n7 ∷ n8 ∷ n9 ∷ n10 ∷ n11 ∷ n12 ∷ n13 ∷ n14 ∷ n15 ∷ [])
    ≡ header2_octets (period2_of (a ∷ b ∷ c ∷ d ∷ v ∷ l ∷ y ∷ z ∷ p0 ∷ p1 ∷ p2 ∷ p3 ∷ s0 ∷ s1 ∷ s2 ∷ s3 ∷ n0 ∷ n1 ∷ n2 ∷ n3 ∷ n4 ∷ n5 ∷ n6 ∷ n7 ∷ n8 ∷ n9 ∷ n10 ∷ n11 ∷ n12 ∷ n13 ∷ n14 ∷ n15 ∷ []))
    (skew2_of (a ∷ b ∷ c ∷ d ∷ v ∷ l ∷ y ∷ z ∷ p0 ∷ p1 ∷ p2 ∷ p3 ∷ s0 ∷ s1 ∷ s2 ∷ s3 ∷ n0 ∷ n1 ∷ n2 ∷ n3 ∷ n4 ∷ n5 ∷ n6 ∷ n7 ∷ n8 ∷ n9 ∷ n10 ∷ n11 ∷ n12 ∷ n13 ∷ n14 ∷ n15 ∷ []))
written2 a b c d v l y z p0 p1 p2 p3 s0 s1 s2 s3 n0 n1 n2 n3 n4 n5 n6 n7 n8 n9 n10 n11 n12 n13 n14 n15 e0 e1 e2 e3 f0 f1 f2 f3 right =
    let magic : (a ∷ b ∷ c ∷ d ∷ []) ≡ (80 ∷ 52 ∷ 76 ∷ 67 ∷ []) = bytes-are _ _ right.0 in
    let version : v ≡ 2 = eqb-true v 2 right.1.0 in
    let lanes : l ≡ 16 = eqb-true l 16 right.1.1.0 in
    let gap : (y ∷ z ∷ []) ≡ (0 ∷ 0 ∷ []) = bytes-are _ _ right.1.1.1.0 in
    let zeros : (n0 ∷ n1 ∷ n2 ∷ n3 ∷ n4 ∷ n5 ∷ n6 ∷ n7 ∷ n8 ∷ n9 ∷ n10 ∷ n11 ∷ n12 ∷ n13 ∷ n14 ∷ n15 ∷ []) ≡ (0 ∷ 0 ∷ 0 ∷ 0 ∷ 0 ∷ 0 ∷ 0 ∷ 0 ∷ 0 ∷ 0 ∷ 0 ∷ 0 ∷ 0 ∷ 0 ∷ 0 ∷ 0 ∷ []) = bytes-are _ _ right.1.1.1.1.1.1.0 in
    let period = four p0 p1 p2 p3 e0 e1 e2 e3 in
    let skew = four s0 s1 s2 s3 f0 f1 f2 f3 in
    let p_0 : p0 ≡ (p0 * 16777216 + (p1 * 65536 + (p2 * 256 + (p3 * 1 + 0)))) / 16777216 % 256 = period.0 in
    let p_1 : p1 ≡ (p0 * 16777216 + (p1 * 65536 + (p2 * 256 + (p3 * 1 + 0)))) / 65536 % 256 = period.1 in
    let p_2 : p2 ≡ (p0 * 16777216 + (p1 * 65536 + (p2 * 256 + (p3 * 1 + 0)))) / 256 % 256 = period.2 in
    let p_3 : p3 ≡ (p0 * 16777216 + (p1 * 65536 + (p2 * 256 + (p3 * 1 + 0)))) % 256 = period.3 in
    let s_0 : s0 ≡ (s0 * 16777216 + (s1 * 65536 + (s2 * 256 + (s3 * 1 + 0)))) / 16777216 % 256 = skew.0 in
    let s_1 : s1 ≡ (s0 * 16777216 + (s1 * 65536 + (s2 * 256 + (s3 * 1 + 0)))) / 65536 % 256 = skew.1 in
    let s_2 : s2 ≡ (s0 * 16777216 + (s1 * 65536 + (s2 * 256 + (s3 * 1 + 0)))) / 256 % 256 = skew.2 in
    let s_3 : s3 ≡ (s0 * 16777216 + (s1 * 65536 + (s2 * 256 + (s3 * 1 + 0)))) % 256 = skew.3 in
    cc

abbrev at : List ℕ → ℕ → ℕ
at xs i = slice_index xs i

-- a list of so many items, by its items
sixteen : (xs : List ℕ) → length xs ≡ 16 → xs ≡ for_each 16 (at xs)
sixteen xs long = by_places 16 (at xs) xs 0 long (λ k low. refl)

thirty_two : (xs : List ℕ) → length xs ≡ 32 → xs ≡ for_each 32 (at xs)
thirty_two xs long = by_places 32 (at xs) xs 0 long (λ k low. refl)

-- the octets of a header of version 1 or 2
kept1 : (xs : List ℕ) (got : Header) → AreOctets xs → length xs ≡ 16 → header_of xs ≡ Ok got → xs ≡ header_octets_of got
unfolding header_of for_each
kept1 xs got small long is =
    let wrong = none-wrong (fields xs) _ got is in
    let all = sixteen xs long in
    let right = subst (λ ys. AreRight (fields ys)) all wrong.0 in
    let same = written1 (at xs 0) (at xs 1) (at xs 2) (at xs 3) (at xs 4) (at xs 5) (at xs 6) (at xs 7) (at xs 8) (at xs 9) (at xs 10) (at xs 11) (at xs 12) (at xs 13) (at xs 14) (at xs 15) (small 6) (small 7) right in
    let whole : xs ≡ header_octets (period_of xs) = all ∙ same ∙ ap (λ ys. header_octets (period_of ys)) (sym all) in
    whole ∙ ap header_octets_of wrong.1

kept2 : (xs : List ℕ) (got : Header) → AreOctets xs → length xs ≡ 32 → header2_of xs ≡ Ok got → xs ≡ header_octets_of got
unfolding header2_of for_each
kept2 xs got small long is =
    let wrong = none-wrong (fields2 xs) _ got is in
    let all = thirty_two xs long in
    let right = subst (λ ys. AreRight (fields2 ys)) all wrong.0 in
    let same = written2 (at xs 0) (at xs 1) (at xs 2) (at xs 3) (at xs 4) (at xs 5) (at xs 6) (at xs 7) (at xs 8) (at xs 9) (at xs 10) (at xs 11) (at xs 12) (at xs 13) (at xs 14) (at xs 15) (at xs 16) (at xs 17) (at xs 18) (at xs 19) (at xs 20) (at xs 21) (at xs 22) (at xs 23) (at xs 24) (at xs 25) (at xs 26) (at xs 27) (at xs 28) (at xs 29) (at xs 30) (at xs 31) (small 8) (small 9) (small 10) (small 11) (small 12) (small 13) (small 14) (small 15) right in
    let whole : xs ≡ header2_octets (period2_of xs) (skew2_of xs) = all ∙ same ∙ ap (λ ys. header2_octets (period2_of ys) (skew2_of ys)) (sym all) in
    whole ∙ ap header_octets_of wrong.1

settled-kept : (r : Result Header BadHeader) (front rest behind : List ℕ) (got : Header) → ((h : Header) → r ≡ Ok h → front ≡ header_octets_of h)
    → settled r rest ≡ Whole got behind → front ++ rest ≡ header_octets_of got ++ behind
settled-kept (Ok h) front rest behind got kept is =
    let header : h ≡ got = cc in
    let after : rest ≡ behind = cc in
    ap (λ f. f ++ rest) (kept h refl ∙ ap header_octets_of header) ∙ ap (λ r. header_octets_of got ++ r) after
settled-kept (Err bad) front rest behind got kept is = absurd (cc)

front-small : (n : ℕ) (octets : List ℕ) → AreOctets octets → AreOctets (take n octets)
front-small n octets small i = elim (cases_lt i n) [
  | inl low ↦ omega (arith, get_or-take n octets i 0 low, small i)
  | inr high ↦ omega (arith, get_or_past (take n octets) i 0 (omega (arith, length-take n octets, high)))
]

header-kept : (octets : List ℕ) (got : Header) (behind : List ℕ) → AreOctets octets → header_at octets ≡ Whole got behind → octets ≡ header_octets_of got ++ behind
unfolding header_at
header-kept octets got behind small is = by (nat_le 16 _) (is_version2 octets) (nat_le 32 _) refl refl is
  where
    by : (a b c : Bool) → nat_le 16 (length octets) ≡ a → nat_le 32 (length octets) ≡ c
        → cond a (cond b (cond c (settled (header2_of (take 32 octets)) (drop 32 octets)) Short) (settled (header_of (take 16 octets)) (drop 16 octets))) Short ≡ Whole got behind
        → octets ≡ header_octets_of got ++ behind
    by false b c long longer is = absurd (cc)
    by true true true long longer is =
        sym (take-append-drop 32 octets)
        ∙ settled-kept _ (take 32 octets) (drop 32 octets) behind got
        (λ h. kept2 (take 32 octets) h (front-small 32 octets small) (omega (arith, length-take 32 octets, leb-true 32 (length octets) longer))) is
    by true true false long longer is = absurd (cc)
    by true false c long longer is =
        sym (take-append-drop 16 octets)
        ∙ settled-kept _ (take 16 octets) (drop 16 octets) behind got
        (λ h. kept1 (take 16 octets) h (front-small 16 octets small) (omega (arith, length-take 16 octets, leb-true 16 (length octets) long))) is

-- the octets of a capture of whole beats
pub headers-kept : HeadersAreKept
headers-kept octets header beats small opens =
    let rest = opens.0 in
    let (behind, is, begins) = opens.1 in
    let none : rest ≡ [] = nil_from_length rest opens.2 in
    header-kept octets header behind small is
    ∙ ap (λ o. header_octets_of header ++ o) (pieces-parts behind beats rest begins ∙ ap (λ o. flat_map (λ beat. beat) beats ++ o) none ∙ append-nil (flat_map (λ beat. beat) beats))
