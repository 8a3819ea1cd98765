-- Digits that are decoded by groups.
use Rattle.std.proofs.Common.{◌≡◌, ℕ, zero, suc, ◌+◌, ◌*◌, ◌%◌, ◌<◌, ◌≤◌, List, [], ◌∷◌, ◌++◌, length, take, drop, get_or, Option, Some, None, Result, Ok, Err, true, false, Bool, refl, sym, ap, ◌∙◌, arith, unwrap_or, if◌then◌else◌, ◌&&◌, ◌==◌, length-take, length-drop, ◌-◌}
use Rattle.std.proofs.lemmas.Bool.Decides.{nat_tests}
use Rattle.hex.specs.Hex.{decode_of, decode_pairs, pair_value, value_at, digit_or_error, hex_digit_value, ◌>>=◌}
use Rattle.hex.specs.declared.error.FromHexError.{FromHexError}
use Rattle.hex.proofs.Pairs.{cons_byte, decode_pairs-ok_pair}
use Rattle.std.specs.Result.{result_unwrap_or}
use Rattle.std.specs.List.{list_all}
use Rattle.std.proofs.lemmas.List.{get_or_append_left, get_or-take, take-append-drop, drop_all, append-nil}
use Rattle.std.proofs.Math.Seq.{take-add}
use borrow.Rule.Slice.PartMut.{put_mid}
use Rattle.hex.proofs.HexLemmas.{decode_of-even}
use Rattle.uuid.specs.Text.{is_hex_digit, value_of, parsed, parsed_simple, by_index, byte_of_digits}
use Rattle.uuid.proofs.TextLemmas.{by_index_length, by_index_at}

-- what an `Ok` after `>>=` shows
bound-ok : {A B : Type 0} (r : Result A FromHexError) (f : A → Result B FromHexError) (y : B)
    → (r >>= f) ≡ Ok y → (x : A) × (r ≡ Ok x) × (f x ≡ Ok y)
bound-ok (Ok x) f y h = (x, refl, h)
bound-ok (Err e) f y h = cc h

digit-shift : (c i j : ℕ) (o : Option ℕ) (v : ℕ) → digit_or_error c i o ≡ Ok v → digit_or_error c j o ≡ Ok v
digit-shift c i j (Some w) v h = h
digit-shift c i j None v h = cc h

-- a pair that reads at one index reads at each
pair-shift : (a b i j v : ℕ) → pair_value a b i ≡ Ok v → pair_value a b j ≡ Ok v
pair-shift a b i j v h =
    let p1 = bound-ok (value_at a i) _ v h in
    let p2 = bound-ok (value_at b (i + 1)) _ v p1.2 in
    let va = digit-shift a i j (hex_digit_value a) p1.0 p1.1 in
    let vb = digit-shift b (i + 1) (j + 1) (hex_digit_value b) p2.0 p2.1 in
    rw (va, vb) p2.2

-- digits that decode, and behind them others that do
pub decoded-append : (i j : ℕ) (s t xs ys : List ℕ) → decode_pairs i s ≡ Ok xs → decode_pairs j t ≡ Ok ys
    → decode_pairs i (s ++ t) ≡ Ok (xs ++ ys)
unfolding decode_pairs
decoded-append i j [] [] xs ys h g =
    let e : [] ≡ xs = ap (λ (r : Result (List ℕ) FromHexError). result_unwrap_or r []) h in
    rw (← e) g
decoded-append i j [] (a ∷ []) xs ys h g = cc g
decoded-append i j [] (a ∷ b ∷ rest) xs ys h g =
    let e : [] ≡ xs = ap (λ (r : Result (List ℕ) FromHexError). result_unwrap_or r []) h in
    let p0 = bound-ok (pair_value a b j) _ ys g in
    let p3 = bound-ok (decode_pairs (j + 2) rest) _ ys p0.2 in
    let f : p0.0 ∷ p3.0 ≡ ys = ap (λ (r : Result (List ℕ) FromHexError). result_unwrap_or r []) p3.2 in
    let pair = pair-shift a b j i p0.0 p0.1 in
    let ih = decoded-append (i + 2) (j + 2) [] rest [] p3.0 refl p3.1 in
    rw (← e, ← f) (decode_pairs-ok_pair i a b p0.0 rest pair ∙ ap (cons_byte p0.0) ih)
decoded-append i j (a ∷ []) t xs ys h g = cc h
decoded-append i j (a ∷ b ∷ rest) t xs ys h g =
    let p0 = bound-ok (pair_value a b i) _ xs h in
    let p3 = bound-ok (decode_pairs (i + 2) rest) _ xs p0.2 in
    let f : p0.0 ∷ p3.0 ≡ xs = ap (λ (r : Result (List ℕ) FromHexError). result_unwrap_or r []) p3.2 in
    let ih = decoded-append (i + 2) j rest t p3.0 ys p3.1 g in
    rw (← f) (decode_pairs-ok_pair i a b p0.0 (rest ++ t) p0.1 ∙ ap (cons_byte p0.0) ih)

-- a digit has one value in both crates
same-digit : (c : ℕ) → is_hex_digit c ≡ true → hex_digit_value c ≡ Some (value_of c)
same-digit c h = grind (arith, nat_tests)

-- what both digits of each octet say is what is decoded
pub decoded-places : (i : ℕ) (s out : List ℕ) → length s ≡ 2 * length out
    → ((k : ℕ) → k < length s → is_hex_digit (get_or s k 0) ≡ true)
    → ((k : ℕ) → k < length out → get_or out k 0 ≡ value_of (get_or s (2 * k) 0) * 16 + value_of (get_or s (2 * k + 1) 0))
    → decode_pairs i s ≡ Ok out
unfolding decode_pairs
decoded-places i [] [] len digits octets = refl
decoded-places i [] (v ∷ vs) len digits octets = absurd (omega arith)
decoded-places i (a ∷ []) out len digits octets = absurd (omega (arith, len))
decoded-places i (a ∷ b ∷ rest) [] len digits octets = absurd (omega (arith, len))
decoded-places i (a ∷ b ∷ rest) (v ∷ vs) len digits octets =
    let va = same-digit a (digits 0 (omega arith)) in
    let vb = same-digit b (digits 1 (omega arith)) in
    let first : v ≡ value_of a * 16 + value_of b = octets 0 (omega arith) in
    let pair : pair_value a b i ≡ Ok v = rw (va, vb, first) refl in
    let ih = decoded-places (i + 2) rest vs (omega (arith, len)) (λ k h. digits (suc (suc k)) (omega arith))
    (λ k h. let n : 2 * suc k ≡ suc (suc (2 * k)) = omega arith in
    let m : suc (suc (2 * k)) + 1 ≡ suc (suc (2 * k + 1)) = omega arith in
    rw (n, m) at (octets (suc k) (omega arith))) in
    decode_pairs-ok_pair i a b v rest pair ∙ ap (cons_byte v) ih

-- ---- what a group says

some-list : (b : Bool) (x v : List ℕ) → Some v ≡ (if b then Some x else None) → (b ≡ true) × (v ≡ x)
some-list true x v e = (refl, ap (λ (o : Option (List ℕ)). unwrap_or o []) e)
some-list false x v e = cc e

and-left : (a b : Bool) → (a && b) ≡ true → a ≡ true
and-left true b h = refl
and-left false b h = h

and-right : (a b : Bool) → (a && b) ≡ true → b ≡ true
and-right true b h = h
and-right false b h = cc h

all-at : (p : ℕ → Bool) (xs : List ℕ) → list_all p xs ≡ true → (k : ℕ) → k < length xs → p (get_or xs k 0) ≡ true
all-at p [] h k low = absurd (omega arith)
all-at p (x ∷ xs) h zero low = and-left (p x) (list_all p xs) h
all-at p (x ∷ xs) h (suc k) low = all-at p xs (and-right (p x) (list_all p xs) h) k (omega arith)

at-32 : (s : List ℕ) → length s ≡ 32 → parsed s ≡ parsed_simple s
at-32 s len = rw len refl

simple-read : (s u : List ℕ) → length s ≡ 32 → Some u ≡ parsed_simple s
    → (list_all is_hex_digit s ≡ true) × (u ≡ by_index 16 (byte_of_digits s))
simple-read s u len e =
    let r = some-list ((length s == 32) && list_all is_hex_digit s) (by_index 16 (byte_of_digits s)) u e in
    (and-right (length s == 32) (list_all is_hex_digit s) r.0, r.1)

-- digits in front of thirty-two that parse decode to the octets in front
pub few-decode : (s rest u : List ℕ) (n : ℕ) → length s ≡ 2 * n → n ≤ 16 → length (s ++ rest) ≡ 32 → Some u ≡ parsed (s ++ rest)
    → decode_pairs 0 s ≡ Ok (take n u)
few-decode s rest u n len few size e =
    let p = s ++ rest in
    let r = simple-read p u size (e ∙ at-32 p size) in
    let long : length u ≡ 16 = ap length r.1 ∙ by_index_length 16 (byte_of_digits p) in
    let out : length (take n u) ≡ n = omega (arith, length-take n u, long) in
    decoded-places 0 s (take n u) (omega (arith, len, out))
    (λ k h. ap is_hex_digit (sym (get_or_append_left s rest 0 k h)) ∙ all-at is_hex_digit p r.0 k (omega (arith, size, len)))
    (λ k h. let low : k < n = omega (arith, out) in
    let a = get_or_append_left s rest 0 (2 * k) (omega (arith, len)) in
    let b = get_or_append_left s rest 0 (2 * k + 1) (omega (arith, len)) in
    get_or-take n u k 0 low ∙ ap (λ v. get_or v k 0) r.1 ∙ by_index_at 16 (byte_of_digits p) k 0 (omega arith)
    ∙ rw (← a, ← b) refl)

pub group-decodes : (s u : List ℕ) → length s ≡ 32 → Some u ≡ parsed s → decode_pairs 0 s ≡ Ok u
group-decodes s u len e =
    let r = simple-read s u len (e ∙ at-32 s len) in
    let long : length u ≡ 16 = ap length r.1 ∙ by_index_length 16 (byte_of_digits s) in
    decoded-places 0 s u (omega (arith, len, long))
    (λ k h. all-at is_hex_digit s r.0 k h)
    (λ k h. ap (λ v. get_or v k 0) r.1 ∙ by_index_at 16 (byte_of_digits s) k 0 (omega (arith, long)))

-- ---- groups one after another

-- one group more
pub one-group-more : (digits octets group new : List ℕ) (i : ℕ) → 32 * (i + 1) ≤ length digits
    → group ≡ take 32 (drop (32 * i) digits) → decode_pairs 0 group ≡ Ok new → decode_pairs 0 (take (32 * i) digits) ≡ Ok octets
    → decode_pairs 0 (take (32 * (i + 1)) digits) ≡ Ok (octets ++ new)
one-group-more digits octets group new i fits same read before =
    let sum : 32 * (i + 1) ≡ 32 * i + 32 = omega arith in
    let parts : take (32 * (i + 1)) digits ≡ take (32 * i) digits ++ group =
    ap (λ n. take n digits) sum ∙ take-add (32 * i) 32 digits ∙ ap (λ t. take (32 * i) digits ++ t) (sym same) in
    ap (decode_pairs 0) parts ∙ decoded-append 0 0 (take (32 * i) digits) group octets new before read

-- all groups and the digits behind them
pub groups-and-few : (digits octets few new : List ℕ) (n : ℕ) → length digits % 2 ≡ 0
    → few ≡ drop n digits → decode_pairs 0 few ≡ Ok new → decode_pairs 0 (take n digits) ≡ Ok octets
    → decode_of digits ≡ Ok (octets ++ new)
groups-and-few digits octets few new n even same read before =
    decode_of-even digits even
    ∙ ap (decode_pairs 0) (sym (take-append-drop n digits) ∙ ap (λ t. take n digits ++ t) (sym same))
    ∙ decoded-append 0 0 (take n digits) few octets new before read

pub no-digits : decode_pairs 0 [] ≡ Ok []
unfolding decode_pairs
no-digits = refl

-- a write up to the end
pub put-at-end : (a : ℕ) (xs ys : List ℕ) → put_mid a (length xs - a) xs ys ≡ take a xs ++ ys
put-at-end a xs ys =
    ap (λ t. take a xs ++ (ys ++ t)) (drop_all (length xs - a) (drop a xs) (omega (arith, length-drop a xs)))
    ∙ ap (λ t. take a xs ++ t) (append-nil ys)
