-- Octets in pieces of sixteen.
use Rattle.std.proofs.Common.{◌≡◌, ℕ, zero, suc, ◌+◌, ◌*◌, ◌<◌, ◌≤◌, List, [], ◌∷◌, ◌++◌, length, take, drop, refl, sym, ap, ap₂, ◌∙◌, inl, inr, subst, cond, arith, append_assoc, append-nil, length-append, length-take, length-drop}
use Rattle.std.specs.Prelude.{nat_le}
use Rattle.std.specs.List.{flat_map}
use Rattle.std.proofs.lemmas.Bool.{cases_Bool, leb-true, leb-false}
use Rattle.std.proofs.lemmas.List.{take-append-drop, drop_all, drop-drop}
use Rattle.std.proofs.Math.Seq.{take-append_seam, drop-append_seam}
use Rattle.pcs_io.specs.Parsing.{Parses}
use Rattle.pcs_io.specs.declared.parser.Step.TheVariants.{More, Whole}
use Rattle.pcs_io.specs.Grammars.{Line, Refused, Open, Begins}
use Rattle.pcs_io.specs.Beats.{beat_at, part_at, beat-whole}
use Rattle.pcs_io.specs.declared.fault.Kind.{Kind}

-- the piece in front of some octets
pub record IsPiece (octets piece rest : List ℕ) : Type 0 where
  pub parts : octets ≡ piece ++ rest
  pub sixteen : length piece ≡ 16

whole-piece : (octets piece rest : List ℕ) → 16 ≤ length octets → beat_at octets ≡ Line piece rest → IsPiece octets piece rest
whole-piece octets piece rest long is =
    let same : Line (take 16 octets) (drop 16 octets) ≡ Line piece rest = sym (beat-whole octets long) ∙ is in
    let front : take 16 octets ≡ piece = cc in
    let behind : drop 16 octets ≡ rest = cc in
    record {
      parts = sym (take-append-drop 16 octets) ∙ ap₂ (λ p r. p ++ r) front behind;
      sixteen = ap length (sym front) ∙ omega (arith, long, length-take 16 octets);
    }

short-open : (octets : List ℕ) → length octets < 16 → beat_at octets ≡ Open
short-open octets short = elim (cases_Bool (nat_le 16 (length octets))) [
  | inl is ↦ absurd (omega (arith, short, leb-true 16 (length octets) is))
  | inr is ↦ ap (λ b. cond b (Line (take 16 octets) (drop 16 octets)) Open) is
]

pub is-piece : (octets piece rest : List ℕ) → beat_at octets ≡ Line piece rest → IsPiece octets piece rest
is-piece octets piece rest is = elim (cases_Bool (nat_le 16 (length octets))) [
  | inl long ↦ whole-piece octets piece rest (leb-true 16 (length octets) long) is
  | inr short ↦ absurd (let e : Open ≡ Line piece rest = sym (short-open octets (leb-false 16 (length octets) short)) ∙ is in cc)
]

pub open-short : (octets : List ℕ) → beat_at octets ≡ Open → length octets < 16
open-short octets is = elim (cases_Bool (nat_le 16 (length octets))) [
  | inl long ↦ absurd (let e : Line (take 16 octets) (drop 16 octets) ≡ Open = sym (beat-whole octets (leb-true 16 (length octets) long)) ∙ is in cc)
  | inr short ↦ leb-false 16 (length octets) short
]

pub never-refused : (octets : List ℕ) (kind : Kind) → beat_at octets ≡ Refused kind → ⊥
never-refused octets kind is = elim (cases_Bool (nat_le 16 (length octets))) [
  | inl long ↦ (let e : Line (take 16 octets) (drop 16 octets) ≡ Refused kind = sym (beat-whole octets (leb-true 16 (length octets) long)) ∙ is in cc)
  | inr short ↦ (let e : Open ≡ Refused kind = sym (short-open octets (leb-false 16 (length octets) short)) ∙ is in cc)
]

-- pieces in front of some octets, one after the other
pub pieces-parts : (octets : List ℕ) (pieces : List (List ℕ)) (rest : List ℕ) → Begins beat_at octets pieces rest
    → octets ≡ flat_map (λ piece. piece) pieces ++ rest
pieces-parts octets [] rest b = b
pieces-parts octets (piece ∷ pieces) rest b =
    (is-piece octets piece b.0 b.1).parts ∙ ap (λ s. piece ++ s) (pieces-parts b.0 pieces rest b.2)
    ∙ sym (append_assoc piece (flat_map (λ piece. piece) pieces) rest)

pub pieces-length : (octets : List ℕ) (pieces : List (List ℕ)) (rest : List ℕ) → Begins beat_at octets pieces rest
    → length octets ≡ 16 * length pieces + length rest
pieces-length octets [] rest b = ap length b ∙ omega arith
pieces-length octets (piece ∷ pieces) rest b =
    let first = is-piece octets piece b.0 b.1 in
    omega (arith, ap length first.parts, first.sixteen, length-append piece b.0, pieces-length b.0 pieces rest b.2)

-- the first of them, and then the others
pub pieces-split : (octets : List ℕ) (pieces others : List (List ℕ)) (rest : List ℕ) → Begins beat_at octets (pieces ++ others) rest
    → (behind : List ℕ) × Begins beat_at octets pieces behind × Begins beat_at behind others rest
pieces-split octets [] others rest b = (octets, refl, b)
pieces-split octets (piece ∷ pieces) others rest b =
    let later = pieces-split b.0 pieces others rest b.2 in
    (later.0, (b.0, b.1, later.1), later.2)

-- a piece in front
pub beat-front : (front rest : List ℕ) → length front ≡ 16 → beat_at (front ++ rest) ≡ Line front rest
beat-front front rest sixteen =
    beat-whole (front ++ rest) (omega (arith, sixteen, length-append front rest))
    ∙ ap₂ (λ f r. Line f r)
    (ap (λ n. take n (front ++ rest)) (sym sixteen) ∙ take-append_seam front rest)
    (ap (λ n. drop n (front ++ rest)) (sym sixteen) ∙ drop-append_seam front rest)

-- octets that don't fill the piece in hand
pub part-more : (part octets : List ℕ) (beat : List ℕ) (used : ℕ) → used ≡ length octets → 0 < length octets → length part + used < 16
    → Parses (part_at part) (part_at (part ++ octets)) beat octets used More
part-more part [] beat used all some short = absurd (omega (arith, some))
part-more part (x ∷ xs) beat used all some short = record {
  some = omega (arith, all);
  within = omega (arith, all);
  ahead = λ rest. subst (λ d. part_at part ((x ∷ xs) ++ rest) ≡ part_at (part ++ x ∷ xs) (d ++ rest)) (sym nothing) (behind rest);
} where
  nothing : drop used (x ∷ xs) ≡ []
  nothing = drop_all used (x ∷ xs) (omega (arith, all))

  few : length (part ++ x ∷ xs) < 16
  few = omega (arith, length-append part (x ∷ xs), short, all)

  behind : (rest : List ℕ) → part_at part ((x ∷ xs) ++ rest) ≡ part_at (part ++ x ∷ xs) rest
  behind [] = ap (λ o. beat_at (part ++ o)) (append-nil (x ∷ xs)) ∙ short-open (part ++ x ∷ xs) few
  behind (y ∷ ys) = ap beat_at (sym (append_assoc part (x ∷ xs) (y ∷ ys)))

-- octets that fill it
pub part-whole : (part octets : List ℕ) (used : ℕ) → 0 < used → used ≤ length octets → length part + used ≡ 16
    → Parses (part_at part) (part_at []) (part ++ take used octets) octets used Whole
part-whole part [] used some within full = absurd (omega (arith, some, within))
part-whole part (x ∷ xs) used some within full = record {
  some = some;
  within = within;
  ahead = λ rest.
      let front = take used (x ∷ xs) in
      let sixteen : length (part ++ front) ≡ 16 = omega (arith, length-append part front, length-take used (x ∷ xs), full, within) in
      ap (λ o. beat_at (part ++ (o ++ rest))) (sym (take-append-drop used (x ∷ xs)))
      ∙ ap (λ o. beat_at (part ++ o)) (append_assoc front (drop used (x ∷ xs)) rest)
      ∙ ap beat_at (sym (append_assoc part front (drop used (x ∷ xs) ++ rest)))
      ∙ beat-front (part ++ front) (drop used (x ∷ xs) ++ rest) sixteen;
}

-- an array after a write to its end
pub written-end : (a k : ℕ) (xs ys : List ℕ) → length xs ≤ a + k → take a xs ++ (ys ++ drop k (drop a xs)) ≡ take a xs ++ ys
written-end a k xs ys long =
    ap (λ p. take a xs ++ (ys ++ p)) (drop_all k (drop a xs) (omega (arith, long, length-drop a xs))) ∙ ap (λ p. take a xs ++ p) (append-nil ys)

pub both-written : (front zeros behind : List ℕ) → length front ≡ 16 → length zeros ≡ 16
    → take 16 (front ++ zeros) ++ (behind ++ drop 16 (drop 16 (front ++ zeros))) ≡ front ++ behind
both-written front zeros behind f z =
    written-end 16 16 (front ++ zeros) behind (omega (arith, f, z, length-append front zeros))
    ∙ ap (λ t. t ++ behind) (ap (λ n. take n (front ++ zeros)) (sym f) ∙ take-append_seam front zeros)

-- as many pieces as there are
pub whole-pieces : (n : ℕ) (octets : List ℕ) → 16 * n ≤ length octets
    → (pieces : List (List ℕ)) × (length pieces ≡ n) × Begins beat_at octets pieces (drop (16 * n) octets)
whole-pieces zero octets long = ([], refl, refl)
whole-pieces (suc n) octets long =
    let later = whole-pieces n (drop 16 octets) (omega (arith, long, length-drop 16 octets)) in
    let rest : drop (16 * n) (drop 16 octets) ≡ drop (16 * suc n) octets =
    drop-drop (16 * n) 16 octets ∙ ap (λ m. drop m octets) {x = 16 + 16 * n} {y = 16 * suc n} (omega arith) in (
      take 16 octets ∷ later.0,
      ap suc later.1,
      (drop 16 octets, beat-whole octets (omega (arith, long)), subst (Begins beat_at (drop 16 octets) later.0) rest later.2),
    )

pub pieces-front : (octets : List ℕ) (pieces : List (List ℕ)) (m : ℕ) → m ≤ length octets → Begins beat_at octets pieces (drop m octets)
    → flat_map (λ piece. piece) pieces ≡ take m octets
pieces-front octets pieces m long b =
    let front = flat_map (λ piece. piece) pieces in
    let parts = pieces-parts octets pieces (drop m octets) b in
    let size : length front ≡ m = omega (arith, long, ap length parts, length-append front (drop m octets), length-drop m octets) in
    sym (take-append_seam front (drop m octets)) ∙ ap (λ n. take n (front ++ drop m octets)) size ∙ ap (take m) (sym parts)

-- pieces behind pieces
pub pieces-join : (octets : List ℕ) (pieces others : List (List ℕ)) (behind rest : List ℕ) → Begins beat_at octets pieces behind → Begins beat_at behind others rest
    → Begins beat_at octets (pieces ++ others) rest
pieces-join octets [] others behind rest a b = subst (λ o. Begins beat_at o others rest) (sym a) b
pieces-join octets (piece ∷ pieces) others behind rest a b = (a.0, a.1, pieces-join a.0 pieces others behind rest a.2 b)
