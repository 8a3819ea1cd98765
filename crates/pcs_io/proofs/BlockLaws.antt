-- Which texts are block lines, and where the others are refused.
use Rattle.std.proofs.Common.{◌≡◌, ℕ, ◌+◌, ◌-◌, ◌≤◌, ◌==◌, Bool, true, false, List, [], ◌∷◌, ◌++◌, length, replicate, refl, sym, ap, subst, ◌∙◌, inl, inr, cond, append_assoc, length-append, arith, Result, Ok, Err}
use Rattle.std.specs.Prelude.{codes}
use Rattle.std.specs.Char.{is_ascii_hexdigit}
use Rattle.std.specs.Int.{from_le_bytes, w64}
use Rattle.std.proofs.lemmas.Bool.{cond-true, cond-false, eqb-true, eqb-false}
use Rattle.std.proofs.lemmas.List.{length-replicate}
use Rattle.std.proofs.lemmas.List.Elements.{All-from_recursion}
use Rattle.hex.specs.Hex.{decode_of}
use Rattle.hex.specs.declared.error.FromHexError.{FromHexError}
use Rattle.hex.proofs.HexLemmas.{decode_of-ok, decode_of-digits}
use Rattle.pcs_io.specs.declared.fault.Kind.TheVariants.{BadSync, BadHex, BadWidth}
use Rattle.pcs_io.specs.declared.block_lines.BlockLine.{BlockLine}
use Rattle.pcs_io.specs.Grammars.{LineAt, Line, Refused, Open}
use Rattle.pcs_io.specs.BlockLines.{block_line_at, second_at, space_at, payload_at, block_of_digits}
use Rattle.pcs_io.specs.BlockForm.{IsBlockLine, ReadsBlocks, RefusesBlocksAtTheFirst}
use Rattle.pcs_io.specs.BlockGrammar.{block_grammar}
use Rattle.pcs_io.proofs.Runs.{AreDigits}
use Rattle.pcs_io.proofs.FirstBadOctet.{hex-digits, are-pushed, zeros, all-of}
use Rattle.pcs_io.proofs.LineLaws.{refused-more, refused-no-line, chosen}
use Rattle.pcs_io.proofs.BlockRuns.{digits-whole, digits-say}

-- the line of these octets
abbrev line_of : Bool → List ℕ → BlockLine
line_of control octets = record { control = control; payload = from_le_bytes w64 octets }

-- the digits that were read end at a newline, and are the line's octets
record Digits (control : Bool) (front xs : List ℕ) (line : BlockLine) (r : List ℕ) : Type 0 where
  pub digits : List ℕ
  pub octets : List ℕ
  pub spelled : front ++ xs ≡ digits ++ 10 ∷ r
  pub decoded : decode_of digits ≡ Ok octets
  pub sixteen : length digits ≡ 16
  pub says : line_of control octets ≡ line

over : (control : Bool) (front xs : List ℕ) (line : BlockLine) (r : List ℕ) (d : Result (List ℕ) FromHexError) → decode_of front ≡ d → length front ≡ 16
    → block_of_digits control d xs ≡ Line line r → Digits control front (10 ∷ xs) line r
over control front xs line r (Ok octets) is sixteen e =
    let h : Line (line_of control octets) xs ≡ Line line r = e in
    let first : line_of control octets ≡ line = cc in
    let second : xs ≡ r = cc in
    record { digits = front; octets = octets; spelled = ap (λ s. front ++ 10 ∷ s) second; decoded = is; sixteen = sixteen; says = first }
over control front xs line r (Err error) is sixteen e = absurd (refused-no-line _ BadHex line r refl e)

digits-sound : (xs front : List ℕ) (control : Bool) (line : BlockLine) (r : List ℕ) → payload_at control front xs ≡ Line line r → Digits control front xs line r
digits-sound [] front control line r e = absurd (let h : Open ≡ Line line r = e in cc)
digits-sound (x ∷ xs) front control line r e = elim (chosen (x == 10) _ _ _ e) [
  | inl p ↦ elim (chosen (length front == 16) _ _ _ p.1) [
    | inl q ↦ subst (λ c. Digits control front (c ∷ xs) line r) (sym (eqb-true x 10 p.0)) (over control front xs line r (decode_of front) refl (eqb-true (length front) 16 q.0) q.1)
    | inr q ↦ absurd (refused-no-line _ BadWidth line r refl q.1)
  ]
  | inr p ↦ elim (chosen (length front == 16) _ _ _ p.1) [
    | inl q ↦ absurd (refused-no-line _ BadWidth line r refl q.1)
    | inr q ↦ elim (chosen (is_ascii_hexdigit x) _ _ _ q.1) [
      | inl s ↦ (
          let rest = digits-sound xs (front ++ x ∷ []) control line r s.1 in
          record { digits = rest.digits; octets = rest.octets; spelled = sym (append_assoc front (x ∷ []) xs) ∙ rest.spelled; decoded = rest.decoded; sixteen = rest.sixteen; says = rest.says })
      | inr s ↦ absurd (refused-no-line _ BadHex line r refl s.1)
    ]
  ]
]

-- the sync bits and the space
abbrev first : Bool → ℕ
first control = cond control 49 48

heads : (control : Bool) (tail : List ℕ) → first control ∷ cond control 48 49 ∷ 32 ∷ tail ≡ cond control (codes "10 ") (codes "01 ") ++ tail
heads true tail = refl
heads false tail = refl

-- behind the first sync bit
abbrev Read : Bool → List ℕ → BlockLine → List ℕ → Type 0
Read control xs line r = (text : List ℕ) × IsBlockLine text line × (first control ∷ xs ≡ text ++ r)

said : (control : Bool) (xs : List ℕ) (line : BlockLine) (r zs : List ℕ) → Digits control [] zs line r → xs ≡ cond control 48 49 ∷ 32 ∷ zs → Read control xs line r
said control xs line r zs d e =
    let half = decode_of-ok d.digits d.octets d.decoded in
    let head = cond control (codes "10 ") (codes "01 ") in
    subst (λ l. Read control xs l r) d.says (
      head ++ (d.digits ++ 10 ∷ []),
      record { digits = d.digits; octets = d.octets; spelled = refl; decoded = d.decoded; eight = omega (arith, half.2, d.sixteen); payload = refl },
      ap (λ s. first control ∷ s) e ∙ heads control zs ∙ ap (λ t. head ++ t) (d.spelled ∙ sym (append_assoc d.digits (10 ∷ []) r)) ∙ sym (append_assoc head (d.digits ++ 10 ∷ []) r),
    )

space-sound : (xs ys : List ℕ) (control : Bool) (line : BlockLine) (r : List ℕ) → space_at control ys ≡ Line line r → xs ≡ cond control 48 49 ∷ ys → Read control xs line r
space-sound xs [] control line r e is = absurd (let h : Open ≡ Line line r = e in cc)
space-sound xs (y ∷ ys) control line r e is = elim (chosen (y == 32) _ _ _ e) [
  | inl p ↦ said control xs line r ys (digits-sound ys [] control line r p.1) (is ∙ ap (λ c. cond control 48 49 ∷ c ∷ ys) (eqb-true y 32 p.0))
  | inr p ↦ absurd (refused-no-line _ BadSync line r refl p.1)
]

second-sound : (xs : List ℕ) (control : Bool) (line : BlockLine) (r : List ℕ) → second_at control xs ≡ Line line r → Read control xs line r
second-sound [] control line r e = absurd (let h : Open ≡ Line line r = e in cc)
second-sound (x ∷ xs) control line r e = elim (chosen (x == cond control 48 49) _ _ _ e) [
  | inl p ↦ space-sound (x ∷ xs) xs control line r p.1 (ap (λ c. c ∷ xs) (eqb-true x (cond control 48 49) p.0))
  | inr p ↦ absurd (refused-no-line _ BadSync line r refl p.1)
]

sound : (octets : List ℕ) (line : BlockLine) (r : List ℕ) → block_line_at octets ≡ Line line r → (text : List ℕ) × IsBlockLine text line × (octets ≡ text ++ r)
sound [] line r e = absurd (let h : Open ≡ Line line r = e in cc)
sound (x ∷ xs) line r e = elim (chosen (x == 49) _ _ _ e) [
  | inl p ↦ subst (λ c. (text : List ℕ) × IsBlockLine text line × (c ∷ xs ≡ text ++ r)) (sym (eqb-true x 49 p.0)) (second-sound xs true line r p.1)
  | inr p ↦ elim (chosen (x == 48) _ _ _ p.1) [
    | inl q ↦ subst (λ c. (text : List ℕ) × IsBlockLine text line × (c ∷ xs ≡ text ++ r)) (sym (eqb-true x 48 q.0)) (second-sound xs false line r q.1)
    | inr q ↦ absurd (refused-no-line _ BadSync line r refl q.1)
  ]
]

begun : (control : Bool) (tail : List ℕ) → block_line_at (cond control (codes "10 ") (codes "01 ") ++ tail) ≡ payload_at control [] tail
begun true tail = refl
begun false tail = refl

complete : (octets : List ℕ) (line : BlockLine) (r text : List ℕ) → IsBlockLine text line → octets ≡ text ++ r → block_line_at octets ≡ Line line r
complete octets line r text is e =
    let half = decode_of-ok is.digits is.octets is.decoded in
    let head = cond line.control (codes "10 ") (codes "01 ") in
    ap block_line_at (e ∙ ap (λ t. t ++ r) is.spelled ∙ append_assoc head (is.digits ++ 10 ∷ []) r ∙ ap (λ t. head ++ t) (append_assoc is.digits (10 ∷ []) r))
    ∙ begun line.control (is.digits ++ 10 ∷ r) ∙ digits-say is.digits is.octets r line.control (omega (arith, half.2, is.eight)) is.decoded
    ∙ ap (λ n. Line (record { control = line.control; payload = n }) r) (sym is.payload)

pub reads-blocks : ReadsBlocks
reads-blocks octets line rest = (sound octets line rest, λ t. complete octets line rest t.0 t.1 t.2)

-- more octets that make a line
abbrev pub Completes : (List ℕ → LineAt BlockLine) → List ℕ → Type 0
Completes at xs = (more : List ℕ) × (line : BlockLine) × (at (xs ++ more) ≡ Line line [])

ends : (ds : List ℕ) (control : Bool) → AreDigits ds → length ds ≤ 16 → Completes (payload_at control ds) []
ends ds control all short =
    let more = replicate (16 - length ds) 48 in
    let six : length ds + length more ≡ 16 = omega (arith, length-replicate {A = ℕ} (16 - length ds) 48, short) in
    let digits = all-of ds more all (zeros (16 - length ds)) in
    let decoded = decode_of-digits (ds ++ more) (omega (arith, six, length-append ds more)) (All-from_recursion _ (ds ++ more) (hex-digits (ds ++ more) digits)) in
    (more ++ 10 ∷ [], line_of control decoded.0, digits-whole more ds [] control (zeros (16 - length ds)) six ∙ ap (λ d. block_of_digits control d []) decoded.1)

not-open : (control : Bool) (d : Result (List ℕ) FromHexError) (xs : List ℕ) → block_of_digits control d xs ≡ Open → ⊥
not-open control (Ok octets) xs e = cc
not-open control (Err error) xs e = cc

open-payload : (xs ds : List ℕ) (control : Bool) → AreDigits ds → length ds ≤ 16 → payload_at control ds xs ≡ Open → Completes (payload_at control ds) xs
open-payload [] ds control all short e = ends ds control all short
open-payload (x ∷ xs) ds control all short e = elim (chosen (x == 10) _ _ _ e) [
  | inl p ↦ elim (chosen (length ds == 16) _ _ _ p.1) [
    | inl q ↦ absurd (not-open control (decode_of ds) xs q.1)
    | inr q ↦ absurd (let h : Refused BadWidth ≡ Open = q.1 in cc)
  ]
  | inr p ↦ elim (chosen (length ds == 16) _ _ _ p.1) [
    | inl q ↦ absurd (let h : Refused BadWidth ≡ Open = q.1 in cc)
    | inr q ↦ elim (chosen (is_ascii_hexdigit x) _ _ _ q.1) [
      | inl s ↦ (
          let room = eqb-false (length ds) 16 q.0 in
          let rest = open-payload xs (ds ++ x ∷ []) control (are-pushed ds x all s.0) (omega (arith, room, length-append ds (x ∷ []))) s.1 in
          (rest.0, rest.1, cond-false (x == 10) _ _ p.0 ∙ cond-false (length ds == 16) _ _ q.0 ∙ cond-true (is_ascii_hexdigit x) _ _ s.0 ∙ rest.2))
      | inr s ↦ absurd (let h : Refused BadHex ≡ Open = s.1 in cc)
    ]
  ]
]

open-space : (xs : List ℕ) (control : Bool) → space_at control xs ≡ Open → Completes (space_at control) xs
open-space [] control e = let end = ends [] control tt (omega arith) in (32 ∷ end.0, end.1, end.2)
open-space (x ∷ xs) control e = elim (chosen (x == 32) _ _ _ e) [
  | inl p ↦ (let rest = open-payload xs [] control tt (omega arith) p.1 in (rest.0, rest.1, cond-true (x == 32) _ _ p.0 ∙ rest.2))
  | inr p ↦ absurd (let h : Refused BadSync ≡ Open = p.1 in cc)
]

open-second : (xs : List ℕ) (control : Bool) → second_at control xs ≡ Open → Completes (second_at control) xs
open-second [] true e = let end = open-space [] true refl in (48 ∷ end.0, end.1, end.2)
open-second [] false e = let end = open-space [] false refl in (49 ∷ end.0, end.1, end.2)
open-second (x ∷ xs) control e = elim (chosen (x == cond control 48 49) _ _ _ e) [
  | inl p ↦ (let rest = open-space xs control p.1 in (rest.0, rest.1, cond-true (x == cond control 48 49) _ _ p.0 ∙ rest.2))
  | inr p ↦ absurd (let h : Refused BadSync ≡ Open = p.1 in cc)
]

open-line : (octets : List ℕ) → block_line_at octets ≡ Open → Completes block_line_at octets
open-line [] e = let end = open-second [] true refl in (49 ∷ end.0, end.1, end.2)
open-line (x ∷ xs) e = elim (chosen (x == 49) _ _ _ e) [
  | inl p ↦ (let rest = open-second xs true p.1 in (rest.0, rest.1, cond-true (x == 49) _ _ p.0 ∙ rest.2))
  | inr p ↦ elim (chosen (x == 48) _ _ _ p.1) [
    | inl q ↦ (let rest = open-second xs false q.1 in (rest.0, rest.1, cond-false (x == 49) _ _ p.0 ∙ cond-true (x == 48) _ _ q.0 ∙ rest.2))
    | inr q ↦ absurd (let h : Refused BadSync ≡ Open = q.1 in cc)
  ]
]

pub refuses-blocks : RefusesBlocksAtTheFirst
refuses-blocks = (
  open-line,
  λ octets more kind line rest refused whole. refused-no-line _ kind line rest (refused-more block_line_at octets more kind block_grammar refused) whole,
)
