-- Which texts are symbol lines, and where the others are refused.
use Rattle.std.proofs.Common.{◌≡◌, ℕ, zero, suc, ◌+◌, ◌-◌, ◌*◌, ◌<◌, ◌≤◌, ◌==◌, ◌⊎◌, true, false, List, [], ◌∷◌, ◌++◌, length, get_or, replicate, refl, sym, ap, subst, ◌∙◌, inl, inr, append_assoc, length-append, arith}
use Rattle.std.specs.Char.{digit_value, is_digit}
use Rattle.std.proofs.lemmas.Bool.{cases_eq, cases_lt, cond-true, cond-false, eqb-true, eqb-false}
use Rattle.std.proofs.lemmas.Bool.Decides.{nat_tests}
use Rattle.std.proofs.lemmas.List.{get_or_append_left, get_or_at, get_or-replicate, length-replicate}
use Rattle.pcs_io.specs.declared.fault.Kind.TheVariants.{BadHex, BadWidth, Symbol}
use Rattle.pcs_io.specs.Grammars.{Line, Refused, Open}
use Rattle.pcs_io.specs.SymbolForm.{Spell, IsSymbolLine, ReadsSymbols, RefusesSymbolsAtTheFirst}
use Rattle.pcs_io.specs.SymbolGrammar.{symbol_grammar}
use Rattle.pcs_io.specs.SymbolLines.{symbol_line_at, symbols_at, numbers_of, is_width, is_too_great, MayStand, AreSymbolDigits}
use Rattle.pcs_io.proofs.LineLaws.{chosen, refused-more, refused-no-line}
use Rattle.pcs_io.proofs.SymbolRuns.{symbols-run, wide}

may : (n x : ℕ) → is_digit x 16 ≡ true → is_too_great n x ≡ false → MayStand n x
may n x digit low = record { value = grind (arith, nat_tests); first = λ first. grind (arith, nat_tests) }

-- one digit more
pushed : (ds : List ℕ) (x : ℕ) → AreSymbolDigits ds → MayStand (length ds) x → AreSymbolDigits (ds ++ x ∷ [])
pushed ds x right stands k within = elim (cases_lt k (length ds)) [
  | inl low ↦ subst (MayStand k) (sym (get_or_append_left ds (x ∷ []) 0 k low)) (right k low)
  | inr high ↦ (
      let last : length ds ≡ k = omega (arith, high, within, length-append ds (x ∷ [])) in
      subst (MayStand k) (sym (get_or_at ds x [] 0 k last)) (subst (λ n. MayStand n x) last stands))
]

none : AreSymbolDigits []
none k within = absurd (omega (arith, within))

-- the digits that were read end at a newline
record Digits (front xs numbers r : List ℕ) : Type 0 where
  pub digits : List ℕ
  pub spelled : front ++ xs ≡ digits ++ 10 ∷ r
  pub right : AreSymbolDigits digits
  pub width : is_width (length digits) ≡ true
  pub said : numbers_of digits ≡ numbers

digits-sound : (xs front numbers r : List ℕ) → AreSymbolDigits front → symbols_at front xs ≡ Line numbers r → Digits front xs numbers r
digits-sound [] front numbers r right e = absurd (let h : Open ≡ Line numbers r = e in cc)
digits-sound (x ∷ xs) front numbers r right e = elim (chosen (x == 10) _ _ _ e) [
  | inl p ↦ elim (chosen (is_width (length front)) _ _ _ p.1) [
    | inl w ↦ (
        let done : Line (numbers_of front) xs ≡ Line numbers r = w.1 in
        let said : numbers_of front ≡ numbers = cc in
        let left : xs ≡ r = cc in
        record {
          digits = front;
          spelled = ap (λ c. front ++ c ∷ xs) (eqb-true x 10 p.0) ∙ ap (λ s. front ++ 10 ∷ s) left;
          right = right;
          width = w.0;
          said = said;
        })
    | inr w ↦ absurd (refused-no-line _ BadWidth numbers r refl w.1)
  ]
  | inr p ↦ elim (chosen (length front == 1584) _ _ _ p.1) [
    | inl f ↦ absurd (refused-no-line _ BadWidth numbers r refl f.1)
    | inr f ↦ elim (chosen (is_digit x 16) _ _ _ f.1) [
      | inl d ↦ elim (chosen (is_too_great (length front) x) _ _ _ d.1) [
        | inl g ↦ absurd (refused-no-line _ Symbol numbers r refl g.1)
        | inr g ↦ (
            let rest = digits-sound xs (front ++ x ∷ []) numbers r (pushed front x right (may (length front) x d.0 g.0)) g.1 in
            record {
              digits = rest.digits;
              spelled = sym (append_assoc front (x ∷ []) xs) ∙ rest.spelled;
              right = rest.right;
              width = rest.width;
              said = rest.said;
            })
      ]
      | inr d ↦ absurd (refused-no-line _ BadHex numbers r refl d.1)
    ]
  ]
]

-- digits that may stand where they do spell their numbers
spells : (n : ℕ) (ds : List ℕ) → length ds ≡ 3 * n → AreSymbolDigits ds → Spell ds (numbers_of ds) × (length (numbers_of ds) ≡ n)
unfolding numbers_of
spells zero [] long right = (tt, refl)
spells zero (a ∷ ds) long right = absurd (omega (arith, long))
spells (suc n) [] long right = absurd (omega (arith, long))
spells (suc n) (a ∷ []) long right = absurd (omega (arith, long))
spells (suc n) (a ∷ b ∷ []) long right = absurd (omega (arith, long))
spells (suc n) (a ∷ b ∷ c ∷ ds) long right =
    let first : MayStand 0 a = right 0 (omega arith) in
    let second : MayStand 1 b = right 1 (omega arith) in
    let third : MayStand 2 c = right 2 (omega arith) in
    let great : digit_value a ≤ 3 = first.first refl in
    let behind : AreSymbolDigits ds =
    λ k within. let stands : MayStand (suc (suc (suc k))) (get_or ds k 0) = right (suc (suc (suc k))) (omega (arith, within)) in
    record { value = stands.value; first = λ f. stands.first (omega (arith, f)) } in
    let rest = spells n ds (omega (arith, long)) behind in
    ((first.value, second.value, third.value, refl, omega (arith, great, second.value, third.value), rest.0), ap suc rest.1)

widths : (n : ℕ) → is_width n ≡ true → (n ≡ 3 * 514) ⊎ (n ≡ 3 * 528)
widths n h = elim (cases_eq n 1542) [
  | inl fewer ↦ inl fewer
  | inr other ↦ inr (grind (arith, nat_tests))
]

as-line : (octets numbers r : List ℕ) (d : Digits [] octets numbers r) (n : ℕ) → length d.digits ≡ 3 * n → (n ≡ 514) ⊎ (n ≡ 528)
    → (text : List ℕ) × IsSymbolLine text numbers × (octets ≡ text ++ r)
as-line octets numbers r d n long count =
    let spell = spells n d.digits long d.right in
    let all : length numbers ≡ n = sym (ap length d.said) ∙ spell.1 in (
      d.digits ++ 10 ∷ [],
      record {
        digits = d.digits;
        spelled = refl;
        symbols = subst (Spell d.digits) d.said spell.0;
        count = subst (λ m. (m ≡ 514) ⊎ (m ≡ 528)) (sym all) count;
      },
      d.spelled ∙ sym (append_assoc d.digits (10 ∷ []) r),
    )

sound : (octets numbers r : List ℕ) → symbol_line_at octets ≡ Line numbers r → (text : List ℕ) × IsSymbolLine text numbers × (octets ≡ text ++ r)
sound octets numbers r e =
    let d = digits-sound octets [] numbers r none e in
    elim (widths (length d.digits) d.width) [
      | inl w ↦ as-line octets numbers r d 514 w (inl refl)
      | inr w ↦ as-line octets numbers r d 528 w (inr refl)
    ]

-- a symbol's digits in front
triple : (a b c : ℕ) (ds : List ℕ) → MayStand 0 a → digit_value b < 16 → digit_value c < 16 → AreSymbolDigits ds → AreSymbolDigits (a ∷ b ∷ c ∷ ds)
triple a b c ds first second third right zero within = first
triple a b c ds first second third right (suc zero) within = record { value = second; first = λ f. absurd (omega (arith, f)) }
triple a b c ds first second third right (suc (suc zero)) within = record { value = third; first = λ f. absurd (omega (arith, f)) }
triple a b c ds first second third right (suc (suc (suc k))) within =
    let stands : MayStand k (get_or ds k 0) = right k (omega (arith, within)) in
    record { value = stands.value; first = λ f. stands.first (omega (arith, f)) }

spelled-right : (ds ns : List ℕ) → Spell ds ns → AreSymbolDigits ds × (numbers_of ds ≡ ns) × (length ds ≡ 3 * length ns)
unfolding numbers_of
spelled-right [] [] s = (none, refl, refl)
spelled-right [] (n ∷ ns) s = absurd s
spelled-right (a ∷ []) [] s = absurd s
spelled-right (a ∷ []) (n ∷ ns) s = absurd s
spelled-right (a ∷ b ∷ []) [] s = absurd s
spelled-right (a ∷ b ∷ []) (n ∷ ns) s = absurd s
spelled-right (a ∷ b ∷ c ∷ ds) [] s = absurd s
spelled-right (a ∷ b ∷ c ∷ ds) (n ∷ ns) (high, middle, low, is, small, behind) =
    let rest = spelled-right ds ns behind in
    let great : digit_value a ≤ 3 = omega (arith, is, small) in (
      triple a b c ds (record { value = high; first = λ f. great }) middle low rest.0,
      ap (λ m. m ∷ numbers_of ds) (sym is) ∙ ap (λ ms. n ∷ ms) rest.1,
      omega (arith, rest.2),
    )

complete : (octets numbers r text : List ℕ) → IsSymbolLine text numbers → octets ≡ text ++ r → symbol_line_at octets ≡ Line numbers r
complete octets numbers r text line e =
    let spelled = spelled-right line.digits numbers line.symbols in
    let width : is_width (length line.digits) ≡ true =
    elim line.count [
      | inl c ↦ (let long : length line.digits ≡ 1542 = omega (arith, spelled.2, c) in ap is_width long)
      | inr c ↦ (let long : length line.digits ≡ 1584 = omega (arith, spelled.2, c) in ap is_width long)
    ] in
    ap symbol_line_at (e ∙ ap (λ t. t ++ r) line.spelled ∙ append_assoc line.digits (10 ∷ []) r)
    ∙ symbols-run line.digits [] (10 ∷ r) (λ j within. subst (λ k. MayStand k (get_or line.digits j 0)) (omega arith) (spelled.0 j within))
    (omega (arith, wide (length line.digits) width))
    ∙ cond-true (is_width (length line.digits)) _ _ width ∙ ap (λ ns. Line ns r) spelled.1

pub reads-symbols : ReadsSymbols
reads-symbols octets numbers rest = (sound octets numbers rest, λ t. complete octets numbers rest t.0 t.1 t.2)

-- more octets that make a line
abbrev Completes : List ℕ → List ℕ → Type 0
Completes ds xs = (more numbers : List ℕ) × (symbols_at ds (xs ++ more) ≡ Line numbers [])

zero-stands : (n : ℕ) → MayStand n 48
zero-stands n = record { value = omega arith; first = λ f. omega arith }

ends : (ds : List ℕ) → AreSymbolDigits ds → length ds ≤ 1584 → Completes ds []
ends ds right short =
    let n = 1584 - length ds in
    let zeros = replicate n 48 in
    let long : length zeros ≡ n = length-replicate n 48 in
    let full : length (ds ++ zeros) ≡ 1584 = omega (arith, length-append ds zeros, long, short) in (
      zeros ++ 10 ∷ [],
      numbers_of (ds ++ zeros),
      symbols-run zeros ds (10 ∷ [])
          (λ j within. subst (MayStand (length ds + j)) (sym (get_or-replicate n j 48 0 (omega (arith, within, long)))) (zero-stands (length ds + j)))
          (omega (arith, long, short))
          ∙ cond-true (is_width (length (ds ++ zeros))) _ _ (ap is_width full),
    )

open-digits : (xs ds : List ℕ) → AreSymbolDigits ds → length ds ≤ 1584 → symbols_at ds xs ≡ Open → Completes ds xs
open-digits [] ds right short e = ends ds right short
open-digits (x ∷ xs) ds right short e = elim (chosen (x == 10) _ _ _ e) [
  | inl p ↦ elim (chosen (is_width (length ds)) _ _ _ p.1) [
    | inl w ↦ absurd (let h : Line (numbers_of ds) xs ≡ Open = w.1 in cc)
    | inr w ↦ absurd (let h : Refused BadWidth ≡ Open = w.1 in cc)
  ]
  | inr p ↦ elim (chosen (length ds == 1584) _ _ _ p.1) [
    | inl f ↦ absurd (let h : Refused BadWidth ≡ Open = f.1 in cc)
    | inr f ↦ elim (chosen (is_digit x 16) _ _ _ f.1) [
      | inl d ↦ elim (chosen (is_too_great (length ds) x) _ _ _ d.1) [
        | inl g ↦ absurd (let h : Refused Symbol ≡ Open = g.1 in cc)
        | inr g ↦ (
            let other : length ds ≡ 1584 → ⊥ = eqb-false (length ds) 1584 f.0 in
            let rest = open-digits xs (ds ++ x ∷ []) (pushed ds x right (may (length ds) x d.0 g.0)) (omega (arith, length-append ds (x ∷ []), short, other)) g.1 in (
              rest.0,
              rest.1,
              cond-false (x == 10) _ _ p.0 ∙ cond-false (length ds == 1584) _ _ f.0 ∙ cond-true (is_digit x 16) _ _ d.0
                  ∙ cond-false (is_too_great (length ds) x) _ _ g.0 ∙ rest.2,
            ))
      ]
      | inr d ↦ absurd (let h : Refused BadHex ≡ Open = d.1 in cc)
    ]
  ]
]

pub refuses-symbols : RefusesSymbolsAtTheFirst
refuses-symbols = (
  λ octets e. open-digits octets [] none (omega arith) e,
  λ octets more kind numbers rest refused whole.
      refused-no-line _ kind numbers rest (refused-more symbol_line_at octets more kind symbol_grammar refused) whole,
)
