-- A run of hexadecimal digits, and one behind it.
use Rattle.std.proofs.Common.{◌≡◌, ℕ, ◌+◌, ◌-◌, ◌<◌, true, List, inl, inr, take, drop, length, length-drop, ap, sym, ◌∙◌, subst, arith}
use Rattle.std.specs.Prelude.{slice_index}
use Rattle.std.specs.Char.{is_ascii_hexdigit}
use Rattle.std.proofs.lemmas.Bool.{cases_lt}
use Rattle.std.proofs.Math.Seq.{take-length}
use Rattle.std.proofs.lemmas.List.{get_or-drop}

-- the first octets are digits
abbrev pub AreDigits : List ℕ → ℕ → Type 0
AreDigits octets count = (k : ℕ) → k < count → is_ascii_hexdigit (slice_index octets k) ≡ true

-- what is left behind the first octets, as a slice
abbrev behind : List ℕ → ℕ → List ℕ
behind octets count = take (length octets - count) (drop count octets)

pub two-runs : (octets : List ℕ) (count more : ℕ) → AreDigits octets count → AreDigits (behind octets count) more → AreDigits octets (count + more)
two-runs octets count more first second k within = elim (cases_lt k count) [
  | inl low ↦ first k low
  | inr high ↦
      let rest : behind octets count ≡ drop count octets =
      ap (λ n. take n (drop count octets)) (sym (length-drop count octets)) ∙ take-length (drop count octets) in
      let same : slice_index (behind octets count) (k - count) ≡ slice_index octets (count + (k - count)) =
      ap (λ o. slice_index o (k - count)) rest ∙ get_or-drop count octets (k - count) 0 in
      let place : count + (k - count) ≡ k = omega (arith, high) in
      subst (λ n. is_ascii_hexdigit (slice_index octets n) ≡ true) place
      (subst (λ o. is_ascii_hexdigit o ≡ true) same (second (k - count) (omega (arith, within, high))))
]
