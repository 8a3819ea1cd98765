-- The codeword with a given message: there is one, which the register gives, and no other. And the laws of codewords that are near.
use Rattle.std.proofs.Common.{◌≡◌, ℕ, zero, suc, ◌+◌, List, [], ◌∷◌, ◌++◌, length, take, drop, get_or, replicate, refl, sym, ap, ◌∙◌, subst, arith, ◌<◌, ◌≤◌, ◌⊎◌, inl, inr, None}
use Rattle.std.proofs.lemmas.List.{length-take, take-append-drop}
use Rattle.std.proofs.lemmas.Simd.{get_or-replicate, length-replicate}
use Rattle.gf1024.specs.Symbol.{Symbol, gf, zero_symbol, sum_of}
use Rattle.rs_code.specs.Code.{IsCodeword, distance}
use Rattle.rs_code.specs.Near.{codeword_near, codeword_of}
use Rattle.rs_code.specs.Laws.{CodewordsAreDistant, OneIsNear, NearIsTheCodeword, CodedIsTheCodeword, MembersAreDistant, AtMostOneIsNear, NearIsTheMember, CodedIsTheMember, ValuesOfPolynomials}
use Rattle.field_base.proofs.Value.{value_plus, value_times, slope_times}
use Rattle.gf1024.proofs.FieldLaws.{laws}
use Rattle.std.proofs.lemmas.Bool.{cases_lt}
use Rattle.rs_code.proofs.Distance.{distant}
use Rattle.rs_code.proofs.Encoder.{IsLow, shifted, IsRest, length_shifted, rest_first, rest_next, rest_last}
use Rattle.rs_code.proofs.Generator.{generator_low, length_low, low_at_root}
use Rattle.rs_code.proofs.Near.{codeword_of_is, near_is_codeword, near_some, near_none, near_is_none, one_near}

drop_front : (n : ℕ) (p m : List Symbol) → length p ≡ n → drop n (p ++ m) ≡ m
drop_front zero [] m e = refl
drop_front zero (s ∷ p) m e = absurd (omega arith)
drop_front (suc n) [] m e = absurd (omega arith)
drop_front (suc n) (s ∷ p) m e = drop_front n p m (omega arith)

-- any code whose generator has n + 1 roots
module _ (n : ℕ) (low : List Symbol) (is : IsLow (suc n) (suc n) low) where
  -- the register once the message is taken, from its highest place down
  unfoldable register : List Symbol → List Symbol
  register [] = replicate (suc n) zero_symbol
  register (m ∷ ms) = shifted n low (sum_of m (get_or (register ms) n zero_symbol)) (register ms)

  register_rest : (m : List Symbol) → (length (register m) ≡ suc n) × IsRest (suc n) (suc n) (register m) m
  unfolding register
  register_rest [] =
      let zeros : List Symbol = replicate (suc n) zero_symbol in
      let long : length zeros ≡ suc n = length-replicate (suc n) zero_symbol in
      (long, rest_first (suc n) (suc n) zeros long (λ k less. get_or-replicate (suc n) k zero_symbol zero_symbol less))
  register_rest (m ∷ ms) =
      let h = register_rest ms in
      let feedback = sum_of m (get_or (register ms) n zero_symbol) in
      (length_shifted (suc n) n low is feedback (register ms) h.0, rest_next (suc n) n low is feedback m (register ms) ms h.0 refl h.1)

  pub codeword_of_message : (k : ℕ) → suc n + k ≤ 1023 → CodedIsTheCodeword (suc n) k
  codeword_of_message k fits m c long = (there, only)
    where
      one : (p : List Symbol) → length p ≡ suc n → IsCodeword (suc n) (suc n + k) (p ++ m) → p ++ m ≡ codeword_of (suc n) m
      one p long_p h = codeword_of_is (suc n) p m long_p (omega arith)
          (subst (λ z. IsCodeword (suc n) (suc n + z) (p ++ m)) (sym long) h)

      p : List Symbol
      p = register m

      member : IsCodeword (suc n) (suc n + k) (p ++ m)
      member =
          let h = register_rest m in
          subst (λ z. IsCodeword (suc n) (suc n + z) (p ++ m)) long (rest_last (suc n) p m h.0 h.1)

      found : p ++ m ≡ codeword_of (suc n) m
      found = one p (register_rest m).0 member

      there : c ≡ codeword_of (suc n) m → IsCodeword (suc n) (suc n + k) c × (drop (suc n) c ≡ m)
      there e =
          let same : p ++ m ≡ c = found ∙ sym e in (
            subst (IsCodeword (suc n) (suc n + k)) same member,
            sym (ap (drop (suc n)) same) ∙ drop_front (suc n) p m (register_rest m).0,
          )

      only : IsCodeword (suc n) (suc n + k) c × (drop (suc n) c ≡ m) → c ≡ codeword_of (suc n) m
      only h =
          let parts : c ≡ take (suc n) c ++ m = sym (take-append-drop (suc n) c) ∙ ap (λ z. take (suc n) c ++ z) h.1 in
          parts ∙ one (take (suc n) c) (omega (arith, length-take (suc n) c, h.0.long))
          (subst (IsCodeword (suc n) (suc n + k)) parts h.0)

pub generator_is : IsLow 30 30 generator_low
generator_is = record { long = length_low; values = low_at_root }

pub coded_is : CodedIsTheMember
coded_is = codeword_of_message 29 generator_low generator_is 514 (omega arith)

pub codewords_distant : (r n : ℕ) → n ≤ 1023 → CodewordsAreDistant r n
codewords_distant r n fits c d hc hd ne =
    let more : r < distance c d = distant r c d (hc.long ∙ sym hd.long) (omega (arith, hc.long)) hc.roots hd.roots ne in omega arith

pub one_is_near : (r n t : ℕ) → n ≤ 1023 → t + t ≤ r → OneIsNear r n t
one_is_near r n t fits room w c d long hc hd nc nd = one_near r n w t c d fits room long hc hd nc nd

pub near_is_codewords : (r n t : ℕ) → n ≤ 1023 → t + t ≤ r → NearIsTheCodeword r n t
near_is_codewords r n t fits room = record {
  found = λ w c d long small.
      (near_some r n w d c, λ h. near_is_codeword r n w d c fits (omega arith) long h.0 h.1);
  absent = λ w d. (λ e c member. beyond w d c e member (cases_lt d (distance w c)), near_is_none r n w d);
}
  where
    beyond : (w : List Symbol) (d : ℕ) (c : List Symbol) → codeword_near r n w d ≡ None → IsCodeword r n c
        → (d < distance w c) ⊎ (distance w c ≤ d) → d < distance w c
    beyond w d c e member (inl h) = h
    beyond w d c e member (inr h) = absurd (near_none r n w d c e member h)

pub distant_members : MembersAreDistant
distant_members = codewords_distant 30 544 (omega arith)

pub at_most_one : AtMostOneIsNear
at_most_one = one_is_near 30 544 15 (omega arith) (omega arith)

pub near_is : NearIsTheMember
near_is = near_is_codewords 30 544 15 (omega arith) (omega arith)

pub polynomial_values : ValuesOfPolynomials
polynomial_values = record {
  sum = value_plus gf laws;
  product = value_times gf laws;
  derivative_of_product = slope_times gf laws;
}
