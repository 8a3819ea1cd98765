-- The lines of watchers, put in parts.
use Rattle.std.proofs.Common.{◌≡◌, ℕ, zero, suc, ◌+◌, ◌-◌, ◌<◌, ◌≤◌, List, [], ◌∷◌, ◌++◌, take, drop, get_or, length, map, Option, Some, None, sym, ◌∙◌, ap, subst, refl, append-nil, add-one, codes, arith}
use Rattle.std.specs.Prelude.{slice_get, decimal}
use Rattle.std.proofs.lemmas.List.{take-append-drop, take_more, take_all, map-append}
use Rattle.std.proofs.lemmas.List.Concat.{flat_map-append}
use Rattle.pcs_watch.specs.Watching.{Seen as Watched}
use Rattle.pcs_drive.specs.Writing.{Puts, BreaksOff, BreaksOffBefore}
use Rattle.pcs_drive.proofs.PuttingLong.{breaks-more}
use Rattle.pcs_drive.proofs.PuttingMore.{puts-none, puts-both, breaks-later, breaks-within}
use Rattle.pcs_top.specs.Reporting.{numbers_text, tally_line, tally_text}

-- ---- numbers
at-some : (xs : List ℕ) (n x : ℕ) → Some x ≡ slice_get xs n → take (suc n) xs ≡ take n xs ++ x ∷ []
at-some [] zero x e = absurd (cc)
at-some [] (suc n) x e = absurd (cc)
at-some (y ∷ ys) zero x e = cc
at-some (y ∷ ys) (suc n) x e = ap (λ ts. y ∷ ts) (at-some ys n x e)

pub at-within : (xs : List ℕ) (n x : ℕ) → Some x ≡ slice_get xs n → n + 1 ≤ length xs
at-within [] zero x e = absurd (cc)
at-within [] (suc n) x e = absurd (cc)
at-within (y ∷ ys) zero x e = omega arith
at-within (y ∷ ys) (suc n) x e = omega (arith, at-within ys n x e)

pub at-smaller : (xs : List ℕ) (n x : ℕ) → Some x ≡ slice_get xs n → length xs - (n + 1) < length xs - n
at-smaller xs n x e = omega (arith, at-within xs n x e)

at-none : (xs : List ℕ) (n : ℕ) → None ≡ slice_get xs n → take n xs ≡ xs
at-none [] zero e = refl
at-none [] (suc n) e = refl
at-none (y ∷ ys) zero e = absurd (cc)
at-none (y ∷ ys) (suc n) e = ap (λ ts. y ∷ ts) (at-none ys n e)

numbers-append : (xs ys : List ℕ) → numbers_text (xs ++ ys) ≡ numbers_text xs ++ numbers_text ys
unfolding numbers_text
numbers-append xs ys = flat_map-append (λ n. codes " " ++ decimal n) xs ys

-- one number more
numbers-more : (xs : List ℕ) (i x : ℕ) → Some x ≡ slice_get xs i → numbers_text (take (i + 1) xs) ≡ numbers_text (take i xs) ++ (32 ∷ decimal x)
unfolding numbers_text
numbers-more xs i x e =
    ap (λ k. numbers_text (take k xs)) (add-one i) ∙ ap numbers_text (at-some xs i x e) ∙ numbers-append (take i xs) (x ∷ [])
    ∙ ap (λ t. numbers_text (take i xs) ++ t) (append-nil (32 ∷ decimal x))

pub puts-number : (held mid now : Option (List ℕ)) (old between new xs : List ℕ) (i x : ℕ) → Some x ≡ slice_get xs i
    → Puts held old (numbers_text (take i xs)) mid between → Puts mid between (32 ∷ decimal x) now new
    → Puts held old (numbers_text (take (i + 1) xs)) now new
puts-number held mid now old between new xs i x e p q =
    subst (λ t. Puts held old t now new) (sym (numbers-more xs i x e))
    (puts-both held mid now old between new (numbers_text (take i xs)) (32 ∷ decimal x) p q)

pub breaks-number : (held mid now : Option (List ℕ)) (old between xs : List ℕ) (i x : ℕ) → Some x ≡ slice_get xs i
    → Puts held old (numbers_text (take i xs)) mid between → BreaksOff mid between (32 ∷ decimal x) now
    → BreaksOff held old (numbers_text xs) now
breaks-number held mid now old between xs i x e p failed =
    subst (λ t. BreaksOff held old t now) (sym (numbers-append (take (i + 1) xs) (drop (i + 1) xs)) ∙ ap numbers_text (take-append-drop (i + 1) xs))
    (breaks-more held now old (numbers_text (take (i + 1) xs)) (numbers_text (drop (i + 1) xs))
    (subst (λ t. BreaksOff held old t now) (sym (numbers-more xs i x e))
    (breaks-later held mid now old between (numbers_text (take i xs)) (32 ∷ decimal x) p failed)))

pub puts-numbers : (held now : Option (List ℕ)) (old new xs : List ℕ) (i : ℕ) → None ≡ slice_get xs i
    → Puts held old (numbers_text (take i xs)) now new → Puts held old (numbers_text xs) now new
puts-numbers held now old new xs i e p = subst (λ t. Puts held old (numbers_text t) now new) (at-none xs i e) p

pub no-numbers : (held : Option (List ℕ)) (pending : List ℕ) → Puts held pending (numbers_text []) held pending
unfolding numbers_text
no-numbers held pending = puts-none held pending [] refl

-- ---- the line of a watcher: a word, the name, the numbers and the end
module _ (h₀ h₁ h₂ h₃ h₄ : Option (List ℕ)) (p₀ p₁ p₂ p₃ p₄ word name numbers end : List ℕ) where
  pub line-put : Puts h₀ p₀ word h₁ p₁ → Puts h₁ p₁ name h₂ p₂ → Puts h₂ p₂ numbers h₃ p₃ → Puts h₃ p₃ end h₄ p₄
      → Puts h₀ p₀ (word ++ name ++ numbers ++ end) h₄ p₄
  line-put a b c d =
      puts-both h₀ h₃ h₄ p₀ p₃ p₄ (word ++ name ++ numbers) end
      (puts-both h₀ h₂ h₃ p₀ p₂ p₃ (word ++ name) numbers (puts-both h₀ h₁ h₂ p₀ p₁ p₂ word name a b) c) d

  pub line-breaks-name : Puts h₀ p₀ word h₁ p₁ → BreaksOff h₁ p₁ name h₄ → BreaksOff h₀ p₀ (word ++ name ++ numbers ++ end) h₄
  line-breaks-name a failed =
      breaks-more h₀ h₄ p₀ (word ++ name ++ numbers) end
      (breaks-more h₀ h₄ p₀ (word ++ name) numbers (breaks-later h₀ h₁ h₄ p₀ p₁ word name a failed))

  pub line-breaks-numbers : Puts h₀ p₀ word h₁ p₁ → Puts h₁ p₁ name h₂ p₂ → BreaksOff h₂ p₂ numbers h₄ → BreaksOff h₀ p₀ (word ++ name ++ numbers ++ end) h₄
  line-breaks-numbers a b failed =
      breaks-more h₀ h₄ p₀ (word ++ name ++ numbers) end
      (breaks-later h₀ h₂ h₄ p₀ p₂ (word ++ name) numbers (puts-both h₀ h₁ h₂ p₀ p₁ p₂ word name a b) failed)

  pub line-breaks-end : Puts h₀ p₀ word h₁ p₁ → Puts h₁ p₁ name h₂ p₂ → Puts h₂ p₂ numbers h₃ p₃ → BreaksOffBefore h₃ p₃ h₄
      → BreaksOff h₀ p₀ (word ++ name ++ numbers ++ end) h₄
  line-breaks-end a b c failed =
      breaks-within h₀ h₃ h₄ p₀ p₃ (word ++ name ++ numbers) end
      (puts-both h₀ h₂ h₃ p₀ p₂ p₃ (word ++ name) numbers (puts-both h₀ h₁ h₂ p₀ p₁ p₂ word name a b) c) failed

-- ---- watchers
tallies-append : (vs ws : List Watched) → tally_text (vs ++ ws) ≡ tally_text vs ++ tally_text ws
unfolding tally_text
tallies-append vs ws = flat_map-append tally_line vs ws

one-tally : (w : Watched) → tally_text (w ∷ []) ≡ tally_line w
unfolding tally_text
one-tally w = append-nil (tally_line w)

pub no-tallies : (held : Option (List ℕ)) (pending : List ℕ) → Puts held pending (tally_text []) held pending
unfolding tally_text
no-tallies held pending = puts-none held pending [] refl

module _ {T : Type 0} (ws : List T) (view : T → Watched) where
  abbrev pub first_tallies : ℕ → List ℕ
  first_tallies i = tally_text (map view (take i ws))

  tallies-more : (i : ℕ) (w : T) → i < length ws → w ≡ get_or ws i w → first_tallies (i + 1) ≡ first_tallies i ++ tally_line (view w)
  tallies-more i w low is =
      ap tally_text (ap (map view) (take_more ws i w low) ∙ map-append view (take i ws) (get_or ws i w ∷ []))
      ∙ tallies-append (map view (take i ws)) (view (get_or ws i w) ∷ [])
      ∙ ap (λ t. first_tallies i ++ t) (one-tally (view (get_or ws i w)) ∙ ap (λ v. tally_line (view v)) (sym is))

  pub puts-tally : (held mid now : Option (List ℕ)) (old between new : List ℕ) (i : ℕ) (w : T) → i < length ws → w ≡ get_or ws i w
      → Puts held old (first_tallies i) mid between → Puts mid between (tally_line (view w)) now new → Puts held old (first_tallies (i + 1)) now new
  puts-tally held mid now old between new i w low is p q =
      subst (λ t. Puts held old t now new) (sym (tallies-more i w low is))
      (puts-both held mid now old between new (first_tallies i) (tally_line (view w)) p q)

  all-parts : (i : ℕ) → tally_text (map view ws) ≡ first_tallies i ++ tally_text (map view (drop i ws))
  all-parts i =
      ap (λ vs. tally_text (map view vs)) (sym (take-append-drop i ws)) ∙ ap tally_text (map-append view (take i ws) (drop i ws))
      ∙ tallies-append (map view (take i ws)) (map view (drop i ws))

  pub breaks-tally : (held mid now : Option (List ℕ)) (old between : List ℕ) (i : ℕ) (w : T) → i < length ws → w ≡ get_or ws i w
      → Puts held old (first_tallies i) mid between → BreaksOff mid between (tally_line (view w)) now → BreaksOff held old (tally_text (map view ws)) now
  breaks-tally held mid now old between i w low is p failed =
      subst (λ t. BreaksOff held old t now) (sym (all-parts (i + 1)))
      (breaks-more held now old (first_tallies (i + 1)) (tally_text (map view (drop (i + 1) ws)))
      (subst (λ t. BreaksOff held old t now) (sym (tallies-more i w low is))
      (breaks-later held mid now old between (first_tallies i) (tally_line (view w)) p failed)))

  pub puts-tallies : (held now : Option (List ℕ)) (old new : List ℕ) (i : ℕ) → i ≡ length ws → Puts held old (first_tallies i) now new
      → Puts held old (tally_text (map view ws)) now new
  puts-tallies held now old new i end p = subst (λ vs. Puts held old (tally_text (map view vs)) now new) (ap (λ n. take n ws) end ∙ take_all (length ws) ws (omega arith)) p
