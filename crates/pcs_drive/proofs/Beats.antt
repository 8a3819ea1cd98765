-- The beats of some octets, one by one.
use Rattle.std.proofs.Common.{◌≡◌, ℕ, zero, suc, ◌+◌, ◌*◌, ◌/◌, ◌<◌, List, [], ◌∷◌, ◌++◌, length, take, drop, Option, refl, sym, ◌∙◌, ap, subst, arith, add-one, append_assoc, length-append}
use Rattle.std.specs.List.{flat_map, AllByRecursion}
use Rattle.std.proofs.lemmas.List.{take_all, drop-drop, take-append-drop}
use Rattle.std.proofs.Math.Seq.{take-append_seam, drop-append_seam}
use Rattle.pcs_io.specs.Octets.{AppendsFront}
use Rattle.pcs_drive.specs.CaptureCommand.{BeatsText}
use Rattle.pcs_drive.specs.Tasks.{AreBeats, Grows}
use Rattle.pcs_drive.proofs.WritingLemmas.{front-more}

-- so many beats have sixteen times as many octets
beats-length : (beats : List (List ℕ)) → AllByRecursion (λ beat. length beat ≡ 16) beats → length (flat_map (λ beat. beat) beats) ≡ 16 * length beats
beats-length [] all = refl
beats-length (beat ∷ beats) all = omega (arith, length-append beat (flat_map (λ b. b) beats), all.0, beats-length beats all.1)

pub beats-count : (beats : List (List ℕ)) (octets : List ℕ) → AreBeats beats octets → length octets ≡ 16 * length beats
beats-count beats octets are = sym (ap length are.joined) ∙ beats-length beats are.each

-- beat i, behind the first i
next-beat : (beats : List (List ℕ)) (i : ℕ) → AllByRecursion (λ beat. length beat ≡ 16) beats → i < length beats
    → take (suc i) beats ≡ take i beats ++ take 16 (drop (16 * i) (flat_map (λ beat. beat) beats)) ∷ []
next-beat [] i all low = absurd (omega arith)
next-beat (beat ∷ beats) zero all low =
    let rest = flat_map (λ b. b) beats in
    ap (λ b. b ∷ []) (sym (take-append_seam beat rest) ∙ ap (λ n. take n (beat ++ rest)) all.0)
next-beat (beat ∷ beats) (suc i) all low =
    let rest = flat_map (λ b. b) beats in
    let behind : drop (16 * suc i) (beat ++ rest) ≡ drop (16 * i) rest =
    ap (λ n. drop n (beat ++ rest)) {x = 16 * suc i} {y = 16 + 16 * i} (omega arith) ∙ sym (drop-drop (16 * i) 16 (beat ++ rest))
    ∙ ap (drop (16 * i)) (ap (λ n. drop n (beat ++ rest)) (sym all.0) ∙ drop-append_seam beat rest) in
    ap (λ bs. beat ∷ bs) (next-beat beats i all.1 (omega (arith, low)) ∙ ap (λ o. take i beats ++ take 16 o ∷ []) (sym behind))

pub one-more-beat : (beats others : List (List ℕ)) (octets : List ℕ) (i : ℕ) → AreBeats beats octets → i < length octets / 16
    → others ++ take (i + 1) beats ≡ (others ++ take i beats) ++ take 16 (drop (16 * i) octets) ∷ []
one-more-beat beats others octets i are low =
    let next = next-beat beats i are.each (omega (arith, low, beats-count beats octets are)) in
    ap (λ n. others ++ take n beats) (add-one i)
    ∙ ap (λ bs. others ++ bs) (next ∙ ap (λ o. take i beats ++ take 16 (drop (16 * i) o) ∷ []) are.joined)
    ∙ sym (append_assoc others (take i beats) (take 16 (drop (16 * i) octets) ∷ []))

pub all-beats : (beats others : List (List ℕ)) (octets : List ℕ) (n : ℕ) → AreBeats beats octets → n ≡ length octets / 16
    → others ++ take n beats ≡ others ++ beats
all-beats beats others octets n are is = ap (λ bs. others ++ bs) (take_all n beats (omega (arith, is, beats-count beats octets are)))

-- a front of the text of fewer beats is one of the text of all
pub fewer-beats : (text : BeatsText) (start now : Option (List ℕ)) (beats more : List (List ℕ)) (n : ℕ) → Grows text
    → AppendsFront start now (text.so_far (beats ++ take n more)) → AppendsFront start now (text.so_far (beats ++ more))
fewer-beats text start now beats more n grows front =
    let few = beats ++ take n more in
    let (rest, longer) = grows few (drop n more) in
    let all : few ++ drop n more ≡ beats ++ more = append_assoc beats (take n more) (drop n more) ∙ ap (λ bs. beats ++ bs) (take-append-drop n more) in
    subst (AppendsFront start now) (sym longer ∙ ap (text.so_far) all) (front-more start now (text.so_far few) rest front)
