-- A capture that becomes levels comes back.
use Rattle.std.proofs.Common.{◌≡◌, ℕ, zero, suc, ◌+◌, ◌<◌, Bool, true, false, cond, List, [], ◌∷◌, ◌++◌, length, take, drop, get_or, Result, Ok, Err, refl, sym, ◌∙◌, ap, subst, arith, inl, inr}
use Rattle.std.specs.Prelude.{nat_le}
use Rattle.std.specs.List.{flat_map}
use Rattle.std.proofs.lemmas.List.{get_or-drop, get_or-append_right, get_or_append_left, get_or_past}
use Rattle.std.proofs.lemmas.Bool.{cases_lt}
use Rattle.pma_link.specs.Levels.{level_beats}
use Rattle.pma_link.specs.LevelLaws.{IsBeat}
use Rattle.pma_link.proofs.LevelBeats.{level_beats_as_many}
use Rattle.pma_link.proofs.PhasedBeats.{beats_give_back}
use Rattle.pcs_io.specs.Beats.{beat_at}
use Rattle.pcs_io.specs.Grammars.{Begins}
use Rattle.pcs_io.specs.Headers.{header_of, header2_of}
use Rattle.pcs_io.specs.Captures.{Whole, Short, settled, is_version2, header_at}
use Rattle.pcs_io.specs.declared.header.Header.{Header}
use Rattle.pcs_io.specs.declared.header.BadHeader.{BadHeader}
use Rattle.pcs_io.proofs.BeatPieces.{is-piece, beat-front}
use Rattle.pcs_io.proofs.HeaderRanges.{header-ranged}
use Rattle.pcs_io.proofs.HeadersBack.{levels-at}
use Rattle.pcs_late.specs.Demultiplexing.{under_header}
use Rattle.pcs_late.specs.Laws.{levels_header, CapturesAreCarried}

-- each is an octet
abbrev AreSmall : List ℕ → Type 0
AreSmall octets = (k : ℕ) → get_or octets k 0 < 256

small-front : (front rest : List ℕ) → AreSmall (front ++ rest) → AreSmall front
small-front front rest small k = elim (cases_lt k (length front)) [
  | inl low ↦ subst (λ n. n < 256) (get_or_append_left front rest 0 k low) (small k)
  | inr high ↦ omega (arith, get_or_past front k 0 high)
]

small-behind : (front rest : List ℕ) → AreSmall (front ++ rest) → AreSmall rest
small-behind front rest small k =
    subst (λ n. n < 256)
    (get_or-append_right front rest (length front) (length front + k) 0 refl (omega arith) ∙ ap (λ n. get_or rest n 0) (omega arith)) (small (length front + k))

small-drop : (n : ℕ) (octets : List ℕ) → AreSmall octets → AreSmall (drop n octets)
small-drop n octets small k = subst (λ o. o < 256) (sym (get_or-drop n octets k 0)) (small (n + k))

-- what comes behind a header
header-behind : (octets : List ℕ) (header : Header) (behind : List ℕ) → header_at octets ≡ Whole header behind → (n : ℕ) × (behind ≡ drop n octets)
unfolding header_at
header-behind octets header behind is = by (nat_le 16 _) (is_version2 octets) (nat_le 32 _) (header2_of (take 32 octets)) (header_of (take 16 octets)) is
  where
    by : (a b c : Bool) (r t : Result Header BadHeader)
        → cond a (cond b (cond c (settled r (drop 32 octets)) Short) (settled t (drop 16 octets))) Short ≡ Whole header behind
        → (n : ℕ) × (behind ≡ drop n octets)
    by false b c r t is = absurd (cc)
    by true true true (Ok h) t is = (32, cc)
    by true true true (Err bad) t is = absurd (cc)
    by true true false r t is = absurd (cc)
    by true false c r (Ok h) is = (16, cc)
    by true false c r (Err bad) is = absurd (cc)

-- beats in front of octets are beats
beats-are : (octets : List ℕ) (beats : List (List ℕ)) (rest : List ℕ) → AreSmall octets → Begins beat_at octets beats rest
    → (b : ℕ) → b < length beats → IsBeat (get_or beats b [])
beats-are octets [] rest small begins b low = absurd (omega (arith, low))
beats-are octets (beat ∷ beats) rest small (behind, is, begins) zero low =
    let piece = is-piece octets beat behind is in
    record { size = piece.sixteen; octets = small-front beat behind (subst AreSmall piece.parts small) }
beats-are octets (beat ∷ beats) rest small (behind, is, begins) (suc b) low =
    let piece = is-piece octets beat behind is in
    beats-are behind beats rest (small-behind beat behind (subst AreSmall piece.parts small)) begins b (omega (arith, low))

-- beats one behind the other, and nothing more
begins-joined : (beats : List (List ℕ)) → ((b : ℕ) → b < length beats → IsBeat (get_or beats b [])) → Begins beat_at (flat_map (λ beat. beat) beats) beats []
begins-joined [] are = refl
begins-joined (beat ∷ beats) are =
    let rest = flat_map (λ b. b) beats in
    (rest, beat-front beat rest (are 0 (omega arith)).size, begins-joined beats (λ b low. are (suc b) (omega (arith, low))))

pub captures_are_carried : CapturesAreCarried
captures_are_carried precode octets header beats small (rest, (behind, is, begins), none, few) =
    let (n, same) = header-behind octets header behind is in
    let are = beats-are behind beats rest (subst AreSmall (sym same) (small-drop n octets small)) begins in
    let many = level_beats_as_many precode beats in
    let out = level_beats precode beats in
    let ranged = header-ranged octets header behind is in
    let out_are : (b : ℕ) → b < length out → IsBeat (get_or out b []) = λ b low. many.1 b (omega (arith, low, many.0)) in
    record {
      opens = (
        [],
        (flat_map (λ beat. beat) out, levels-at (levels_header precode header) (flat_map (λ beat. beat) out) ranged, begins-joined out out_are),
        refl,
        omega arith,
      );
      back = ap (under_header (levels_header precode header)) (beats_give_back precode beats are);
    }
