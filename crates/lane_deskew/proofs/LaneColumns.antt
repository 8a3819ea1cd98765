-- What locks take, by lanes; and what they keep of it.
use Rattle.std.proofs.Common.{◌≡◌, ℕ, zero, suc, ◌+◌, ◌-◌, ◌*◌, ◌<◌, ◌≤◌, List, [], ◌∷◌, ◌++◌, length, take, drop, map, replicate, Option, Some, None, refl, sym, ap, ap₂, ◌∙◌, arith, append-nil, append_assoc, length-drop, length-append}
use Rattle.std.specs.Prelude.{slice_index, slice_index_or, min, ◌==◌, if◌then◌else◌}
use Rattle.std.proofs.lemmas.List.{drop-append-le, drop_all, drop_more, drop-map, take-map, map-append, length-map}
use Rattle.circular_buffer.specs.Buffer.{Buffer, buffer, keep_last}
use Rattle.bit_lists.specs.Bits.{all_bits}
use Rattle.bit_lists.specs.Places.{for_each}
use Rattle.bit_lists.proofs.ByPlaces.{same_for_each}
use Rattle.bit_lists.proofs.Facts.{length-all_bits}
use Rattle.pcs_bits.specs.Captures.{Capture, longer}
use Rattle.lane_lock.specs.declared.Found.{Found}
use Rattle.lane_lock.specs.Seen.{Hearing, heard, found_of, last_octets, silence as octet_silence}
use Rattle.lane_lock.proofs.Founds.{found-early}
use Rattle.lane_lock.proofs.Rows.{keep_last-push}
use Rattle.lane_lock.proofs.State.{found-look, found-quiet}
use Rattle.lane_deskew.specs.Lanes.{Lanes, LanesStand, column, hearing, shifted, silence, first_column, found_after}
use Rattle.lane_deskew.specs.Alignments.{all_of, locks}
use Rattle.lane_deskew.specs.Near.{misses}
use Rattle.lane_deskew.proofs.Dropped.{locks-hearing}
use Rattle.lane_deskew.proofs.LastBeats.{silent}
use Rattle.lane_deskew.proofs.QuietRows.{quiet_after}

column-longer : (l s : ℕ) (beats : List (List ℕ)) (beat : List ℕ) → s ≤ length beats
    → column l (drop s beats) ++ slice_index beat l ∷ [] ≡ column l (drop s (beats ++ beat ∷ []))
column-longer l s beats beat le = sym (ap (column l) (drop-append-le s beats (beat ∷ []) le) ∙ map-append (λ b. slice_index b l) (drop s beats) (beat ∷ []))

-- a beat more
pub heard-longer : (c : Capture) (from s l : ℕ) (beat : List ℕ) → s ≤ length c.beats
    → heard (hearing c from s l) (slice_index beat l) ≡ hearing (longer c (beat ∷ [])) from s l
heard-longer c from s l beat le = ap (λ os. record { period = c.period; octets = os; from = from - 8 * s }) (column-longer l s c.beats beat le)

-- at most one beat: nothing is found yet
pub nothing-yet : (c : Capture) (from s l : ℕ) → 1 ≤ c.period → length c.beats ≤ s + 1 → None ≡ found_of (hearing c from s l)
nothing-yet c from s l some few =
    let octets : List ℕ = column l (drop s c.beats) in
    let count : length octets ≡ length (drop s c.beats) = length-map (drop s c.beats) (λ beat. slice_index beat l) in
    let left = length-drop s c.beats in
    let size = length-all_bits 8 octets in
    sym (found-early (680 * c.period) (from - 8 * s) (all_bits 8 octets) (omega (arith, count, left, size, some, few)))

-- the octets of lane l in a ring of beats
pub column-kept : (n l : ℕ) (beats : List (List ℕ)) → column l (keep_last n (silence ++ beats)) ≡ keep_last n (octet_silence ++ column l beats)
column-kept n l beats =
    let size : length (map (λ (beat : List ℕ). slice_index beat l) (silence ++ beats))
    ≡ length (silence ++ beats) = length-map (silence ++ beats) (λ (beat : List ℕ). slice_index beat l) in
    sym (drop-map (λ (beat : List ℕ). slice_index beat l) (length (silence ++ beats) - n) (silence ++ beats))
    ∙ ap (λ m. drop (m - n) (map (λ (beat : List ℕ). slice_index beat l) (silence ++ beats))) (sym size)
    ∙ ap (keep_last n) (map-append (λ (beat : List ℕ). slice_index beat l) silence beats ∙ ap (λ zs. zs ++ column l beats) (silent l))

-- what is found in a lane in a beat more
pub found-longer : (s : Lanes) (c : Capture) (from l : ℕ) (beat : List ℕ) → l < 16 → 1 ≤ c.period → LanesStand s c from
    → found_after (slice_index_or s.founds l None) (first_column s.kept s.room l) (column l s.recent ++ slice_index beat l ∷ []) (8 * s.fed) s.from (680 * s.period)
    ≡ found_of (hearing (longer c (beat ∷ [])) from s.start l)
found-longer s c from l beat low some stands =
    let h : Hearing = hearing c from s.start l in
    let o : ℕ = slice_index beat l in
    let rest : List (List ℕ) = drop s.start c.beats in
    let all = stands.all in
    let within : s.start ≤ length c.beats = omega (arith, all) in
    let count : length h.octets ≡ length rest = length-map rest (λ beat. slice_index beat l) in
    let taken : 8 * s.fed ≡ 8 * length h.octets = omega (arith, count, length-drop s.start c.beats, all) in
    let period : 680 * s.period ≡ 680 * h.period = ap (λ p. 680 * p) stands.period in
    let last : column l s.recent ++ o ∷ [] ≡ last_octets h.octets ++ o ∷ [] = ap (λ xs. column l xs ++ o ∷ []) stands.recent
    ∙ ap (λ xs. xs ++ o ∷ []) (column-kept 15 l rest) in
    let kept : column l s.kept ≡ keep_last (85 * h.period + 15) (octet_silence ++ h.octets) = ap (column l) stands.kept
    ∙ column-kept (85 * c.period + 15) l rest in
    let sixteen : column l (take 16 s.kept) ≡ take 16 (column l s.kept) = sym (take-map (λ beat. slice_index beat l) 16 s.kept) in
    let size : length s.kept ≡ length (column l s.kept) = sym (length-map s.kept (λ beat. slice_index beat l)) in
    let before : first_column s.kept s.room l ≡ (if length (column l s.kept) == s.room then Some (take 16 (column l s.kept)) else None) =
    ap₂ (λ n xs. if n == s.room then Some xs else None) size sixteen in
    ap (λ f. found_after f (first_column s.kept s.room l) (column l s.recent ++ o ∷ []) (8 * s.fed) s.from (680 * s.period)) (stands.each l low)
    ∙ ap₂ (λ t f. found_after (found_of h) (first_column s.kept s.room l) (column l s.recent ++ o ∷ []) t f (680 * s.period)) taken stands.place
    ∙ ap (λ p. found_after (found_of h) (first_column s.kept s.room l) (column l s.recent ++ o ∷ []) (8 * length h.octets) h.from p) period
    ∙ found-look h o (column l s.recent ++ o ∷ []) (column l s.kept) (first_column s.kept s.room l) s.room some last kept stands.room before
    ∙ ap found_of (heard-longer c from s.start l beat within)

-- a quiet beat changes nothing of that
pub found-quietly : (s : Lanes) (c : Capture) (from l : ℕ) (beat : List ℕ) → l < 16 → 1 ≤ c.period → LanesStand s c from
    → ((k : ℕ) → 1 ≤ k → k ≤ 8 → 4 ≤ misses k (column l s.recent)) → slice_index_or s.founds l None ≡ found_of (hearing (longer c (beat ∷ [])) from s.start l)
found-quietly s c from l beat low some stands far =
    let h : Hearing = hearing c from s.start l in
    let all = stands.all in
    let within : s.start ≤ length c.beats = omega (arith, all) in
    stands.each l low
    ∙ found-quiet h (slice_index beat l) some
    (quiet_after h.octets (column l s.recent) (slice_index beat l) (ap (column l) stands.recent ∙ column-kept 15 l (drop s.start c.beats)) far)
    ∙ ap found_of (heard-longer c from s.start l beat within)

-- the ring with a beat more
pub kept-longer : (n : ℕ) (beats kept : List (List ℕ)) (beat : List ℕ) (s : ℕ) → s ≤ length beats → kept ≡ keep_last n (silence ++ drop s beats)
    → keep_last n (kept ++ beat ∷ []) ≡ keep_last n (silence ++ drop s (beats ++ beat ∷ []))
kept-longer n beats kept beat s le is =
    ap (λ xs. keep_last n (xs ++ beat ∷ [])) is ∙ keep_last-push n (silence ++ drop s beats) beat
    ∙ ap (keep_last n) (append_assoc silence (drop s beats) (beat ∷ []) ∙ ap (λ xs. silence ++ xs) (sym (drop-append-le s beats (beat ∷ []) le)))

-- a ring in which fifteen beats of zeros were put
pub filled : (b : Buffer (List ℕ)) (n c : ℕ) → b ≡ buffer [] c → n ≡ min 15 (b.capacity - length b.items) → 15 ≤ c
    → buffer (b.items ++ take n silence) b.capacity ≡ buffer silence c
filled b n c e is most =
    let all : n ≡ 15 = is ∙ ap (λ (b : Buffer (List ℕ)). min 15 (b.capacity - length b.items)) e ∙ omega (arith, most) in
    ap₂ (λ (b : Buffer (List ℕ)) (n : ℕ). buffer (b.items ++ take n silence) b.capacity) e all

-- the ring before the first beat
pub kept-none : (n : ℕ) (beats : List (List ℕ)) (s : ℕ) → 15 ≤ n → length beats ≤ s → silence ≡ keep_last n (silence ++ drop s beats)
kept-none n beats s most past =
    let none : 0 ≡ length (silence ++ []) - n = omega (arith, most) in
    sym (append-nil silence) ∙ ap (λ m. drop m (silence ++ [])) none ∙ ap (λ xs. keep_last n (silence ++ xs)) (sym (drop_all s beats past))

-- what stands in the locks is what is found in the capture
pub locks-stand : (s : Lanes) (c : Capture) (from : ℕ) → LanesStand s c from
    → all_of (for_each 16 (λ k. shifted (8 * s.start) (slice_index_or s.founds k None))) ≡ locks c from
locks-stand s c from stands =
    let all = stands.all in
    ap all_of (same_for_each 16 (λ k. shifted (8 * s.start) (slice_index_or s.founds k None)) (λ k. shifted (8 * s.start) (found_of (hearing c from s.start k))) None
    (λ k low. ap (shifted (8 * s.start)) (stands.each k low)))
    ∙ locks-hearing c from s.start stands.early (omega (arith, all))

-- nothing is found in any lane
pub none_at : (n k : ℕ) → slice_index_or (replicate {A = Option Found} n None) k None ≡ None
none_at zero k = refl
none_at (suc n) zero = refl
none_at (suc n) (suc k) = none_at n k

-- the locks with a beat more, where this is what is found then
pub stands-longer : (s : Lanes) (c : Capture) (from : ℕ) (beat : List ℕ) (founds : List (Option Found)) → LanesStand s c from
    → ((l : ℕ) → l < 16 → slice_index_or founds l None ≡ found_of (hearing (longer c (beat ∷ [])) from s.start l))
    → LanesStand (record s { founds = founds; kept = keep_last s.room (s.kept ++ beat ∷ []); recent = keep_last 15 (s.recent ++ beat ∷ []); fed = s.fed + 1 }) (longer c (beat ∷ [])) from
stands-longer s c from beat founds stands each =
    let all = stands.all in
    let within : s.start ≤ length c.beats = omega (arith, all) in
    let size : length (c.beats ++ beat ∷ []) ≡ length c.beats + 1 = length-append c.beats (beat ∷ []) in
    record {
      period = stands.period;
      early = stands.early;
      all = omega (arith, all, size);
      place = stands.place;
      recent = kept-longer 15 c.beats s.recent beat s.start within stands.recent;
      kept = ap (λ n. keep_last n (s.kept ++ beat ∷ [])) stands.room ∙ kept-longer (85 * c.period + 15) c.beats s.kept beat s.start within stands.kept;
      room = stands.room;
      each = each;
    }

-- the beats from the last one on
pub last-rest : (beats : List (List ℕ)) (y : List ℕ) (s : ℕ) → length beats ≡ s + 1 → y ≡ slice_index_or beats s [] → y ∷ [] ≡ drop s beats
last-rest beats y s size is = sym (drop_more beats s [] (omega (arith, size)) ∙ ap₂ (λ b bs. b ∷ bs) (sym is) (drop_all (s + 1) beats (omega (arith, size))))

-- the ring after one beat
pub kept-one : (n : ℕ) (beats : List (List ℕ)) (y : List ℕ) (s : ℕ) → length beats ≡ s + 1 → y ≡ slice_index_or beats s []
    → keep_last n (silence ++ y ∷ []) ≡ keep_last n (silence ++ drop s beats)
kept-one n beats y s size is = ap (λ xs. keep_last n (silence ++ xs)) (last-rest beats y s size is)
