-- The state that a history leaves, and what an octet more makes of it.
use Rattle.std.proofs.Common.{◌≡◌, ℕ, ◌+◌, ◌-◌, ◌*◌, ◌<◌, ◌≤◌, List, [], ◌∷◌, ◌++◌, length, drop, Option, Some, None, refl, sym, ap, ap₂, ◌∙◌, inl, inr, arith, append-nil, append_assoc, length-append, lt-ltb}
use Rattle.std.specs.Prelude.{slice_index, nat_lt, ◌==◌, if◌then◌else◌, option_map, take}
use Rattle.std.proofs.lemmas.Bool.{cases_lt, le-ltb}
use Rattle.circular_buffer.specs.Buffer.{keep_last}
use Rattle.bit_lists.specs.Bits.{bits, all_bits}
use Rattle.bit_lists.proofs.Facts.{all_bits-push, all_bits-nil, length-all_bits}
use Rattle.lane_lock.specs.declared.Found.{Found}
use Rattle.marker_table.specs.Matches.{window}
use Rattle.lane_lock.specs.Locks.{found}
use Rattle.lane_lock.specs.Seen.{mark, row_at, row_of, padded, silence, last_octets, earliest_of, next_found, Lock, Hearing, heard, found_of, state_of, IsQuiet}
use Rattle.lane_lock.proofs.Stable.{found-append}
use Rattle.lane_lock.proofs.Founds.{Columns, quiet-found, found-nothing, past-none, found-step, found-early}
use Rattle.lane_lock.proofs.Rows.{column-row_at, window-padded, row_at-push, keep_last-push, row_before, kept_row, row_of_line}

-- nothing taken yet
pub begun : (p : ℕ) → record { period = 680 * p; from = 0; taken = 0; kept = silence; room = 680 * p + 120; found = None } ≡ state_of (record { period = p; octets = []; from = 0 })
unfolding state_of
begun p =
    let nothing : found (680 * p) [] 0 ≡ None = found-nothing (680 * p) 0 [] (λ n le. past-none (680 * p) n [] (omega arith)) in
    let nothing' : None ≡ found (680 * p) (all_bits 8 []) 0 = sym nothing ∙ ap (λ xs. found (680 * p) xs 0) (sym (all_bits-nil 8)) in
    let none : 0 ≡ length (silence ++ []) - (85 * p + 15) = omega arith in
    let kept : silence ≡ keep_last (85 * p + 15) (silence ++ []) = sym (append-nil silence) ∙ ap (λ n. drop n (silence ++ [])) none in
    let make : List ℕ → Option Found → Lock = λ k f. record { period = 680 * p; from = 0; taken = 0; kept = k; room = 680 * p + 120; found = f } in
    ap₂ make kept nothing'

pub length-heard : (h : Hearing) (o : ℕ) → 8 * length h.octets + 8 ≡ 8 * length (h.octets ++ o ∷ [])
length-heard h o = let size : length (h.octets ++ o ∷ []) ≡ length h.octets + 1 = length-append h.octets (o ∷ []) in omega (arith, size)

-- an octet more
pub went_on : (h : Hearing) (o : ℕ) (f : Option Found) → f ≡ found_of (heard h o)
    → record {
      period = 680 * h.period;
      from = h.from;
      taken = 8 * length h.octets + 8;
      kept = keep_last (85 * h.period + 15) (keep_last (85 * h.period + 15) (silence ++ h.octets) ++ o ∷ []);
      room = 680 * h.period + 120;
      found = f;
    }
    ≡ state_of (heard h o)
unfolding state_of
went_on h o f is =
    let make : ℕ → List ℕ → Option Found → Lock = λ t k g. record { period = 680 * h.period; from = h.from; taken = t; kept = k; room = 680 * h.period + 120; found = g } in
    let kept : keep_last (85 * h.period + 15) (keep_last (85 * h.period + 15) (silence ++ h.octets) ++ o ∷ []) ≡ keep_last (85 * h.period + 15) (silence ++ (h.octets ++ o ∷ [])) =
    keep_last-push (85 * h.period + 15) (silence ++ h.octets) o ∙ ap (keep_last (85 * h.period + 15)) (append_assoc silence h.octets (o ∷ [])) in
    ap (λ t. make t (keep_last (85 * h.period + 15) (keep_last (85 * h.period + 15) (silence ++ h.octets) ++ o ∷ [])) f) (length-heard h o)
    ∙ ap₂ (make (8 * length (h.octets ++ o ∷ []))) kept is

-- what is found with an octet more
pub found-kept : (h : Hearing) (o : ℕ) (f : Found) → found_of h ≡ Some f → Some f ≡ found_of (heard h o)
found-kept h o f e =
    sym (ap (λ xs. found (680 * h.period) xs h.from) (all_bits-push 8 h.octets o) ∙ found-append (680 * h.period) h.from (all_bits 8 h.octets) (bits 8 o) f e)

-- a marker period isn't over yet
found-waiting : (h : Hearing) (o : ℕ) → length h.octets < 85 * h.period → None ≡ found_of (heard h o)
found-waiting h o few =
    let whole = length-all_bits 8 (h.octets ++ o ∷ []) in
    let more = length-heard h o in
    sym (found-early (680 * h.period) h.from (all_bits 8 (h.octets ++ o ∷ [])) (omega (arith, whole, more, few)))

columns : (h : Hearing) (o : ℕ) → 1 ≤ h.period → 85 * h.period ≤ length h.octets →
    Columns (680 * h.period) (8 * length h.octets) (all_bits 8 (h.octets ++ o ∷ [])) (row_at (padded (h.octets ++ o ∷ [])) (8 * length h.octets)) (row_at (padded h.octets) (8 * (length h.octets - 85 * h.period)))
unfolding Columns
columns h o some enough j n low place =
    let os : List ℕ = h.octets ++ o ∷ [] in
    let at : 8 * length h.octets + j + 1 ≡ n + 680 * h.period + 120 = omega arith in
    let at' : 8 * (length h.octets - 85 * h.period) + j + 1 ≡ n + 120 = omega arith in (
      column-row_at (padded os) (8 * length h.octets) j low ∙ ap (λ k. mark (window (padded os) k)) at ∙ ap mark (window-padded os (n + 680 * h.period)),
      ap (λ r. slice_index r j) (sym (row_at-push h.octets o (length h.octets - 85 * h.period) (omega arith)))
          ∙ column-row_at (padded os) (8 * (length h.octets - 85 * h.period)) j low ∙ ap (λ k. mark (window (padded os) k)) at' ∙ ap mark (window-padded os n),
    )

found-next : (h : Hearing) (o : ℕ) → 1 ≤ h.period → found_of h ≡ None → 85 * h.period ≤ length h.octets
    → earliest_of (row_at (padded (h.octets ++ o ∷ [])) (8 * length h.octets)) (row_at (padded h.octets) (8 * (length h.octets - 85 * h.period))) (8 * length h.octets) h.from (680 * h.period)
    ≡ found_of (heard h o)
found-next h o some none enough =
    let push = all_bits-push 8 h.octets o in
    let size = length-all_bits 8 h.octets in
    let more = length-all_bits 8 (h.octets ++ o ∷ []) in
    let longer = length-heard h o in
    let step : found (680 * h.period) (all_bits 8 h.octets ++ bits 8 o) h.from
    ≡ earliest_of (row_at (padded (h.octets ++ o ∷ [])) (8 * length h.octets)) (row_at (padded h.octets) (8 * (length h.octets - 85 * h.period))) (8 * length h.octets) h.from (680 * h.period) =
    found-step (680 * h.period) h.from (8 * length h.octets) (all_bits 8 h.octets) (bits 8 o)
    (row_at (padded (h.octets ++ o ∷ [])) (8 * length h.octets)) (row_at (padded h.octets) (8 * (length h.octets - 85 * h.period)))
    (omega arith) (rw (← push) (omega arith)) none (rw (← push) (columns h o some enough)) in
    sym step ∙ ap (λ xs. found (680 * h.period) xs h.from) (sym push)

-- by the rows of the octet and of the one a marker period before it
pub found-is : (h : Hearing) (o : ℕ) → 1 ≤ h.period
    → next_found (found_of h) (row_before h.octets (85 * h.period)) (row_at (padded (h.octets ++ o ∷ [])) (8 * length h.octets)) (8 * length h.octets) h.from (680 * h.period)
    ≡ found_of (heard h o)
unfolding next_found row_before
found-is h o some = go (found_of h) refl
  where
    row : List ℕ
    row = row_at (padded (h.octets ++ o ∷ [])) (8 * length h.octets)

    old : List ℕ
    old = row_at (padded h.octets) (8 * (length h.octets - 85 * h.period))

    go : (f : Option Found) → found_of h ≡ f
        → next_found (found_of h) (if nat_lt (length h.octets) (85 * h.period) then None else Some old) row (8 * length h.octets) h.from (680 * h.period) ≡ found_of (heard h o)
    go (Some f) is =
        ap (λ g. next_found g (if nat_lt (length h.octets) (85 * h.period) then None else Some old) row (8 * length h.octets) h.from (680 * h.period)) is ∙ found-kept h o f is
    go None is =
        ap (λ g. next_found g (if nat_lt (length h.octets) (85 * h.period) then None else Some old) row (8 * length h.octets) h.from (680 * h.period)) is
        ∙ elim (cases_lt (length h.octets) (85 * h.period)) [
          | inl few ↦
              ap (λ b. next_found None (if b then None else Some old) row (8 * length h.octets) h.from (680 * h.period)) (lt-ltb (length h.octets) (85 * h.period) few)
              ∙ found-waiting h o few
          | inr enough ↦
              ap (λ b. next_found None (if b then None else Some old) row (8 * length h.octets) h.from (680 * h.period)) (le-ltb (length h.octets) (85 * h.period) enough)
              ∙ found-next h o some is enough
        ]

-- an octet more in which no window ends that matches
pub found-quiet : (h : Hearing) (o : ℕ) → 1 ≤ h.period → IsQuiet h o → found_of h ≡ found_of (heard h o)
found-quiet h o some quiet =
    quiet-found (found_of h) (row_before h.octets (85 * h.period)) (row_at (padded (h.octets ++ o ∷ [])) (8 * length h.octets)) (8 * length h.octets) h.from (680 * h.period) quiet
    ∙ found-is h o some

-- by the octets of a ring
pub found-look : (h : Hearing) (o : ℕ) (octets items : List ℕ) (before : Option (List ℕ)) (c : ℕ) → 1 ≤ h.period
    → octets ≡ last_octets h.octets ++ o ∷ []
    → items ≡ keep_last (85 * h.period + 15) (silence ++ h.octets) → c ≡ 85 * h.period + 15
    → before ≡ (if length items == c then Some (take 16 items) else None)
    → next_found (found_of h) (option_map row_of before) (row_of octets) (8 * length h.octets) h.from (680 * h.period) ≡ found_of (heard h o)
found-look h o octets items before c some last kept room was =
    let old : option_map row_of before ≡ row_before h.octets (85 * h.period) =
    ap (option_map row_of) was
    ∙ ap₂ (λ xs n. option_map row_of (if length xs == n then Some (take 16 xs) else None)) kept room
    ∙ kept_row (85 * h.period) h.octets (omega (arith, some)) in
    ap₂ (λ b r. next_found (found_of h) b r (8 * length h.octets) h.from (680 * h.period)) old (ap row_of last ∙ row_of_line h.octets o)
    ∙ found-is h o some
