-- The frames between two places are all frames of the columns, where all runs stand between these.
use Rattle.std.proofs.Common.{◌≡◌, ℕ, zero, suc, ◌+◌, ◌-◌, ◌*◌, ◌<◌, ◌≤◌, ◌++◌, Bool, true, false, cond, ◌&&◌, List, [], ◌∷◌, length, map, filter, replicate, Option, Some, None, refl, sym, ap, ap₂, ◌∙◌, arith, inl, inr, length-append}
use Rattle.std.specs.Prelude.{nat_le, nat_lt, option_map}
use Rattle.std.specs.List.{cons_option, list_all, range_with_len}
use Rattle.std.proofs.lemmas.Bool.{cases_eq, le-leb, lt-ltb}
use Rattle.std.proofs.lemmas.List.{length-replicate}
use Rattle.mac_columns.specs.declared.column.Column.{Column}
use Rattle.mac_columns.specs.declared.column.Column.TheVariants.{Start, Data, End, Idle, Error, Set}
use Rattle.mac_columns.specs.Frames.{is_within, run_ahead, frames_of}
use Rattle.mac_columns.specs.RunPlaces.{Run, data_ahead, runs_from, frames_of_runs, stands_clear, frames_between, erased}
use Rattle.mac_columns.proofs.Erased.{frames_of-erased}
use Rattle.mac_columns.proofs.RunOrder.{run_with}
use Rattle.rate_match.specs.Kept.{room}
use Rattle.pcs_send.specs.Transmission.{columns_before, whole_pairs, lacking, begun_columns, sent_columns, idles}
use Rattle.pcs_send.proofs.Filling.{whole_pairs-fits, lacking_full, lacking_fills, tail_pairs}
use Rattle.pcs_send.proofs.Pairs.{columns-periods}

-- ---- runs
-- a run ends within the columns
ahead-within : (columns : List Column) (octets : List ℕ) → run_ahead columns ≡ Some octets → data_ahead columns < length columns
ahead-within [] octets e = let bad : None ≡ Some octets = e in absurd cc
ahead-within (Data d ∷ columns) octets e = by (run_ahead columns) refl e (ahead-within columns)
  where
    by : (o : Option (List ℕ)) → run_ahead columns ≡ o → option_map (λ more. d ++ more) o ≡ Some octets
        → ((more : List ℕ) → run_ahead columns ≡ Some more → data_ahead columns < length columns) → suc (data_ahead columns) < suc (length columns)
    by None none e rest = let bad : None ≡ Some octets = e in absurd cc
    by (Some more) some e rest = omega (arith, rest more some)
ahead-within (End d ∷ columns) octets e = omega arith
ahead-within (Start d ∷ columns) octets e = let bad : None ≡ Some octets = e in absurd cc
ahead-within (Idle ∷ columns) octets e = let bad : None ≡ Some octets = e in absurd cc
ahead-within (Error ∷ columns) octets e = let bad : None ≡ Some octets = e in absurd cc
ahead-within (Set d ∷ columns) octets e = let bad : None ≡ Some octets = e in absurd cc

-- a test that each run of these columns passes
abbrev Passes : (Run → Bool) → ℕ → ℕ → Type 0
Passes test n end = (k m : ℕ) (octets : List ℕ) → n ≤ k → k + 1 + m < end → test (run_with k m octets) ≡ true

abbrev passing : (Run → Bool) → List Run → List Run
passing test rs = filter (λ run. is_within run.octets && test run) rs

abbrev fitting : List Run → List Run
fitting rs = filter (λ run. is_within run.octets) rs

one_more : (test : Run → Bool) (r : Run) (rs : List Run) → test r ≡ true → passing test rs ≡ fitting rs → passing test (r ∷ rs) ≡ fitting (r ∷ rs)
one_more test r rs passes rest =
    ap (λ t. cond (is_within r.octets && t) (r ∷ passing test rs) (passing test rs)) passes ∙ by (is_within r.octets)
  where
    by : (b : Bool) → cond (b && true) (r ∷ passing test rs) (passing test rs) ≡ cond b (r ∷ fitting rs) (fitting rs)
    by true = ap (λ rs. r ∷ rs) rest
    by false = rest

runs-pass : (test : Run → Bool) (n end : ℕ) (columns : List Column) → end ≡ n + length columns → Passes test n end
    → passing test (runs_from n columns) ≡ fitting (runs_from n columns)
unfolding runs_from
runs-pass test n end [] size all = refl
runs-pass test n end (Start d ∷ columns) size all =
    first (run_ahead columns) refl (runs-pass test (n + 1) end columns (omega (arith, size)) (λ k m octets low high. all k m octets (omega (arith, low)) high))
  where
    first : (o : Option (List ℕ)) → run_ahead columns ≡ o → passing test (runs_from (n + 1) columns) ≡ fitting (runs_from (n + 1) columns)
        → passing test (cons_option (option_map (λ octets. run_with n (data_ahead columns) octets) o) (runs_from (n + 1) columns))
        ≡ fitting (cons_option (option_map (λ octets. run_with n (data_ahead columns) octets) o) (runs_from (n + 1) columns))
    first None e rest = rest
    first (Some octets) e rest =
        one_more test (run_with n (data_ahead columns) octets) (runs_from (n + 1) columns)
        (all n (data_ahead columns) octets (omega arith) (omega (arith, size, ahead-within columns octets e))) rest
runs-pass test n end (Data d ∷ columns) size all =
    runs-pass test (n + 1) end columns (omega (arith, size)) (λ k m octets low high. all k m octets (omega (arith, low)) high)
runs-pass test n end (End d ∷ columns) size all =
    runs-pass test (n + 1) end columns (omega (arith, size)) (λ k m octets low high. all k m octets (omega (arith, low)) high)
runs-pass test n end (Idle ∷ columns) size all =
    runs-pass test (n + 1) end columns (omega (arith, size)) (λ k m octets low high. all k m octets (omega (arith, low)) high)
runs-pass test n end (Error ∷ columns) size all =
    runs-pass test (n + 1) end columns (omega (arith, size)) (λ k m octets low high. all k m octets (omega (arith, low)) high)
runs-pass test n end (Set d ∷ columns) size all =
    runs-pass test (n + 1) end columns (omega (arith, size)) (λ k m octets low high. all k m octets (omega (arith, low)) high)

-- no run begins in idles
runs-behind_idles : (n k : ℕ) (columns : List Column) → runs_from n (replicate k Idle ++ columns) ≡ runs_from (n + k) columns
unfolding runs_from
runs-behind_idles n zero columns = let same : n ≡ n + 0 = omega arith in ap (λ n. runs_from n columns) same
runs-behind_idles n (suc k) columns =
    let same : n + 1 + k ≡ n + suc k = omega arith in runs-behind_idles (n + 1) k columns ∙ ap (λ n. runs_from n columns) same

erased-nothing : (n : ℕ) (columns : List Column) → erased (λ k. true) n columns ≡ columns
unfolding erased
erased-nothing n [] = refl
erased-nothing n (column ∷ columns) = ap (λ rest. column ∷ rest) (erased-nothing (n + 1) columns)

all-true : (xs : List ℕ) → list_all (λ k. true) xs ≡ true
all-true [] = refl
all-true (x ∷ xs) = all-true xs

between : (k last from to : ℕ) → from ≤ k → last < to → (nat_le from k && nat_lt last to) ≡ true
between k last from to low high = ap₂ (λ a b. a && b) (le-leb from k low) (lt-ltb last to high)

pub all_frames : (from to front : ℕ) (rest : List Column) → from ≤ front → front + length rest ≤ to
    → frames_between from to (replicate front Idle ++ rest) ≡ frames_of (replicate front Idle ++ rest)
unfolding frames_of_runs
all_frames from to front rest low high =
    let columns = replicate front Idle ++ rest in
    let runs = runs-behind_idles 0 front rest in
    let here : ℕ → ℕ → Run → Bool = λ from to run. nat_le from run.first && nat_lt run.last to in
    ap (λ rs. map (λ run. run.octets) (passing (here from to) rs)) runs
    ∙ ap (map (λ run. run.octets)) (runs-pass (here from to) (0 + front) (0 + front + length rest) rest refl
    (λ k m octets after before. between k (k + 1 + m) from to (omega (arith, low, after)) (omega (arith, high, before))))
    ∙ sym (ap (map (λ run. run.octets)) (runs-pass (stands_clear (λ k. true)) (0 + front) (0 + front + length rest) rest refl
    (λ k m octets after before. all-true (range_with_len k (k + 1 + m + 1 - k)))))
    ∙ sym (ap (λ rs. map (λ run. run.octets) (passing (stands_clear (λ k. true)) rs)) runs)
    ∙ sym (frames_of-erased (λ k. true) columns) ∙ ap frames_of (erased-nothing 0 columns)

-- ---- the columns of a transmission fill whole pairs
filled_up : (p m : ℕ) → (t : ℕ) × (columns_before p t ≡ m + lacking p m)
filled_up p m =
    let t = whole_pairs p m in
    let fits = whole_pairs-fits p m in
    elim (cases_eq (columns_before p t) m) [
      | inl full ↦ (t, omega (arith, full, lacking_full p t m full))
      | inr other ↦ (t + 1, sym (lacking_fills p t m (omega (arith, fits.0, other)) fits.1))
    ]

pub fills_pairs : (p lead tail : ℕ) (columns : List Column) → 1 ≤ p
    → columns_before p (whole_pairs p (length (sent_columns p lead tail columns))) ≡ length (sent_columns p lead tail columns)
unfolding sent_columns
fills_pairs p lead tail columns some =
    let m = length (begun_columns p lead columns) in
    let fill = lacking p m in
    let (t, full) = filled_up p m in
    let size : length (begun_columns p lead columns ++ (idles fill ++ idles (tail * room p))) ≡ m + fill + tail * room p =
    omega (
      arith,
      length-append (begun_columns p lead columns) (idles fill ++ idles (tail * room p)),
      length-append (idles fill) (idles (tail * room p)),
      length-replicate {A = Column} fill Idle,
      length-replicate {A = Column} (tail * room p) Idle,
    ) in
    ap (λ n. columns_before p (whole_pairs p n)) size
    ∙ ap (columns_before p) (tail_pairs p t (m + fill) tail some full)
    ∙ columns-periods p t tail some ∙ ap (λ n. n + tail * room p) full ∙ sym size
