-- The columns written of a capture, and those still owed, by its pairs.
use Rattle.std.proofs.Common.{◌≡◌, ℕ, zero, suc, ◌+◌, ◌*◌, ◌%◌, ◌==◌, Bool, true, false, inl, inr, List, [], ◌∷◌, ◌++◌, length, map, reverse, Option, Some, None, refl, sym, ◌∙◌, ap, subst, append_assoc, append-nil, arith, length-append}
use Rattle.std.specs.Prelude.{codes, filter_map, replicate, if◌then◌else◌}
use Rattle.std.specs.Int.{to_le_bytes, w64}
use Rattle.std.specs.List.{flat_map}
use Rattle.std.proofs.lemmas.List.{reverse-append, length-reverse, length-replicate, map-append}
use Rattle.std.proofs.lemmas.List.Elements.{filter_map-append}
use Rattle.hex.specs.Hex.{encode_lower, lower_digits}
use Rattle.hex.proofs.HexLemmas.{length-encode_with}
use Rattle.bit_lists.specs.Places.{joined}
use Rattle.pcs_bits.specs.Captures.{Capture}
use Rattle.mac_columns.specs.declared.column.Column.{Column}
use Rattle.mac_columns.specs.declared.column.Column.TheVariants.{Idle}
use Rattle.block66.specs.Blocks.{block_of}
use Rattle.block66.specs.declared.Block.{Block}
use Rattle.rate_match.specs.Thinning.{Call, taken, grouped}
use Rattle.rate_match.specs.Refilling.{IsPair, ArePairs, idles_behind, written}
use Rattle.rate_match.proofs.Pairs.{refilled_pairs}
use Rattle.lane_deskew.specs.Alignments.{Alignment, unfound, failed, aligned}
use Rattle.lane_deskew.specs.declared.AlignFault.{AlignFault}
use Rattle.lane_deskew.specs.declared.Order.{Order}
use Rattle.pcs_watch.specs.declared.Report.{Report}
use Rattle.pcs_send.proofs.Carrying.{joined-none, joined-next}
use Rattle.pcs_receive.specs.Reports.{Rows, report_of}
use Rattle.pcs_receive.specs.Received.{columns_of_pair, pair_at}
use Rattle.pcs_receive.specs.Events.{Event, column, failure, alignment, report, group, column_events_of_pair, third_bad, heard_of, lost_of, pairs_of, hunt_events, hunts, column_events}
use Rattle.pcs_receive.proofs.ColumnCounts.{pairs_have_all_columns}
use Rattle.pcs_top.specs.Laws.{ColumnsFillPairs}
use Rattle.pcs_top.specs.ColumnTexts.{call_of, calls_of, refilled, column_lines}
use Rattle.pcs_top.specs.Reporting.{report_of_event, reports_of}
use Rattle.pcs_top.specs.Texts.{block_line, column_text}
use Rattle.pcs_top.proofs.ColumnText.{calls-append}

-- ---- pairs of calls
pairs-append : (m n : ℕ) (more before : List Call) → ArePairs m more → ArePairs n before → ArePairs (m + n) (more ++ before)
pairs-append zero n more before none they = subst (λ h. ArePairs (0 + n) (h ++ before)) (sym none) (subst (λ k. ArePairs k before) (omega arith) they)
pairs-append (suc m) n more before (pair, rest, one, others, is) they =
    let count : suc (m + n) ≡ suc m + n = omega arith in
    subst (λ k. ArePairs k (more ++ before)) count (
      pair,
      rest ++ before,
      one,
      pairs-append m n rest before others they,
      ap (λ h. h ++ before) is ∙ append_assoc pair rest before,
    )

-- the calls for these events are those of as many pairs as they report
HasPairs : List Event → Type 0
HasPairs es = ArePairs (length (reports_of es)) (calls_of es)

reports-append : (es more : List Event) → reports_of (es ++ more) ≡ reports_of es ++ reports_of more
unfolding reports_of
reports-append es more = filter_map-append report_of_event es more

both : (es more : List Event) → HasPairs es → HasPairs more → HasPairs (es ++ more)
unfolding HasPairs
both es more first second =
    let count : length (reports_of more) + length (reports_of es) ≡ length (reports_of (es ++ more)) =
    omega (arith, ap length (reports-append es more), length-append (reports_of es) (reports_of more)) in
    subst (λ n. ArePairs n (calls_of (es ++ more))) count
    (subst (ArePairs (length (reports_of more) + length (reports_of es))) (sym (calls-append es more))
    (pairs-append (length (reports_of more)) (length (reports_of es)) (calls_of more) (calls_of es) second first))

none : HasPairs []
unfolding HasPairs calls_of reports_of
none = refl

-- an event that is neither a pair's report nor a call
aligned-alone : (o : Order) → HasPairs (alignment o ∷ [])
unfolding HasPairs calls_of reports_of
aligned-alone o = refl

-- ---- the events of a pair
columns-calls : (cs : List Column) → filter_map call_of (map column cs) ≡ map taken cs
columns-calls [] = refl
columns-calls (c ∷ cs) = ap (λ calls. taken c ∷ calls) (columns-calls cs)

columns-reports : (cs : List Column) → filter_map report_of_event (map column cs) ≡ []
columns-reports [] = refl
columns-reports (c ∷ cs) = columns-reports cs

reverse-taken : (cs : List Column) → reverse (map taken cs) ≡ map taken (reverse cs)
reverse-taken [] = refl
reverse-taken (c ∷ cs) =
    reverse-append (taken c ∷ []) (map taken cs) ∙ ap (λ calls. calls ++ taken c ∷ []) (reverse-taken cs)
    ∙ sym (ap (map taken) (reverse-append (c ∷ []) cs) ∙ map-append taken (reverse cs) (c ∷ []))

-- one pair of calls, and one report
one-of : (es : List Event) (pair : List Call) → length (reports_of es) ≡ 1 → calls_of es ≡ pair → IsPair pair → HasPairs es
unfolding HasPairs
one-of es pair count calls one = subst (λ n. ArePairs n (calls_of es)) (sym count) (pair, [], one, refl, calls ∙ sym (append-nil pair))

pair-events : (r : Report) (cs : List Column) (begins : Bool) → length cs ≡ (if begins then 128 else 160)
    → HasPairs (report r ∷ ((if begins then group ∷ [] else []) ++ map column cs))
unfolding calls_of reports_of
pair-events r cs true size =
    one-of (report r ∷ group ∷ map column cs) (map taken (reverse cs) ++ grouped ∷ []) (ap (λ rs. length (r ∷ rs)) (columns-reports cs))
    (ap (λ calls. reverse (grouped ∷ calls)) (columns-calls cs) ∙ reverse-append (grouped ∷ []) (map taken cs)
    ∙ ap (λ calls. calls ++ grouped ∷ []) (reverse-taken cs))
    (reverse cs, inr (length-reverse cs ∙ size, refl))
pair-events r cs false size =
    one-of (report r ∷ map column cs) (map taken (reverse cs)) (ap (λ rs. length (r ∷ rs)) (columns-reports cs))
    (ap reverse (columns-calls cs) ∙ reverse-taken cs) (reverse cs, inl (length-reverse cs ∙ size, refl))

one-pair : (p : ℕ) (pairs : List Rows) (i : ℕ) → HasPairs (column_events_of_pair p pairs i)
unfolding column_events_of_pair
one-pair p pairs i = pair-events (report_of i (pair_at pairs i)) (columns_of_pair p pairs i) (i % p == 0) (pairs_have_all_columns p pairs i)

first-pairs : (p : ℕ) (pairs : List Rows) (n : ℕ) → HasPairs (joined n (column_events_of_pair p pairs))
first-pairs p pairs zero = subst HasPairs (sym (joined-none (column_events_of_pair p pairs))) none
first-pairs p pairs (suc n) =
    let one : suc n ≡ n + 1 = omega arith in
    subst HasPairs (sym (ap (λ k. joined k (column_events_of_pair p pairs)) one ∙ joined-next (column_events_of_pair p pairs) n))
    (both (joined n (column_events_of_pair p pairs)) (column_events_of_pair p pairs n) (first-pairs p pairs n) (one-pair p pairs n))

-- ---- the events of a hunt
lost-alone : (o : Order) (third : Option ℕ) → HasPairs (lost_of o third)
unfolding HasPairs calls_of reports_of
lost-alone o None = refl
lost-alone o (Some i) = refl

failed-alone : (fault : AlignFault) → HasPairs (failure fault ∷ [])
unfolding HasPairs calls_of reports_of
failed-alone fault = refl

one-hunt : (c : Capture) (a : Alignment) → HasPairs (hunt_events column_events_of_pair c a)
one-hunt c unfound = none
one-hunt c (failed at fault) = failed-alone fault
one-hunt c (aligned o) =
    let pairs = pairs_of c o in
    let heard = joined (heard_of (length pairs) (third_bad pairs)) (column_events_of_pair c.period pairs) in
    both (alignment o ∷ []) (heard ++ lost_of o (third_bad pairs)) (aligned-alone o)
    (both heard (lost_of o (third_bad pairs)) (first-pairs c.period pairs (heard_of (length pairs) (third_bad pairs))) (lost-alone o (third_bad pairs)))

all-hunts : (c : Capture) (found : List Alignment) → HasPairs (flat_map (hunt_events column_events_of_pair c) found)
all-hunts c [] = none
all-hunts c (a ∷ found) = both (hunt_events column_events_of_pair c a) (flat_map (hunt_events column_events_of_pair c) found) (one-hunt c a) (all-hunts c found)

-- ---- the lines
length-block_line : (block : Block) → length (block_line block) ≡ 20
length-block_line block = by block.control
  where
    digits : length (encode_lower (to_le_bytes w64 block.payload)) ≡ 16
    digits = length-encode_with lower_digits (to_le_bytes w64 block.payload)

    by : (control : Bool) → length ((if control then codes "10 " else codes "01 ") ++ encode_lower (to_le_bytes w64 block.payload) ++ 10 ∷ []) ≡ 20
    by true = omega (arith, digits, length-append (encode_lower (to_le_bytes w64 block.payload)) (10 ∷ []))
    by false = omega (arith, digits, length-append (encode_lower (to_le_bytes w64 block.payload)) (10 ∷ []))

length-column_text : (cs : List Column) → length (column_text cs) ≡ 20 * length cs
unfolding column_text
length-column_text [] = refl
length-column_text (c ∷ cs) =
    let rest = length-column_text cs in
    omega (arith, rest, length-block_line (block_of c), length-append (block_line (block_of c)) (column_text cs))

length-refilled : (h : List Call) → length (refilled h) ≡ written h
length-refilled [] = refl
length-refilled (taken c ∷ past) =
    let before = length-refilled past in
    let count = idles_behind past c in
    omega (arith, before, length-append (refilled past) (c ∷ replicate count Idle), length-replicate count (Idle))
length-refilled (grouped ∷ past) = length-refilled past

pub columns_fill_pairs : (c : Capture) (skew : ℕ) → ColumnsFillPairs (column_events c skew 0)
unfolding column_events column_lines HasPairs
columns_fill_pairs c skew =
    let es = column_events c skew 0 in
    record {
      pairs = (refilled_pairs (calls_of es)).pairs (length (reports_of es)) (all-hunts c (hunts c skew 0));
      lines = length-column_text (refilled (calls_of es)) ∙ ap (λ n. 20 * n) (length-refilled (calls_of es));
    }
