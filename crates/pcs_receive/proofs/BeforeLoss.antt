-- The frames that are lent before the first loss are those of the alignment.
use Rattle.std.proofs.Common.{◌≡◌, ℕ, Bool, true, false, List, [], ◌∷◌, ◌++◌, flat_map, map, length, refl, sym, ap, ◌∙◌, append_assoc, Option, Some, None}
use Rattle.std.specs.Prelude.{filter_map, cond}
use Rattle.std.proofs.lemmas.List.{append-nil}
use Rattle.std.proofs.lemmas.List.Elements.{filter_map-append}
use Rattle.std.specs.List.{range_with_len}
use Rattle.bit_lists.specs.Places.{joined}
use Rattle.mac_columns.specs.Frames.{Outcome, whole, dropped}
use Rattle.pcs_bits.specs.Captures.{Capture}
use Rattle.lane_deskew.specs.declared.Order.{Order}
use Rattle.lane_deskew.specs.Alignments.{aligned, align}
use Rattle.pcs_receive.specs.declared.event.Event.TheVariants as answer
use Rattle.pcs_receive.specs.Reports.{Rows, report_of}
use Rattle.pcs_receive.specs.Received.{pair_at}
use Rattle.pcs_receive.specs.Events.{Event, alignment, report, frame, frame_dropped, lost, events, event_of_outcome, frame_of_event, third_bad, heard_of, lost_of, end_of_pair, pairs_of, alignment_events, frame_events, gathered_in_pair}
use Rattle.pcs_receive.specs.Headline.{frames_of_alignment}
use Rattle.pcs_receive.specs.Told.{Call, took, answered, lent, ended, CallsLendAlignment, frames_lent, events_given, before_loss}
use Rattle.pcs_receive.proofs.Hunts.{frames_by_hunts}
use Rattle.pcs_receive.proofs.Told.{calls-events}
use Rattle.pcs_receive.proofs.Headline.{any_damage}

abbrev is_lost : Event → Bool
is_lost (lost at) = true
is_lost event = false

-- the events before the first loss, or all
up_to_loss : List Event → List Event
up_to_loss [] = []
up_to_loss (e ∷ es) = cond (is_lost e) [] (e ∷ up_to_loss es)

-- the frames lent before the first loss
frames-before : (calls : List Call) → frames_lent (before_loss calls) ≡ filter_map frame_of_event (up_to_loss (events_given calls))
unfolding frames_lent events_given before_loss up_to_loss
frames-before [] = refl
frames-before (took beat ∷ calls) = frames-before calls
frames-before (answered (answer.Failed fault) ∷ calls) = frames-before calls
frames-before (answered (answer.Aligned order) ∷ calls) = frames-before calls
frames-before (answered (answer.Report r) ∷ calls) = frames-before calls
frames-before (answered answer.Frame ∷ calls) = frames-before calls
frames-before (answered (answer.Dropped why) ∷ calls) = frames-before calls
frames-before (answered (answer.Lost at) ∷ calls) = refl
frames-before (answered answer.Group ∷ calls) = frames-before calls
frames-before (answered (answer.Column c) ∷ calls) = frames-before calls
frames-before (lent octets ∷ calls) = ap (λ fs. octets ∷ fs) (frames-before calls)
frames-before (ended ∷ calls) = frames-before calls

-- no loss is among these events
abbrev HasNoLoss : List Event → Type 0
HasNoLoss es = (others : List Event) → up_to_loss (es ++ others) ≡ es ++ up_to_loss others

none-in-both : (xs ys : List Event) → HasNoLoss xs → HasNoLoss ys → HasNoLoss (xs ++ ys)
none-in-both xs ys in_xs in_ys = λ others.
    ap up_to_loss (append_assoc xs ys others) ∙ in_xs (ys ++ others) ∙ ap (λ es. xs ++ es) (in_ys others)
    ∙ sym (append_assoc xs ys (up_to_loss others))

none-in-outcomes : (os : List Outcome) → HasNoLoss (map event_of_outcome os)
unfolding up_to_loss
none-in-outcomes [] = λ others. refl
none-in-outcomes (whole octets ∷ os) = λ others. ap (λ es. frame octets ∷ es) (none-in-outcomes os others)
none-in-outcomes (dropped why ∷ os) = λ others. ap (λ es. frame_dropped why ∷ es) (none-in-outcomes os others)

none-in-pair : (p : ℕ) (pairs : List Rows) (i : ℕ) → HasNoLoss (frame_events p pairs i)
unfolding up_to_loss frame_events
none-in-pair p pairs i = λ others.
    ap (λ es. report (report_of i (pair_at pairs i)) ∷ es) (none-in-outcomes (gathered_in_pair p pairs i) others)

none-in-pairs : (p : ℕ) (pairs : List Rows) (is : List ℕ) → HasNoLoss (flat_map (frame_events p pairs) is)
none-in-pairs p pairs [] = λ others. refl
none-in-pairs p pairs (i ∷ is) =
    none-in-both (frame_events p pairs i) (flat_map (frame_events p pairs) is) (none-in-pair p pairs i) (none-in-pairs p pairs is)

none-in-joined : (p : ℕ) (pairs : List Rows) (n : ℕ) → HasNoLoss (joined n (frame_events p pairs))
unfolding joined
none-in-joined p pairs n = none-in-pairs p pairs (range_with_len 0 n)

-- up to the loss of an alignment, or all
up-to-end : (p : ℕ) (o : Order) (pairs : List Rows) (loss others : List Event) → up_to_loss (loss ++ others) ≡ []
    → up_to_loss ((alignment o ∷ (joined (heard_of (length pairs) (third_bad pairs)) (frame_events p pairs) ++ loss)) ++ others)
    ≡ alignment o ∷ joined (heard_of (length pairs) (third_bad pairs)) (frame_events p pairs)
unfolding up_to_loss
up-to-end p o pairs loss others none =
    let es = joined (heard_of (length pairs) (third_bad pairs)) (frame_events p pairs) in
    ap (λ xs. alignment o ∷ xs)
    (ap up_to_loss (append_assoc es loss others) ∙ none-in-joined p pairs (heard_of (length pairs) (third_bad pairs)) (loss ++ others)
    ∙ ap (λ xs. es ++ xs) none ∙ append-nil es)

no-frames : (o : Order) (third : Option ℕ) → filter_map frame_of_event (lost_of o third) ≡ []
no-frames o None = refl
no-frames o (Some i) = refl

-- the frames of an alignment, without its loss
frames-without : (c : Capture) (o : Order)
    → frames_of_alignment c o
    ≡ filter_map frame_of_event (alignment o ∷ joined (heard_of (length (pairs_of c o)) (third_bad (pairs_of c o))) (frame_events c.period (pairs_of c o)))
frames-without c o =
    let pairs = pairs_of c o in
    let es = joined (heard_of (length pairs) (third_bad pairs)) (frame_events c.period pairs) in
    filter_map-append frame_of_event es (lost_of o (third_bad pairs))
    ∙ ap (λ fs. filter_map frame_of_event es ++ fs) (no-frames o (third_bad pairs)) ∙ append-nil (filter_map frame_of_event es)

-- the events of a capture whose first hunt ends in an alignment, up to its loss or the end
up-to-alignment : (c : Capture) (skew : ℕ) (o : Order) → align c skew 0 ≡ aligned o → (third : Option ℕ) → third_bad (pairs_of c o) ≡ third
    → up_to_loss (events c skew 0) ≡ alignment o ∷ joined (heard_of (length (pairs_of c o)) (third_bad (pairs_of c o))) (frame_events c.period (pairs_of c o))
unfolding up_to_loss
up-to-alignment c skew o is None none =
    let pairs = pairs_of c o in
    ap up_to_loss (frames_by_hunts.at_alignment c skew 0 o is none ∙ sym (append-nil (alignment_events frame_events c.period o pairs)))
    ∙ up-to-end c.period o pairs (lost_of o (third_bad pairs)) [] (ap (λ t. up_to_loss (lost_of o t ++ [])) none)
up-to-alignment c skew o is (Some i) some =
    let pairs = pairs_of c o in
    let others = events c skew (end_of_pair o i) in
    ap up_to_loss (frames_by_hunts.at_loss c skew 0 i o is some)
    ∙ up-to-end c.period o pairs (lost_of o (third_bad pairs)) others (ap (λ t. up_to_loss (lost_of o t ++ others)) some)

pub calls_lend_alignment : CallsLendAlignment
calls_lend_alignment columns c image skew calls a is lock =
    let (o, g, at, damage) = any_damage columns c image skew 0 is lock in
    let frames : frames_lent (before_loss calls) ≡ frames_of_alignment c o =
    frames-before calls ∙ ap (λ es. filter_map frame_of_event (up_to_loss es)) (calls-events c skew calls a)
    ∙ ap (filter_map frame_of_event) (up-to-alignment c skew o at.is (third_bad (pairs_of c o)) refl) ∙ sym (frames-without c o) in
    (o, g, at, λ near. frames ∙ damage near)
