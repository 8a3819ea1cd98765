use Rattle.std.proofs.Common.{◌≡◌, ◌+◌, ◌-◌, ◌++◌, [], length, replicate, sym, ap, ◌∙◌, inl, inr, arith, length-append}
use Rattle.std.specs.Prelude.{slice_index, slice_index_or}
use Rattle.std.proofs.lemmas.Bool.{cases_lt}
use Rattle.std.proofs.lemmas.List.{get_or_append_left, get_or-append-add, get_or_past, get_or-replicate}
use Rattle.lane_deskew.proofs.pair.beat_at.Goals as goal

pub returns-then-at-front : goal.returns-then-at-front
returns-then-at-front c = λ l. sym (ap (λ beat. slice_index beat l) (get_or_append_left c.args.front.now c.args.back.now [] c.args.at (omega arith)))

pub returns-then-at-front-2 : goal.returns-then-at-front-2
returns-then-at-front-2 c =
    let front = c.args.front.now in
    let back = c.args.back.now in
    let same : length front + (c.args.at - length front) ≡ c.args.at = omega arith in
    λ l. sym (ap (λ n. slice_index (slice_index_or (front ++ back) n []) l) (sym same) ∙ ap (λ beat. slice_index beat l) (get_or-append-add front back (c.args.at - length front) []))

pub returns-else-at-front-2 : goal.returns-else-at-front-2
returns-else-at-front-2 c =
    let past = length-append c.args.front.now c.args.back.now in
    λ l. elim (cases_lt l 16) [ inl low ↦ get_or-replicate 16 l 0 0 low | inr ge ↦ get_or_past (replicate 16 0) l 0 ge ]
    ∙ sym (ap (λ beat. slice_index beat l) (get_or_past (c.args.front.now ++ c.args.back.now) c.args.at [] (omega (arith, past))))
