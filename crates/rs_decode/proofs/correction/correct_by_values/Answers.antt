use Rattle.std.proofs.Common.{◌≡◌, ◌<◌, inl, inr, ℕ, List, length, get_or, ◌∙◌, refl, subst, arith}
use Rattle.gf1024.specs.Symbol.{zero_symbol}
use Rattle.rs_decode.specs.Repair.{place, formula, IsCorrected}
use Rattle.rs_decode.proofs.Answer.{member_answer, no_answer, corrected_answer}
use Rattle.rs_decode.proofs.Places.{roots_inside, taken_all, not_as_many}
use Rattle.rs_decode.proofs.correction.correct_by_values.Goals as goal

pub returns-then-are_zero : goal.returns-then-are_zero
returns-then-are_zero c =
    let both = member_answer _ c.args.most _ c.requires.half (omega arith) c.args.word.now c.args.values.now refl refl c.requires.read
    (c.are_zero.ensures.0 c.if-are_zero.true) in
    record { answer = both.0; left = both.1 }

pub returns-then-count-most : goal.returns-then-count-most
returns-then-count-most c =
    let found = c.shortest_recurrence_of-recurrence in
    let both = no_answer _ c.args.most _ c.requires.half (omega arith) c.args.word.now c.args.values.now refl refl c.requires.read
    found.result.poly found.result.length found.ensures (inl c.if-count-most.true) in
    record { answer = both.0; left = both.1 }

pub returns-then-len-count : goal.returns-then-len-count
returns-then-len-count c =
    let found = c.shortest_recurrence_of-recurrence in
    let k = found.result.length in
    let ps = c.root_places-places.result.items in
    let other : ¬ (length ps ≡ k) = λ e. absurd (omega (arith, e, c.if-len-count.true, c.len.ensures.value)) in
    let both = no_answer _ c.args.most _ c.requires.half (omega arith) c.args.word.now c.args.values.now refl refl c.requires.read
    found.result.poly k found.ensures
    (inr (not_as_many _ k found.result.poly ps c.root_places-places.ensures other (omega (arith, c.if-count-most.false)))) in
    record { answer = both.0; left = both.1 }

pub errors_at-errors-requires-clause-inside : goal.errors_at-errors-requires-clause-inside
errors_at-errors-requires-clause-inside c =
    let found = c.shortest_recurrence_of-recurrence in
    let k = found.result.length in
    let ps = c.root_places-places.result.items in
    let count : length ps ≡ k = omega (arith, c.if-len-count.false, c.len.ensures.value) in
    let inside = roots_inside (length c.args.word.now) found.result.poly c.as_slice.result.now (c.as_slice.ensures.value
    ∙ taken_all _ k found.result.poly ps c.root_places-places.ensures count (omega (arith, c.if-count-most.false))) in
    λ j less. omega (arith, inside j less)

pub add_errors-requires-clause-inside : goal.add_errors-requires-clause-inside
add_errors-requires-clause-inside c =
    let found = c.shortest_recurrence_of-recurrence in
    let k = found.result.length in
    let ps = c.root_places-places.result.items in
    let count : length ps ≡ k = omega (arith, c.if-len-count.false, c.len.ensures.value) in
    roots_inside _ found.result.poly c.as_slice-2.result.now (c.as_slice-2.ensures.value
    ∙ taken_all _ k found.result.poly ps c.root_places-places.ensures count (omega (arith, c.if-count-most.false)))

pub returns : goal.returns
returns c =
    let found = c.shortest_recurrence_of-recurrence in
    let k = found.result.length in
    let items = found.result.poly in
    let ps = c.root_places-places.result.items in
    let o = c.numerator_of-numerator in
    let errors = c.errors_at-errors.result in
    let count : length ps ≡ k = omega (arith, c.if-len-count.false, c.len.ensures.value) in
    let all = taken_all _ k items ps c.root_places-places.ensures count (omega (arith, c.if-count-most.false)) in
    let both = corrected_answer _ c.args.most _ c.requires.half (omega arith) c.args.word.now c.args.values.now refl refl c.requires.read
    items o.result errors c.add_errors.new.word ps k found.ensures c.if-count-most.false all count
    o.ensures.long o.ensures.each
    (subst (λ (l : List ℕ). (j : ℕ) → j < length l → get_or errors j zero_symbol ≡ formula items o.result (place (get_or l j 0)))
    c.as_slice.ensures.value c.errors_at-errors.ensures)
    (subst (λ (l : List ℕ). IsCorrected c.args.word.now l errors c.add_errors.new.word) c.as_slice-2.ensures.value
    c.add_errors.ensures) in
    record { answer = both.0; left = both.1 }
