-- Lines of events that are put in parts.
use Rattle.std.proofs.Common.{◌≡◌, ℕ, ◌+◌, ◌<◌, ◌⊎◌, inl, inr, List, [], ◌∷◌, ◌++◌, take, get_or, length, codes, Option, Some, None, refl, sym, ◌∙◌, ap, append_assoc, append-nil, arith}
use Rattle.std.specs.Prelude.{decimal}
use Rattle.std.specs.List.{flat_map}
use Rattle.std.proofs.lemmas.List.{take_more, take_all}
use Rattle.std.proofs.lemmas.List.Concat.{flat_map-append}
use Rattle.mac_columns.specs.declared.column.Column.{Column}
use Rattle.pcs_receive.specs.Events.{Event}
use Rattle.pcs_receive.specs.declared.event.Event.TheVariants as answer
use Rattle.pcs_receive.specs.declared.event.Event.{Event as Answer}
use Rattle.pcs_receive.specs.Hearings.{IsAnswer}
use Rattle.pcs_top.specs.Reporting.{alignment_line, commas, drop_line, event_line, failure_line, number_line, report_line}

-- each number with a comma behind it
unfoldable pub with_commas : List ℕ → List ℕ
with_commas ns = flat_map (λ n. decimal n ++ codes ",") ns

pub none-yet : (line old : List ℕ) → line ≡ old → line ≡ old ++ with_commas []
unfolding with_commas
none-yet line old is = is ∙ sym (append-nil old)

pub one-comma-more : (line old numbers : List ℕ) (i d : ℕ) → i < length numbers → line ≡ old ++ with_commas (take i numbers)
    → (line ++ decimal (get_or numbers i d)) ++ codes "," ≡ old ++ with_commas (take (i + 1) numbers)
unfolding with_commas
one-comma-more line old numbers i d low is =
    let last = decimal (get_or numbers i d) ++ codes "," in
    append_assoc line (decimal (get_or numbers i d)) (codes ",") ∙ ap (λ t. t ++ last) is ∙ append_assoc old (with_commas (take i numbers)) last
    ∙ ap (λ t. old ++ t) (sym (ap with_commas (take_more numbers i d low)
    ∙ flat_map-append (λ n. decimal n ++ codes ",") (take i numbers) (get_or numbers i d ∷ [])
    ∙ ap (λ t. with_commas (take i numbers) ++ t) (append-nil last)))

commas-last : (ns : List ℕ) (n : ℕ) → commas (ns ++ n ∷ []) ≡ with_commas ns ++ decimal n
unfolding with_commas
commas-last [] n = refl
commas-last (m ∷ []) n = ap (λ t. t ++ decimal n) (sym (append-nil (decimal m ++ codes ",")))
commas-last (m ∷ k ∷ ns) n =
    ap (λ t. (decimal m ++ codes ",") ++ t) (commas-last (k ∷ ns) n) ∙ sym (append_assoc (decimal m ++ codes ",") (with_commas (k ∷ ns)) (decimal n))

-- the sixteenth number has none
pub all-commas : (line old numbers : List ℕ) (d : ℕ) → length numbers ≡ 16 → line ≡ old ++ with_commas (take 15 numbers)
    → line ++ decimal (get_or numbers 15 d) ≡ old ++ commas numbers
all-commas line old numbers d long is =
    ap (λ t. t ++ decimal (get_or numbers 15 d)) is ∙ append_assoc old (with_commas (take 15 numbers)) (decimal (get_or numbers 15 d))
    ∙ ap (λ t. old ++ t) (sym (commas-last (take 15 numbers) (get_or numbers 15 d))
    ∙ ap commas (sym (take_more numbers 15 d (omega (arith, long))) ∙ take_all 16 numbers (omega (arith, long))))

-- the line of an answer that isn't a frame
abbrev pub answer_line : Answer → Option (List ℕ)
answer_line (answer.Failed fault) = Some (failure_line fault)
answer_line (answer.Aligned order) = Some (alignment_line order)
answer_line (answer.Report r) = Some (report_line r)
answer_line answer.Frame = None
answer_line (answer.Dropped why) = Some (drop_line why)
answer_line (answer.Lost at) = Some (number_line (codes "lost ") at)
answer_line answer.Group = Some []
answer_line (answer.Column c) = Some []

pub told-line : (a : Answer) (told : Event) (line : List ℕ) → IsAnswer a told → answer_line a ≡ Some line → line ≡ event_line told
unfolding IsAnswer
told-line (answer.Failed fault) told line is e = rw is cc
told-line (answer.Aligned order) told line is e = rw is cc
told-line (answer.Report r) told line is e = rw is cc
told-line answer.Frame told line is e = absurd cc
told-line (answer.Dropped why) told line is e = rw is cc
told-line (answer.Lost at) told line is e = rw is cc
told-line answer.Group told line is e = rw is cc
told-line (answer.Column c) told line is e = rw is cc

-- groups and columns have no line
pub quiet : (a : Answer) (told : Event) (line : List ℕ) → (a ≡ answer.Group) ⊎ ((c : Column) × (a ≡ answer.Column c)) → IsAnswer a told → line ≡ []
    → line ≡ event_line told
quiet a told line (inl group) is none = told-line a told line is (ap answer_line group ∙ ap Some (sym none))
quiet a told line (inr (c, column)) is none = told-line a told line is (ap answer_line column ∙ ap Some (sym none))
