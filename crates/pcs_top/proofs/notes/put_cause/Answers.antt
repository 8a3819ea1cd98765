use Rattle.std.proofs.Common.{◌≡◌, ◌++◌, codes, append_assoc, ap, ap₂, sym, ◌∙◌}
use Rattle.std.specs.Prelude.{decimal}
use Rattle.pcs_top.specs.Notes.{cause_text}
use Rattle.pcs_top.proofs.notes.put_cause.Goals as goal

pub returns-in-TwoItems : goal.returns-in-TwoItems
returns-in-TwoItems c =
    let number = decimal c.in-TwoItems.number in
    let first : c.put-in-TwoItems.new.text.bytes ≡ codes "pcs: item " = c.put-in-TwoItems.ensures ∙ ap (λ b. b ++ codes "pcs: item ") c.requires in
    let second : c.put-in-TwoItems-2.new.text.bytes ≡ codes "pcs: item " ++ number =
    c.put-in-TwoItems-2.ensures ∙ ap₂ (λ a b. a ++ b) first c.format-in-TwoItems.ensures.text in
    let third : c.put-in-TwoItems-3.new.text.bytes ≡ (codes "pcs: item " ++ number) ++ codes ": repeated\n" =
    c.put-in-TwoItems-3.ensures ∙ ap (λ b. b ++ codes ": repeated\n") second in
    third ∙ append_assoc (codes "pcs: item ") number (codes ": repeated\n") ∙ sym (ap cause_text c.in-TwoItems.is)
