use Rattle.std.proofs.Common.{◌++◌, sym, ap, ◌∙◌}
use Rattle.kr_code.specs.Short.{short_coded}
use Rattle.pcs_late.specs.Kr.{word_text}
use Rattle.pcs_late.proofs.KrLemmas.{word_text-append}
use Rattle.pcs_late.proofs.kr_text.put_coded.Goals as goal

pub returns-clause-text : goal.returns-clause-text
returns-clause-text c =
    let message = c.word_of-message.result in
    let parity = c.encode.new.parity in
    c.put_symbols-2.ensures.text
    ∙ ap (λ t. t ++ word_text parity) (c.put_symbols.ensures.text ∙ ap (λ t. t ++ word_text message) c.requires.empty)
    ∙ sym (word_text-append parity message) ∙ ap word_text (c.encode.ensures.coded ∙ ap short_coded c.word_of-message.ensures)
