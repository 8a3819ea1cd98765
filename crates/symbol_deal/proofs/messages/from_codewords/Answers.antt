use Rattle.std.proofs.Common.{◌≡◌, ◌-◌, ◌∙◌, ap₂, arith, rules, drop, length, take, length-drop, List}
use Rattle.std.proofs.lemmas.List.{take_all}
use Rattle.gf1024.specs.Symbol.{Symbol}
use Rattle.symbol_deal.specs.Messages.{message_bits}
use Rattle.symbol_deal.proofs.Shapes.{length-message_bits}
use Rattle.symbol_deal.proofs.Taking.{without_the_rest}
use Rattle.symbol_deal.proofs.messages.from_codewords.Goals as goal

-- what stands behind the parity, as a slice of the whole word
behind : (word : List Symbol) → length word ≡ 544 → take (length word - 30) (drop 30 word) ≡ drop 30 word
behind word long = take_all (length word - 30) (drop 30 word) (omega (arith, length-drop 30 word))

pub returns-clause-bits : goal.returns-clause-bits
returns-clause-bits c =
    let a = c.args.words.now.a in
    let b = c.args.words.now.b in
    c.cut_wides.ensures.bits
    ∙ without_the_rest c.gather_words.result (message_bits (drop 30 a) (drop 30 b)) (search rules)
    (length-message_bits (drop 30 a) (drop 30 b))
    (c.gather_words.ensures ∙ ap₂ message_bits (behind a (search rules)) (behind b (search rules)))
