use Rattle.std.proofs.Common.{ℕ, ◌≡◌, ◌-◌, ◌<◌, ◌++◌, length, get_or, ap, ◌∙◌, arith}
use Rattle.std.proofs.lemmas.List.{get_or_read}
use Rattle.gf1024.specs.Symbol.{zero_symbol}
use Rattle.pcs_late.specs.Kr.{symbol_digits}
use Rattle.pcs_late.proofs.KrLemmas.{no-digits, one-symbol-more, all-digits}
use Rattle.pcs_late.proofs.kr_text.put_symbols.Goals as goal

pub loop-i-init : goal.loop-i-init
loop-i-init c = (no-digits c.args.text.now.items c.args.word.now, omega arith)

pub loop-i-preserved : goal.loop-i-preserved
loop-i-preserved c =
    let i = c.loop-i.i in
    let word = c.args.word.now in
    let next = c.index-word-count.result in
    let at : ℕ = length word - 1 - i in
    let low : i < length word = c.loop-i-test.true in
    let is : next ≡ get_or word at zero_symbol = get_or_read word at next (omega (arith, low)) c.index-word-count.is zero_symbol in
    let three : length c.symbol_digits.result ≡ 3 = ap length c.symbol_digits.ensures in (
      c.put.ensures.text ∙ ap (λ d. c.loop-i.text.items ++ d) (c.symbol_digits.ensures ∙ ap symbol_digits is)
          ∙ one-symbol-more c.loop-i.text.items c.args.text.now.items word i low c.loop-i.invariant.0,
      omega (arith, c.put.ensures.long, three, c.loop-i.invariant.1),
    )

pub returns-clause-text : goal.returns-clause-text
returns-clause-text c =
    c.loop-i.invariant.0
    ∙ ap (λ t. c.args.text.now.items ++ t) (all-digits c.args.word.now c.loop-i.i (omega (arith, c.loop-i-test.false, c.loop-i.auto.i-end)))
