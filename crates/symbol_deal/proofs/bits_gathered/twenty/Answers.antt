use Rattle.std.proofs.Common.{◌≡◌, ◌+◌, ◌-◌, ◌*◌, ◌∙◌, refl, arith}
use Rattle.std.proofs.lemmas.List.{get_or_default}
use Rattle.gf1024.specs.Symbol.{zero_symbol}
use Rattle.symbol_deal.proofs.Twenties.{twenty, bits_of_twenty, twenty-lt}
use Rattle.symbol_deal.proofs.bits_gathered.twenty.Goals as goal

number : (c : goal.After-value-2) → c.value.result * 1024 + c.value-2.result ≡ twenty c.args.a.now c.args.b.now c.args.i
number c =
    let place = 513 - c.args.i in
    let a = c.index-a-i.is ∙ get_or_default c.args.a.now place c.index-a-i.result zero_symbol (omega (arith, c.requires.long.0)) in
    let b = c.index-b-i.is ∙ get_or_default c.args.b.now place c.index-b-i.result zero_symbol (omega (arith, c.requires.long.1)) in
    rw (c.value.ensures.same, c.value-2.ensures.same, a, b) refl

pub returns-clause-bits : goal.returns-clause-bits
returns-clause-bits c = rw (number c) (bits_of_twenty c.args.a.now c.args.b.now c.args.i)

pub returns-clause-fits : goal.returns-clause-fits
returns-clause-fits c = rw (number c) (twenty-lt c.args.a.now c.args.b.now c.args.i)
