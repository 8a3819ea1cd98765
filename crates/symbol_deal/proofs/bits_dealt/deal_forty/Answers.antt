use Rattle.symbol_deal.specs.Messages.{twenty_bits}
use Rattle.symbol_deal.proofs.Dealing.{forty_dealt}
use Rattle.symbol_deal.proofs.bits_dealt.deal_forty.Goals as goal

pub returns-clause-bits : goal.returns-clause-bits
returns-clause-bits c =
    let old = c.args.messages.now in
    let one = c.deal.new.messages in
    let two = c.deal-2.new.messages in
    forty_dealt (twenty_bits old.a old.b) (twenty_bits one.a one.b) (twenty_bits two.a two.b) c.args.count c.args.forty
    c.deal.ensures.bits c.deal-2.ensures.bits
