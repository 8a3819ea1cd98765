use Rattle.std.proofs.Common.{◌∙◌, ap₂, ◌++◌}
use Rattle.bit_lists.proofs.Facts.{bits_cat}
use Rattle.symbol_deal.proofs.bits_gathered.forty.Goals as goal

pub returns-clause-bits : goal.returns-clause-bits
returns-clause-bits c =
    bits_cat 20 20 c.twenty-2.result c.twenty.result c.twenty-2.ensures.fits
    ∙ ap₂ (λ x y. x ++ y) c.twenty-2.ensures.bits c.twenty.ensures.bits
