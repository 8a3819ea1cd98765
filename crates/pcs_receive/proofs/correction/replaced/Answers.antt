use Rattle.std.proofs.Common.{ap, ap₂, sym, ◌∙◌}
use Rattle.bit_lists.specs.Places.{for_each}
use Rattle.symbol_deal.specs.Rows.{rows_of}
use Rattle.pcs_receive.specs.Corrections.{differing}
use Rattle.pcs_receive.proofs.Counts.{all_wrong}
use Rattle.pcs_receive.proofs.Untouched.{untouched}
use Rattle.pcs_receive.proofs.correction.replaced.Goals as goal

pub returns : goal.returns
returns c =
    c.differences.ensures
    ∙ ap (λ sent. for_each 16 (λ u. differing c.args.rows.now sent u 68)) (c.to_rows.ensures ∙ ap₂ rows_of c.requires.a_is c.requires.b_is)
    ∙ all_wrong c.args.rows.now

pub returns-then-is_codeword-2 : goal.returns-then-is_codeword-2
returns-then-is_codeword-2 c =
    let near_a = c.is_codeword.ensures c.if-is_codeword.true in
    let near_b = c.is_codeword-then-is_codeword.ensures c.if-is_codeword-2.true in
    untouched c.args.rows.now (sym c.requires.near_a_is ∙ near_a) (sym c.requires.near_b_is ∙ near_b)
