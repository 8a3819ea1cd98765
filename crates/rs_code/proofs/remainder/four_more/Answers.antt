use Rattle.std.proofs.Common.{map, ap, ◌∙◌}
use Rattle.gf1024.specs.Symbol.{symbol, sum_of}
use Rattle.rs_code.specs.declared.rows.remainders.TheConstants.{X30, X31, X32, X33}
use Rattle.rs_code.specs.Register.{first_row}
use Rattle.rs_code.proofs.Four.{four_more_is}
use Rattle.rs_code.proofs.Tables.{rows_30, rows_31, rows_32, rows_33, base_30, base_31, base_32, base_33}
use Rattle.rs_code.proofs.remainder.four_more.Goals as goal

pub multiple-by_30-requires : goal.multiple-by_30-requires
multiple-by_30-requires c = rows_30

pub multiple-by_31-requires : goal.multiple-by_31-requires
multiple-by_31-requires c = rows_31

pub multiple-by_32-requires : goal.multiple-by_32-requires
multiple-by_32-requires c = rows_32

pub multiple-by_33-requires : goal.multiple-by_33-requires
multiple-by_33-requires c = rows_33

pub returns : goal.returns
returns c =
    four_more_is c.args.register c.four_on.result c.multiple-by_30.result c.multiple-by_31.result c.multiple-by_32.result
    c.multiple-by_33.result c.add-5.result c.add-6.result c.add-7.result c.add-8.result
    (map symbol (first_row X30.low)) (map symbol (first_row X31.low)) (map symbol (first_row X32.low)) (map symbol (first_row X33.low))
    c.args.a c.args.b c.args.c c.args.d c.add.result c.add-2.result c.add-3.result c.add-4.result c.four_on.ensures
    base_30 base_31 base_32 base_33
    c.multiple-by_30.ensures c.multiple-by_31.ensures c.multiple-by_32.ensures c.multiple-by_33.ensures
    (c.add.ensures ∙ ap (λ z. sum_of z c.args.a) c.lane.ensures) (c.add-2.ensures ∙ ap (λ z. sum_of z c.args.b) c.lane-2.ensures)
    (c.add-3.ensures ∙ ap (λ z. sum_of z c.args.c) c.lane-3.ensures) (c.add-4.ensures ∙ ap (λ z. sum_of z c.args.d) c.lane-4.ensures)
    c.add-5.ensures c.add-6.ensures c.add-7.ensures c.add-8.ensures
