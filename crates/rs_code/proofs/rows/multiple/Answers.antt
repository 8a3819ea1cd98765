use Rattle.std.proofs.Common.{arith}
use Rattle.rs_code.proofs.Multiples.{multiple_is, rows_small}
use Rattle.rs_code.proofs.rows.multiple.Goals as goal

pub of_numbers-requires : goal.of_numbers-requires
of_numbers-requires c =
    let small = c.value-number.ensures.small in
    rows_small c.args.table.now.low c.args.table.now.low 1 _ c.requires.long c.requires.low_rows (omega arith) (omega arith)

pub of_numbers-requires-2 : goal.of_numbers-requires-2
of_numbers-requires-2 c =
    let small = c.value-number.ensures.small in
    rows_small c.args.table.now.high c.args.table.now.low 32 _ c.requires.long c.requires.high_rows (omega arith) (omega arith)

pub returns : goal.returns
returns c =
    multiple_is c.args.table.now.low c.args.table.now.high c.args.factor c.value-number.result c.of_numbers.result c.of_numbers-2.result
    c.add.result c.requires c.value-number.ensures.same c.of_numbers.ensures c.of_numbers-2.ensures c.add.ensures
