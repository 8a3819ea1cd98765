use Rattle.std.proofs.Common.{◌-◌, arith}
use Rattle.rs_code.proofs.Powers.{table_of, powers_at}
use Rattle.rs_code.proofs.rows.powers.by_powers.Goals as goal

pub multiple-requires : goal.multiple-requires
multiple-requires c = let h = table_of c.args.exponent _ (c.args.exponent - 1) (omega arith) (omega arith) in h.rows

pub returns : goal.returns
returns c =
    powers_at c.args.exponent _ c.args.factor c.multiple.result
    (table_of c.args.exponent _ (c.args.exponent - 1) (omega arith) (omega arith)) c.multiple.ensures
