use Rattle.std.proofs.lemmas.Bool.{ne_eqb}
use Rattle.pcs_top.proofs.encode.put_header.Goals as goal

pub returns-clause-ok : goal.returns-clause-ok
returns-clause-ok g c =
    rw (ne_eqb c.args.options.now.form 1 c.if-options-eq1.false) (rw (c.write_header2.ensures.octets, c.most_skew-skew.ensures) at c.put-2.ensures.ok)
