use Rattle.std.proofs.Common.{reverse, subst}
use Rattle.rate_match.specs.Kept.{debt}
use Rattle.pcs_top.specs.Sending.{filled_columns}
use Rattle.pcs_top.specs.Trials.{encoding, Places}
use Rattle.pcs_top.proofs.TriedColumns.{end-columns}
use Rattle.pcs_top.proofs.trial.Trying.send_end.Goals as goal

pub returns-clause-ended : goal.returns-clause-ended
returns-clause-ended c = λ options cs is has.
    let filled = c.fill_last.ensures.filled options cs has in
    let owed = debt options.period (reverse cs) in (
      owed,
      subst (λ xs. Places options c.send_idle_pairs.new.self xs owed) (end-columns options cs c.args.period has.least is filled.1)
          (c.send_idle_pairs.ensures.places options (filled_columns (encoding options) cs) owed filled.0 filled.1),
    )
