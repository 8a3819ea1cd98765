use Rattle.std.proofs.Common.{refl, ap, subst}
use Rattle.std.specs.Io.KnownBytes.{Appends}
use Rattle.pcs_io.specs.Octets.{AppendsFront}
use Rattle.pcs_drive.proofs.Copying.{all-written}
use Rattle.trial_laws.specs.Trial.{summary_text}
use Rattle.trial_laws.proofs.AlwaysLocks.{trial_locks_truly}
use Rattle.trial_laws.proofs.ComesBack.{trial_comes_back}
use Rattle.pcs_top.specs.Trying.{text_of}
use Rattle.pcs_top.proofs.trial.trial.Goals as goal

pub returns-in-Ok-write_summary : goal.returns-in-Ok-write_summary
returns-in-Ok-write_summary g c = λ left ended reads.
    let o = c.args.options.now in
    let p = c.requires.period_least in (
      refl,
      all-written _ _ (text_of o) (subst (Appends _ _) (ap summary_text c.summary.ensures) c.in-Ok-write_summary.ensures.ok),
      trial_comes_back o.seed o.count o.period p (trial_locks_truly o.seed o.count o.period p),
    )

pub returns-in-Ok : goal.returns-in-Ok
returns-in-Ok g c = λ left ended reads. (
  refl,
  c.in-Err-write_summary.ensures.cause.failed,
  subst (AppendsFront _ _) (ap summary_text c.summary.ensures) c.in-Err-write_summary.ensures.err,
)

pub returns : goal.returns
returns g c = λ left ended reads. record { told = refl; held = refl }
