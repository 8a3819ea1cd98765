use Rattle.std.proofs.Common.{◌∙◌, sym, ap, arith, length, drop}
use Rattle.trial_laws.specs.Trial.{made_frames}
use Rattle.trial_laws.specs.Counting.{are_front}
use Rattle.pcs_receive.specs.Events.{report}
use Rattle.trial_laws.proofs.Comparing.{more-corrected, same-given}
use Rattle.trial_laws.proofs.counts.Counts.report.Goals as goal

pub returns-clause-counts : goal.returns-clause-counts
returns-clause-counts c = λ seed count es k.
    let same = sym (same-given es c.args.told.now) in
    record {
      corrected = omega (arith, k.corrected, c.from.ensures, c.unwrap_or.ensures, c.from-2.ensures, c.unwrap_or-2.ensures, more-corrected es (report c.args.told.now));
      back = k.back ∙ ap length same;
      equal = k.equal ∙ ap (λ back. are_front back (made_frames seed count)) same;
      rest = k.rest ∙ ap (λ back. drop (length back) (made_frames seed count)) same;
    }
