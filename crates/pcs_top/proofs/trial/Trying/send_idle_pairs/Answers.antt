use Rattle.std.proofs.Common.{◌∙◌, refl, arith}
use Rattle.pcs_top.specs.Sending.{with_pairs}
use Rattle.pcs_top.proofs.TriedColumns.{idle-pairs-none, idle-pairs-next}
use Rattle.pcs_top.proofs.trial.Trying.send_idle_pairs.Goals as goal

pub loop-i-init : goal.loop-i-init
loop-i-init c = record {
  places = λ options cs owed has whole. idle-pairs-none options _ _ _ _ _ cs owed whole has;
  trying = c.requires.trying;
  waits = c.requires.waits;
  octets = refl;
  columns = refl;
  few = omega arith;
}

pub loop-i-preserved : goal.loop-i-preserved
loop-i-preserved c =
    let v = c.loop-i.invariant in
    record {
      places = λ options cs owed has whole.
          idle-pairs-next options _ _ _ _ _ cs owed whole c.loop-i.i
          (c.send_idle_pair.ensures.places options (with_pairs options.period cs c.loop-i.i) owed (v.places options cs owed has whole));
      trying = c.send_idle_pair.ensures.trying;
      waits = c.send_idle_pair.ensures.waits;
      octets = c.send_idle_pair.ensures.same.0 ∙ v.octets;
      columns = c.send_idle_pair.ensures.same.1 ∙ v.columns;
      few = omega (arith, v.few, c.send_idle_pair.ensures.few);
    }
