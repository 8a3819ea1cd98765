use Rattle.lane_impair.proofs.GrowthFacts.{GrowsBelow}
use Rattle.lane_impair.proofs.GroupFacts.{then_more, AreSteady}
use Rattle.lane_impair.proofs.growing.put_whole.Given as goal

abbrev pub invariant-loop-l : goal.invariant-loop-l
invariant-loop-l l = record {
  grows : GrowsBelow l.initial.rows l.rows (then_more l.lengths l.number l.octets) l.l;
  steady : AreSteady l.lengths l.number l.initial.rows l.rows;
}
