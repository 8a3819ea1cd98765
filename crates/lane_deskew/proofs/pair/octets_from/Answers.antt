use Rattle.std.proofs.Common.{[], ap, replicate, ◌∙◌, arith, below_more}
use Rattle.std.specs.Prelude.{slice_index}
use Rattle.std.proofs.lemmas.List.{get_or-replicate}
use Rattle.lane_deskew.proofs.pair.octets_from.Goals as goal

pub loop-u-init : goal.loop-u-init
loop-u-init c = record {
  done = λ v few. absurd (omega arith);
  none = λ v k le few low. ap (λ row. slice_index row v) (get_or-replicate 88 k (replicate 16 0) [] low) ∙ get_or-replicate 16 v 0 0 few;
}

pub loop-u-preserved : goal.loop-u-preserved
loop-u-preserved c =
    let inv = c.loop-u.invariant in
    let put = c.put_lane.ensures in
    record {
      done = below_more _ _ (λ v h k few. put.beside k v (omega arith) ∙ inv.done v h k few) put.put;
      none = λ v k le few low. put.beside k v (omega arith) ∙ inv.none v k (omega arith) few low;
    }
