use Rattle.std.proofs.Common.{◌≢◌, ◌<◌, length, ◌∙◌, arith, length-set, get_or-set_same, get_or-set_other, below_more}
use Rattle.std.specs.Prelude.{slice_index}
use Rattle.lane_deskew.proofs.pair.beats_from.Goals as goal

pub loop-k-preserved : goal.loop-k-preserved
loop-k-preserved c =
    let inv = c.loop-k.invariant in
    let low : c.loop-k.k < length c.loop-k.octets = omega (arith, inv.size, c.loop-k-test.true) in
    record {
      size = length-set _ _ _ ∙ inv.size;
      done = below_more _ _
          (λ k h v few. let ne : k ≢ c.loop-k.k = omega arith in rw get_or-set_other (inv.done k h v few))
          (λ v few. rw get_or-set_same (c.ordered.ensures v few ∙ c.beat_at.ensures (slice_index c.args.lanes.now v)));
    }

pub returns : goal.returns
returns c = λ k v low few. c.loop-k.invariant.done k (omega (arith, c.loop-k-test.false)) v few
