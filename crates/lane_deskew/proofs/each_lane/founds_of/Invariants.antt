use Rattle.std.proofs.Common.{◌≡◌, ℕ, ◌*◌, ◌<◌, ◌^◌, length, get_or, Some, None}
use Rattle.std.specs.Prelude.{All}
use Rattle.lane_lock.specs.declared.Found.{Found}
use Rattle.lane_deskew.specs.Lanes.{shifted}
use Rattle.lane_deskew.proofs.each_lane.founds_of.Given as goal

abbrev pub invariant-loop-lane : goal.invariant-loop-lane
invariant-loop-lane l = record {
  size : length l.all ≡ 16;
  within : All (λ (f : Found). (f.place < 2 ^ 46) × (f.number < 16)) l.all;
  done : (k : ℕ) (d : Found) → k < l.lane → shifted (8 * l.start) (get_or l.founds k None) ≡ Some (get_or l.all k d);
}
