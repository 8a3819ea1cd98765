use Rattle.std.proofs.Common.{◌≡◌, ℕ, ◌<◌, ◌≤◌, ◌++◌, ◌∷◌, [], None, length, get_or}
use Rattle.std.specs.Prelude.{slice_index}
use Rattle.lane_deskew.specs.Lanes.{column, first_column, found_after, AreFound}
use Rattle.lane_deskew.proofs.each_lane.look_at.Given as goal

abbrev pub invariant-loop-lane : goal.invariant-loop-lane
invariant-loop-lane l = record {
  size : length l.founds ≡ 16;
  within : AreFound l.founds;
  done : (k : ℕ) → k < l.lane → get_or l.founds k None
      ≡ found_after (get_or l.fn.founds k None) (first_column l.kept.items l.kept.capacity k) (column k l.recent ++ slice_index l.beat k ∷ []) l.taken l.from l.period;
  rest : (k : ℕ) → l.lane ≤ k → get_or l.founds k None ≡ get_or l.fn.founds k None;
}
