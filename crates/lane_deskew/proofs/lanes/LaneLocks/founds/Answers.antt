use Rattle.std.proofs.Common.{sym, ◌∙◌, subst}
use Rattle.lane_deskew.specs.Lanes.{LanesStand}
use Rattle.lane_deskew.proofs.LaneColumns.{locks-stand}
use Rattle.lane_deskew.proofs.lanes.LaneLocks.founds.Goals as goal

pub returns-clause-founds : goal.returns-clause-founds
returns-clause-founds c = λ c' from stands.
    c.founds_of.ensures.founds ∙ locks-stand _ c' from (subst (λ v. LanesStand v c' from) (sym c.self.view_is) stands)
