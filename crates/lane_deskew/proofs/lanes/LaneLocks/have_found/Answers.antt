use Rattle.std.proofs.Common.{◌*◌, sym, ◌∙◌, subst}
use Rattle.lane_deskew.specs.Lanes.{LanesStand}
use Rattle.lane_deskew.proofs.LaneColumns.{locks-stand}
use Rattle.lane_deskew.proofs.lanes.LaneLocks.have_found.Goals as goal

pub returns : goal.returns
returns c = λ c' from stands no.
    sym (locks-stand _ c' from (subst (λ v. LanesStand v c' from) (sym c.self.view_is) stands)) ∙ c.have_found.ensures no (8 * c.self.inside.start)
