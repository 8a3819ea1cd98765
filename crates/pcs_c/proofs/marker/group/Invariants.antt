use Rattle.marker_table.specs.Groups.{GroupsStand}
use Rattle.pcs_c.proofs.marker.group.Given as goal

abbrev pub invariant-loop-i : goal.invariant-loop-i
invariant-loop-i l = GroupsStand l.groups l.i
