use Rattle.std.proofs.Common.{◌≡◌, ◌%◌, arith, subst}
use Rattle.marker_table.specs.Groups.{GroupsStand}
use Rattle.pcs_c.proofs.Pads.{stands_again}
use Rattle.pcs_c.proofs.marker.group.Goals as goal

pub returns : goal.returns
returns c =
    let passed : c.loop-i.i ≡ c.args.number % 73 = omega (arith, c.loop-i.auto.i-end, c.loop-i-test.false) in
    c.next-2.ensures.group c.args.number (stands_again c.loop-i.groups c.args.number (subst (GroupsStand c.loop-i.groups) passed c.loop-i.invariant))
