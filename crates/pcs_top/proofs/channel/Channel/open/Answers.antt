use Rattle.std.proofs.Common.{[], sym, subst, arith}
use Rattle.lane_impair.specs.Items.{AreItems}
use Rattle.trial_laws.specs.Trial.{next_seed, limit_of}
use Rattle.trial_laws.proofs.TrialOrder.{trial_opens}
use Rattle.pcs_top.specs.Channels.{taking}
use Rattle.pcs_top.proofs.Passing.{just-opened}
use Rattle.pcs_top.proofs.channel.Channel.open.Goals as goal

pub open-requires : goal.open-requires
open-requires c =
    let o = c.args.options.now in subst AreItems (sym c.requires.items) (trial_opens (next_seed o.seed) (limit_of o.period) (omega arith))

pub receive-requires : goal.receive-requires
receive-requires c =
    let o = c.args.options.now in (
      o,
      taking o [] 0,
      just-opened o c.args.items.now c.args.limit _ _ _ c.requires.items c.requires.limit c.in_ok-impairer.ensures.stands
          c.in_ok-receiver.ensures.stands c.in_ok-receiver.ensures.drained c.in_ok-receiver.ensures.beats c.new-counts.ensures,
      omega arith,
    )

pub returns : goal.returns
returns c =
    let o = c.args.options.now in
    let (given, now, last) = c.receive.ensures.gives o (taking o [] 0)
    (just-opened o c.args.items.now c.args.limit _ _ _ c.requires.items c.requires.limit c.in_ok-impairer.ensures.stands
    c.in_ok-receiver.ensures.stands c.in_ok-receiver.ensures.drained c.in_ok-receiver.ensures.beats c.new-counts.ensures) in
    record { given = given; passed = now; last = last; drained = c.receive.ensures.drained }
