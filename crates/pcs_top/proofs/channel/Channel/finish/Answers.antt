use Rattle.std.proofs.Common.{arith}
use Rattle.lane_impair.specs.Histories.{after_finish}
use Rattle.pcs_top.specs.Channels.{taking}
use Rattle.pcs_top.proofs.Passing.{taken-is, ends-beats, all-passed}
use Rattle.pcs_top.proofs.channel.Channel.finish.Goals as goal

pub finish-requires-clause-drained : goal.finish-requires-clause-drained
finish-requires-clause-drained c = let (options, beats, k, few) = c.requires in k.drained

pub finish-requires-clause-open : goal.finish-requires-clause-open
finish-requires-clause-open c =
    let (options, beats, k, few) = c.requires in (taken-is c.args.self.now.impairer (taking options beats k.given) k.passed.stands).1

pub receive-requires : goal.receive-requires
receive-requires c =
    let (options, beats, k, few) = c.requires in (
      options,
      after_finish (taking options beats k.given),
      ends-beats options beats k.given _ _ _ _ k.passed c.finish.ensures.stands,
      omega (arith, few),
    )

pub returns : goal.returns
returns c = λ options beats k.
    let (given, now, last) = c.receive.ensures.gives options (after_finish (taking options beats k.given))
    (ends-beats options beats k.given _ _ _ _ k.passed c.finish.ensures.stands) in
    all-passed options beats given k.given _ _ _ now last
