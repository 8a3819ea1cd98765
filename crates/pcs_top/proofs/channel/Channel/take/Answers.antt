use Rattle.std.proofs.Common.{[], ◌∷◌, ◌++◌, arith, length-append}
use Rattle.pcs_top.specs.Channels.{taking}
use Rattle.pcs_top.proofs.Passing.{taken-is, takes-beat}
use Rattle.pcs_top.proofs.channel.Channel.take.Goals as goal

pub take-requires-clause-drained : goal.take-requires-clause-drained
take-requires-clause-drained c = let (options, beats, k, few) = c.requires in k.drained

pub take-requires-clause-open : goal.take-requires-clause-open
take-requires-clause-open c =
    let (options, beats, k, few) = c.requires in (taken-is c.args.self.now.impairer (taking options beats k.given) k.passed.stands).1

pub take-requires-clause-few : goal.take-requires-clause-few
take-requires-clause-few c =
    let (options, beats, k, few) = c.requires in
    omega (arith, few, (taken-is c.args.self.now.impairer (taking options beats k.given) k.passed.stands).0)

pub receive-requires : goal.receive-requires
receive-requires c =
    let (options, beats, k, few) = c.requires in (
      options,
      taking options (beats ++ c.args.beat ∷ []) k.given,
      takes-beat options beats k.given _ _ _ _ k.passed c.args.beat c.take.ensures.stands,
      omega (arith, few, length-append beats (c.args.beat ∷ [])),
    )

pub returns : goal.returns
returns c = λ options beats k.
    let (given, now, last) = c.receive.ensures.gives options (taking options (beats ++ c.args.beat ∷ []) k.given)
    (takes-beat options beats k.given _ _ _ _ k.passed c.args.beat c.take.ensures.stands) in
    record { given = given; passed = now; last = last; drained = c.receive.ensures.drained }
