use Rattle.std.proofs.Common.{[], ◌++◌, take, sym, ◌∙◌, ap, subst, arith, append_assoc, append-nil, length-append, length-take}
use Rattle.std.proofs.lemmas.List.{take_more, take_all}
use Rattle.pcs_top.specs.Channels.{HasTaken}
use Rattle.pcs_top.proofs.channel.Channel.take_pair.Goals as goal

pub loop-b-init : goal.loop-b-init
loop-b-init c = record { taken = λ options beats k. subst (HasTaken options c.args.self.now) (sym (append-nil beats)) k }

pub take-requires : goal.take-requires
take-requires c =
    let (options, beats, k, few) = c.requires in (
      options,
      beats ++ take c.loop-b.b c.args.pair.now,
      c.loop-b.invariant.taken options beats k,
      omega (arith, few, c.loop-b.auto.b-end, length-append beats (take c.loop-b.b c.args.pair.now), length-take c.loop-b.b c.args.pair.now),
    )

pub loop-b-preserved : goal.loop-b-preserved
loop-b-preserved c = record {
  taken = λ options beats k.
      let b = c.loop-b.b in
      let pair = c.args.pair.now in
      subst (HasTaken options c.take.new.self)
      (append_assoc beats (take b pair) _ ∙ ap (λ xs. beats ++ xs) (sym (take_more pair b [] (omega (arith, c.told-pair, c.loop-b-test.true)))))
      (c.take.ensures options (beats ++ take b pair) (c.loop-b.invariant.taken options beats k));
}

pub returns : goal.returns
returns c = λ options beats k.
    let pair = c.args.pair.now in
    subst (λ xs. HasTaken options c.loop-b.self (beats ++ xs)) (take_all c.loop-b.b pair (omega (arith, c.told-pair, c.loop-b-test.false)))
    (c.loop-b.invariant.taken options beats k)
