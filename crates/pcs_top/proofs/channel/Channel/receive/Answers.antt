use Rattle.std.proofs.Common.{◌+◌, refl, ◌∙◌}
use Rattle.pcs_top.specs.Giving.{with_given}
use Rattle.pcs_top.specs.Channels.{damaged_beats}
use Rattle.pcs_top.proofs.Passing.{few-heard, passes-beat, passes-none}
use Rattle.pcs_top.proofs.channel.Channel.receive.Goals as goal

pub loop-beat-init : goal.loop-beat-init
loop-beat-init c = record { gives = λ options h p. (h.given, p); taken = refl; finished = refl }

pub hear-requires-clause-few : goal.hear-requires-clause-few
hear-requires-clause-few c =
    let (options, h, p, few) = c.requires in
    let (given, now) = c.loop-beat.invariant.gives options h p in
    few-heard options (with_given h given) _ _ _ now few

pub hear-requires-clause-waits : goal.hear-requires-clause-waits
hear-requires-clause-waits c =
    let (options, h, p, few) = c.requires in
    let (given, now) = c.loop-beat.invariant.gives options h p in
    now.heard.waits

pub loop-beat-preserved : goal.loop-beat-preserved
loop-beat-preserved c = record {
  gives = λ options h p.
      let (given, now) = c.loop-beat.invariant.gives options h p in (
        given + 1,
        passes-beat options (with_given h given) _ _ _ _ now _ c.in-Some.ensures.answer c.in-Some.ensures.stands c.in-Some.beat _ _ refl
            (c.hear.ensures options (damaged_beats options h.beats given)),
      );
  taken = c.next.ensures.state.0 ∙ c.loop-beat.invariant.taken;
  finished = c.next.ensures.state.1 ∙ c.loop-beat.invariant.finished;
}

pub returns-clause-gives : goal.returns-clause-gives
returns-clause-gives c = λ options h p.
    let (given, now) = c.loop-beat.invariant.gives options h p in
    let done = passes-none options (with_given h given) _ _ _ _ now _ c.in_default.ensures.answer c.in_default.ensures.stands refl in
    (given, done.0, done.1)
