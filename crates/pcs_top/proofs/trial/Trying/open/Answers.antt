use Rattle.std.proofs.Common.{◌∙◌, refl, ap, ap₂, arith}
use Rattle.lane_impair.specs.Noise.{state_after}
use Rattle.trial_laws.specs.Damage.{trial_items}
use Rattle.pcs_top.proofs.TriedFrames.{nothing-placed}
use Rattle.pcs_top.proofs.trial.Trying.open.Goals as goal

pub draw_items-items-requires : goal.draw_items-items-requires
draw_items-items-requires c = omega (arith, c.skew_limit-limit.ensures)

pub open-requires-clause-items : goal.open-requires-clause-items
open-requires-clause-items c = c.draw_items-items.ensures.items ∙ ap₂ trial_items c.words_of-words.ensures c.skew_limit-limit.ensures

pub returns : goal.returns
returns c = record {
  places = nothing-placed c.args.options.now _ _ _ _ c.new.ensures.stands (omega (arith, c.from.ensures))
      (c.draw_items-items.ensures.state ∙ ap (state_after 31) c.words_of-words.ensures) c.in_ok-channel.ensures;
  waits = c.new.ensures.waits;
  none = (refl, refl, refl);
}
