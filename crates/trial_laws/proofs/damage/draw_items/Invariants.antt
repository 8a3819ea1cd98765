use Rattle.std.proofs.Common.{◌≡◌, ◌+◌, ◌<◌, ℕ, [], length, get_or}
use Rattle.lane_impair.specs.Noise.{state_after}
use Rattle.lane_impair.specs.declared.item.Item.TheVariants.{Order, Skew}
use Rattle.trial_laws.specs.Damage.{trial_order, skew_word}
use Rattle.trial_laws.proofs.damage.draw_items.Given as goal

abbrev pub invariant-loop-l : goal.invariant-loop-l
invariant-loop-l l = record {
  words : l.words ≡ state_after (15 + l.l) l.fn.words;
  size : length l.items ≡ 17;
  order : get_or l.items 0 (Order []) ≡ Order (trial_order l.fn.words);
  skews : (n : ℕ) → n < l.l → get_or l.items (n + 1) (Order []) ≡ Skew n (skew_word l.fn.words l.fn.limit n);
}
