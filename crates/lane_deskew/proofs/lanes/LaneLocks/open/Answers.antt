use Rattle.std.proofs.Common.{◌≡◌, ◌+◌, ◌*◌, [], ℕ, List, ap, ◌∙◌, refl, arith}
use Rattle.circular_buffer.specs.Buffer.{Buffer, buffer}
use Rattle.lane_deskew.specs.Lanes.{silence}
use Rattle.lane_deskew.proofs.LaneColumns.{filled, kept-none, none_at, nothing-yet}
use Rattle.lane_deskew.proofs.LastBeats.{last_beats-none}
use Rattle.lane_deskew.proofs.lanes.LaneLocks.open.Goals as goal

pub returns-clause-stands : goal.returns-clause-stands
returns-clause-stands c =
    let n = 85 * c.args.period + 15 in
    let ring : c.fill_from_slice.new.self ≡ buffer silence n =
    c.fill_from_slice.ensures.items ∙ filled _ _ n c.in_ok-kept.ensures c.fill_from_slice.ensures.count (omega arith) in
    let some = c.requires.0 in
    record {
      period = refl;
      early = omega arith;
      all = refl;
      place = refl;
      recent = last_beats-none [] 0 (omega arith);
      kept = ap (λ (b : Buffer (List ℕ)). b.items) ring ∙ kept-none n [] 0 (omega arith) (omega arith);
      room = ap (λ (b : Buffer (List ℕ)). b.capacity) ring;
      each = λ l low. none_at 16 l ∙ nothing-yet (record { period = c.args.period; beats = [] }) 0 0 l some (omega arith);
    }
