use Rattle.std.proofs.Common.{◌≡◌, ◌+◌, ◌*◌, ap, ◌∙◌, None, ℕ, arith}
use Rattle.circular_buffer.specs.Buffer.{Buffer}
use Rattle.lane_lock.specs.Seen.{Stands, Lock, silence}
use Rattle.lane_lock.proofs.Rows.{filled}
use Rattle.lane_lock.proofs.State.{begun}
use Rattle.lane_lock.proofs.LaneLock.open.Goals as goal

pub returns-clause-stands : goal.returns-clause-stands
unfolding Stands
returns-clause-stands c =
    let make : Buffer ℕ → Lock = λ b. record { period = 680 * c.args.period; from = 0; taken = 0; kept = b.items; room = 8 * b.capacity; found = None } in
    let room : 8 * (85 * c.args.period + 15) ≡ 680 * c.args.period + 120 = omega arith in
    ap make (c.fill_from_slice.ensures.items ∙ filled _ _ (85 * c.args.period + 15) c.in_ok-kept.ensures c.fill_from_slice.ensures.count (omega arith))
    ∙ ap (λ (r : ℕ). record { period = 680 * c.args.period; from = 0; taken = 0; kept = silence; room = r; found = None }) room ∙ begun c.args.period
