use Rattle.std.proofs.Common.{◌≡◌, ◌+◌, ◌-◌, ◌*◌, ◌≤◌, [], ◌∷◌, ◌++◌, ℕ, List, length, ap, ◌∙◌, arith}
use Rattle.std.specs.Prelude.{slice_index_or}
use Rattle.circular_buffer.specs.Buffer.{Buffer, buffer, keep_last}
use Rattle.lane_deskew.specs.Lanes.{Lanes, silence}
use Rattle.lane_deskew.proofs.LaneColumns.{filled, kept-none, kept-one, none_at, nothing-yet}
use Rattle.lane_deskew.proofs.LastBeats.{last_beats-none}
use Rattle.lane_deskew.proofs.lanes.LaneLocks.restart.Goals as goal

pub returns-then-start-beats-clause-stands : goal.returns-then-start-beats-clause-stands
returns-then-start-beats-clause-stands c = λ c' len last per le gt.
    let period : c.self.inside.period ≡ c'.period = ap (λ (s : Lanes). s.period) c.self.view_is ∙ per in
    let n = 85 * c'.period + 15 in
    let room : c.self.inside.kept.capacity ≡ n = c.self.invariant.5 ∙ ap (λ p. 85 * p + 15) period in
    let ring : c.fill_from_slice.new.self ≡ buffer silence c.self.inside.kept.capacity =
    c.fill_from_slice.ensures.items ∙ filled _ _ c.self.inside.kept.capacity c.clear.ensures c.fill_from_slice.ensures.count (omega (arith, room)) in
    let start = c.min-start.ensures in
    let end = c.if-start-beats.true in
    let some : 1 ≤ c'.period = omega (arith, period, c.self.invariant.0) in
    record {
      period = period;
      early = omega (arith, start);
      all = omega (arith, end, len);
      place = omega (arith, le, end);
      recent = last_beats-none c'.beats c.min-start.result (omega (arith, end, len));
      kept = ap (λ (b : Buffer (List ℕ)). b.items) ring ∙ kept-none n c'.beats c.min-start.result (omega arith) (omega (arith, end, len));
      room = ap (λ (b : Buffer (List ℕ)). b.capacity) ring ∙ room;
      each = λ l low. none_at 16 l ∙ nothing-yet c' c.args.from c.min-start.result l some (omega (arith, end, len));
    }

pub returns-clause-stands : goal.returns-clause-stands
returns-clause-stands c = λ c' len last per le gt.
    let period : c.self.inside.period ≡ c'.period = ap (λ (s : Lanes). s.period) c.self.view_is ∙ per in
    let n = 85 * c'.period + 15 in
    let room : c.self.inside.kept.capacity ≡ n = c.self.invariant.5 ∙ ap (λ p. 85 * p + 15) period in
    let ring : c.fill_from_slice.new.self ≡ buffer silence c.self.inside.kept.capacity =
    c.fill_from_slice.ensures.items ∙ filled _ _ c.self.inside.kept.capacity c.clear.ensures c.fill_from_slice.ensures.count (omega (arith, room)) in
    let start = c.min-start.ensures in
    let other = c.if-start-beats.false in
    let some : 1 ≤ c'.period = omega (arith, period, c.self.invariant.0) in
    let at : length c'.beats ≡ c.min-start.result + 1 = omega (arith, start, other, len, le, gt) in
    let before : c.args.beats - 1 ≡ c.min-start.result = omega (arith, at, len) in
    let beat : c.args.last.now ≡ slice_index_or c'.beats c.min-start.result [] =
    last (omega (arith, at, len)) ∙ ap (λ n. slice_index_or c'.beats n []) before in
    let pushed : c.push_back.new.self ≡ buffer (keep_last n (silence ++ c.args.last.now ∷ [])) n =
    c.push_back.ensures.items ∙ ap (λ (b : Buffer (List ℕ)). buffer (keep_last b.capacity (b.items ++ c.args.last.now ∷ [])) b.capacity) ring
    ∙ ap (λ k. buffer (keep_last k (silence ++ c.args.last.now ∷ [])) k) room in
    record {
      period = period;
      early = omega (arith, start);
      all = omega (arith, at);
      place = omega (arith, start, other, len, le, gt);
      recent = c.with_beat-self-inside.ensures ∙ kept-one 15 c'.beats c.args.last.now c.min-start.result at beat;
      kept = ap (λ (b : Buffer (List ℕ)). b.items) pushed ∙ kept-one n c'.beats c.args.last.now c.min-start.result at beat;
      room = ap (λ (b : Buffer (List ℕ)). b.capacity) pushed;
      each = λ l low. none_at 16 l ∙ nothing-yet c' c.args.from c.min-start.result l some (omega (arith, at));
    }
