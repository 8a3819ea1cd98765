use Rattle.std.proofs.Common.{◌≡◌, ℕ, ◌+◌, ◌-◌, ◌*◌, ◌/◌, ◌%◌, ◌^◌, ◌<◌, length, get_or}
use Rattle.std.specs.Prelude.{slice_index, All}
use Rattle.lane_deskew.specs.Pairs.{lane_with}
use Rattle.lane_deskew.proofs.pair.read_rows.Given as goal

abbrev pub invariant-loop-u : goal.invariant-loop-u
invariant-loop-u l = record {
  sizes : (length l.lanes ≡ 16) × (length l.froms ≡ 16) × (length l.shifts ≡ 16);
  few : All (λ n. n < 16) l.lanes;
  near : All (λ n. n < 2 ^ 60) l.froms;
  small : All (λ n. n < 8) l.shifts;
  lane : (v : ℕ) → v < l.u → get_or l.lanes v 0 ≡ lane_with l.order v;
  from : (v : ℕ) → v < l.u → get_or l.froms v 0 ≡ (slice_index l.order.places (lane_with l.order v) + 680 * l.i) / 8 - (l.beats - length l.kept.items);
  shift : (v : ℕ) → v < l.u → get_or l.shifts v 0 ≡ (slice_index l.order.places (lane_with l.order v) + 680 * l.i) % 8;
}
