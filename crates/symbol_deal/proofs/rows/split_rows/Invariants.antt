use Rattle.std.proofs.Common.{◌≡◌, ◌-◌, ◌*◌, ◌<◌, ℕ, length, get_or}
use Rattle.gf1024.specs.Symbol.{zero_symbol}
use Rattle.symbol_deal.proofs.Woven.{place_a, place_b}
use Rattle.symbol_deal.proofs.rows.split_rows.Given as goal

abbrev pub invariant-loop-k : goal.invariant-loop-k
invariant-loop-k l = record {
  a_size : length l.words.a ≡ 544;
  b_size : length l.words.b ≡ 544;
  a_at : (n : ℕ) → n < 8 * l.k → get_or l.words.a (543 - n) zero_symbol ≡ place_a l.rows n;
  b_at : (n : ℕ) → n < 8 * l.k → get_or l.words.b (543 - n) zero_symbol ≡ place_b l.rows n;
}
