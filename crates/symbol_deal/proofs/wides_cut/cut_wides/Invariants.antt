use Rattle.std.proofs.Common.{◌≡◌, ◌<◌, ◌+◌, ◌*◌, ◌++◌, ℕ, [], length, take, get_or}
use Rattle.bit_lists.specs.Bits.{all_bits}
use Rattle.bit_lists.specs.Places.{flat}
use Rattle.symbol_deal.specs.Left.{bits_left}
use Rattle.symbol_deal.proofs.wides_cut.cut_wides.Given as goal

abbrev pub invariant-loop-i : goal.invariant-loop-i
invariant-loop-i l = record {
  count : length l.wides ≡ 40;
  size : length l.rest + l.i ≡ 64;
  bits : flat (take l.i l.wides) ++ bits_left l.words (4 * l.i + 1) l.rest ≡ all_bits 64 l.words;
  each : (n : ℕ) → n < l.i → length (get_or l.wides n []) ≡ 257;
}
