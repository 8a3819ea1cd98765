use Rattle.std.proofs.Common.{◌≡◌, ◌++◌, ◌*◌, take, length}
use Rattle.bit_lists.specs.Bits.{all_bits}
use Rattle.bit_lists.specs.Places.{flat}
use Rattle.symbol_deal.proofs.packed.put_words.Given as goal

abbrev pub invariant-loop-i : goal.invariant-loop-i
invariant-loop-i l = record {
  long : length l.words ≡ 161;
  size : length l.rest ≡ l.i;
  bits : all_bits 64 (take (4 * l.i) l.words) ++ l.rest ≡ flat (take l.i l.wides);
}
