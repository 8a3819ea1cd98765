use Rattle.std.proofs.Common.{◌≡◌, ◌*◌, length, take}
use Rattle.bit_lists.specs.Bits.{all_bits}
use Rattle.bit_lists.specs.Places.{joined}
use Rattle.symbol_deal.specs.Messages.{twenty_bits}
use Rattle.symbol_deal.proofs.bits_gathered.gather_words.Given as goal

abbrev pub invariant-loop-q : goal.invariant-loop-q
invariant-loop-q l = record {
  long : length l.words ≡ 161;
  bits : all_bits 64 (take (5 * l.q) l.words) ≡ joined (16 * l.q) (twenty_bits l.a l.b);
}
