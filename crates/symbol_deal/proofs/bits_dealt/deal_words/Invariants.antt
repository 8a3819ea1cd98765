use Rattle.std.proofs.Common.{◌≡◌, ◌*◌, length, take}
use Rattle.bit_lists.specs.Bits.{all_bits}
use Rattle.bit_lists.specs.Places.{joined}
use Rattle.symbol_deal.specs.Messages.{twenty_bits}
use Rattle.symbol_deal.proofs.bits_dealt.deal_words.Given as goal

abbrev pub invariant-loop-q : goal.invariant-loop-q
invariant-loop-q l = record {
  a_size : length l.messages.a ≡ 514;
  b_size : length l.messages.b ≡ 514;
  bits : joined (16 * l.q) (twenty_bits l.messages.a l.messages.b) ≡ all_bits 64 (take (5 * l.q) l.words);
}
