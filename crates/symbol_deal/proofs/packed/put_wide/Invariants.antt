use Rattle.std.proofs.Common.{◌≡◌, ◌++◌, ◌+◌, take, length}
use Rattle.bit_lists.specs.Bits.{all_bits}
use Rattle.symbol_deal.proofs.packed.put_wide.Given as goal

abbrev pub invariant-loop-j : goal.invariant-loop-j
invariant-loop-j l = record {
  long : length l.words ≡ 161;
  size : length l.rest ≡ length l.initial.rest;
  bits : all_bits 64 (take (l.at + l.j) l.words) ++ l.rest
      ≡ all_bits 64 (take l.at l.initial.words) ++ (l.initial.rest ++ all_bits 64 (take l.j l.five));
}
