use Rattle.std.proofs.Common.{◌≡◌, ◌+◌, ◌++◌, length, take}
use Rattle.bit_lists.specs.Bits.{all_bits}
use Rattle.symbol_deal.specs.Left.{bits_left}
use Rattle.symbol_deal.proofs.wides_cut.cut_wide.Given as goal

abbrev pub invariant-loop-j : goal.invariant-loop-j
invariant-loop-j l = record {
  five : length l.five ≡ 5;
  size : length l.rest ≡ length l.initial.rest;
  bits : bits_left l.words l.at l.initial.rest ≡ all_bits 64 (take l.j l.five) ++ bits_left l.words (l.at + l.j) l.rest;
}
