use Rattle.std.proofs.Common.{◌≡◌, ◌+◌, ◌++◌, take, vec_len, vec_capacity}
use Rattle.pcs_io.proofs.memory.append_front.Given as goal

abbrev pub invariant-loop-i : goal.invariant-loop-i
invariant-loop-i l = record {
  items : l.items.items ≡ l.fn.items.items ++ take l.i l.from;
  len : vec_len l.items ≡ vec_len l.fn.items + l.i;
  capacity : vec_capacity l.items ≡ vec_capacity l.fn.items;
}
