use Rattle.std.proofs.Common.{◌≡◌, ◌≤◌, ◌++◌, ◌-◌, ◌+◌, ◌*◌, length, take}
use Rattle.rs_decode.specs.Repair.{roots_below}
use Rattle.rs_decode.proofs.Search.{roots_from}
use Rattle.rs_decode.proofs.Rows.{IsScaled}
use Rattle.rs_decode.proofs.roots.root_places.Given as goal

abbrev pub invariant-loop-row : goal.invariant-loop-row
invariant-loop-row l = record {
  scaled : IsScaled (32 * l.row + 31) l.locator l.scaled;
  room : length l.places.items ≤ 16;
  found : take 16 (l.places.items ++ roots_from l.locator (32 * l.row) (l.count - 32 * l.row)) ≡ take 16 (roots_below l.count l.locator);
}

abbrev pub invariant-loop-k : goal.invariant-loop-k
invariant-loop-k l = record {
  room : length l.places.items ≤ 16;
  found : take 16 (l.places.items ++ roots_from l.locator (32 * l.row + l.k) (l.count - (32 * l.row + l.k)))
      ≡ take 16 (roots_below l.count l.locator);
}
