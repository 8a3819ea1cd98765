use Rattle.std.proofs.Common.{◌≡◌, ◌*◌, ◌/◌, length, take, Ok}
use Rattle.hex.specs.Hex.{decode_pairs}
use Rattle.pcs_io.proofs.hex_groups.decode_digits.Given as goal

abbrev pub invariant-loop-i : goal.invariant-loop-i
invariant-loop-i l =
    (length l.octets ≡ length l.digits / 2)
    × (decode_pairs 0 (take (32 * l.i) l.digits) ≡ Ok (take (16 * l.i) l.octets))
