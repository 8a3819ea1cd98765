-- A line's 58 bits, moved up six places and back.
use Rattle.std.proofs.Common.{◌≡◌, ℕ, ◌+◌, ◌*◌, ◌/◌, ◌%◌, ◌^◌, ◌∙◌, arith}
use Rattle.bit_lists.specs.Bits.{bits}
use Rattle.bit_lists.proofs.Facts.{bits_same, bit_at-shr, bit_at-shl_word}

pub moved_up : (n : ℕ) → bits 58 (n * 2 ^ 6 % 2 ^ 64 / 2 ^ 6) ≡ bits 58 n
moved_up n = bits_same 58 _ _ (λ i low. bit_at-shr (n * 2 ^ 6 % 2 ^ 64) 6 i ∙ bit_at-shl_word 64 n 6 (6 + i) i (omega arith) (omega arith))
