-- A symbol out of two octets of a lane.
use Rattle.std.proofs.Common.{◌≡◌, ℕ, ◌+◌, ◌-◌, ◌*◌, ◌/◌, ◌%◌, ◌^◌, ◌<◌, ◌≤◌, List, length, get_or, inl, inr, sym, ap, ◌∙◌, arith}
use Rattle.std.specs.Int.{bit_at}
use Rattle.std.proofs.lemmas.Bool.{cases_lt}
use Rattle.bit_lists.specs.Bits.{all_bits}
use Rattle.bit_lists.proofs.Facts.{bit_at-shr, bit_at-mod, at-all_bits, length-all_bits}
use Rattle.gf1024.specs.Symbol.{symbol}
use Rattle.bit_lists.specs.Bits.{number}
use Rattle.std.specs.Prelude.{slice_range}
use Rattle.pcs_receive.proofs.SymbolBits.{symbol-read}

-- a bit of two octets is one of the first or of the second
low_bit : (a b m : ℕ) → a < 256 → m < 8 → bit_at (a + b * 256) m ≡ bit_at a m
low_bit a b m small low = sym (bit_at-mod (a + b * 256) 8 m low) ∙ ap (λ n. bit_at n m) (omega (arith, small))

high_bit : (a b i : ℕ) → a < 256 → bit_at (a + b * 256) (8 + i) ≡ bit_at b i
high_bit a b i small = sym (bit_at-shr (a + b * 256) 8 i) ∙ ap (λ n. bit_at n i) (omega (arith, small))

pub symbol_is : (xs : List ℕ) (k a b : ℕ) → 10 * k + 10 ≤ length xs * 8 → get_or xs (10 * k / 8) 0 ≡ a → get_or xs (10 * k / 8 + 1) 0 ≡ b → a < 256
    → symbol ((a + b * 256) / 2 ^ (10 * k % 8)) ≡ symbol (number (slice_range (all_bits 8 xs) (10 * k) (10 * k + 10)))
symbol_is xs k a b room first second small =
    let at : ℕ = 10 * k / 8 in
    let s : ℕ = 10 * k % 8 in
    let w : ℕ = (a + b * 256) / 2 ^ s in
    sym (symbol-read (all_bits 8 xs) k (symbol w) (omega (arith, room, length-all_bits 8 xs))
    (λ r low.
    elim (cases_lt (s + r) 8) [
      | inl less ↦
          at-all_bits 8 xs (10 * k + r) at (s + r) (omega arith) less (omega (arith, room))
          ∙ ap (λ n. bit_at n (s + r)) first ∙ sym (low_bit a b (s + r) small less)
      | inr more ↦
          at-all_bits 8 xs (10 * k + r) (at + 1) (s + r - 8) (omega (arith, more)) (omega (arith, low)) (omega (arith, room))
          ∙ ap (λ n. bit_at n (s + r - 8)) second ∙ sym (high_bit a b (s + r - 8) small)
          ∙ ap (bit_at (a + b * 256)) (omega (arith, more))
    ] ∙ sym (bit_at-shr (a + b * 256) s r) ∙ sym (bit_at-mod w 10 r low)))
