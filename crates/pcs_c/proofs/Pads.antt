-- The pad bits come again after 511, and the groups after 73: 73 groups have 19 times 511 pad bits.
use Rattle.std.proofs.Common.{◌≡◌, ℕ, zero, suc, ◌+◌, ◌*◌, ◌/◌, ◌%◌, ◌∙◌, sym, ap, refl, List, arith, replicate}
use Rattle.marker_table.specs.Groups.{pad_after, pad_past, PadStands, GroupsStand}

once : pad_past 511 ≡ replicate 9 1
unfolding pad_past
once = refl

again : (n : ℕ) → pad_past (n + 511) ≡ pad_past n
unfolding pad_past
again zero = once
again (suc n) = let more : suc n + 511 ≡ suc (n + 511) = omega arith in ap pad_past more ∙ ap pad_after (again n)

always : (q n : ℕ) → pad_past (n + 511 * q) ≡ pad_past n
always zero n = let none : n + 511 * 0 ≡ n = omega arith in ap pad_past none
always (suc q) n =
    let more : n + 511 * suc q ≡ n + 511 * q + 511 = omega arith in
    ap pad_past more ∙ again (n + 511 * q) ∙ always q n

pub stands_again : (nine : List ℕ) (n : ℕ) → GroupsStand nine (n % 73) → GroupsStand nine n
unfolding GroupsStand PadStands
stands_again nine n is =
    let whole : 133 * (n % 73) + 511 * (19 * (n / 73)) ≡ 133 * n = omega arith in
    is ∙ sym (always (19 * (n / 73)) (133 * (n % 73))) ∙ ap pad_past whole
