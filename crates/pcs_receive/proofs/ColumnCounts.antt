-- How many columns a pair has.
use Rattle.std.proofs.Common.{◌≡◌, ℕ, zero, suc, ◌+◌, ◌*◌, ◌%◌, Bool, true, false, List, length, Option, Some, None, refl, ◌∙◌, ap, arith, length-append}
use Rattle.std.specs.Prelude.{◌==◌, if◌then◌else◌}
use Rattle.std.proofs.lemmas.List.{length-map}
use Rattle.bit_lists.specs.Places.{joined}
use Rattle.mac_columns.specs.declared.column.Column.{Column}
use Rattle.block66.specs.Blocks.{column_of}
use Rattle.block66.specs.declared.Block.{Block}
use Rattle.transcode257.specs.Blocks.{blocks_of}
use Rattle.transcode257.proofs.Found.{blocks_of-is}
use Rattle.pcs_send.specs.Transmission.{wides_before, wides_of_pair}
use Rattle.pcs_send.proofs.Carrying.{joined-none, joined-next}
use Rattle.pcs_receive.specs.Laws.{PairsHaveAllColumns}
use Rattle.pcs_receive.specs.Received.{columns_of_blocks, columns_of_pair, columns_of_wide, four_errors, is_marked, wide_at}

four-of-wide : (wide : List ℕ) → length (columns_of_wide wide) ≡ 4
unfolding columns_of_wide
four-of-wide wide = by (blocks_of wide) refl
  where
    by : (found : Option (List Block)) → blocks_of wide ≡ found → length (columns_of_blocks found) ≡ 4
    by None is = refl
    by (Some blocks) is = length-map blocks column_of ∙ (blocks_of-is wide blocks is).four

four : (marked : Bool) (wide : List ℕ) → length (if marked then four_errors else columns_of_wide wide) ≡ 4
four true wide = refl
four false wide = four-of-wide wide

length-joined : (f : ℕ → List Column) (n : ℕ) → ((w : ℕ) → length (f w) ≡ 4) → length (joined n f) ≡ 4 * n
length-joined f zero each = ap length (joined-none f) ∙ omega arith
length-joined f (suc n) each =
    let one : suc n ≡ n + 1 = omega arith in
    let before = length-joined f n each in
    let last = each n in
    ap (λ k. length (joined k f)) one ∙ ap length (joined-next f n) ∙ length-append (joined n f) (f n) ∙ omega (arith, before, last)

wides : (begins : Bool) → 4 * (if begins then 32 else 40) ≡ (if begins then 128 else 160)
wides true = refl
wides false = refl

pub pairs_have_all_columns : PairsHaveAllColumns
unfolding columns_of_pair
pairs_have_all_columns p pairs i =
    length-joined (λ w. if is_marked pairs i w then four_errors else columns_of_wide (wide_at p pairs (wides_before p i + w)))
    (wides_of_pair p i) (λ w. four (is_marked pairs i w) (wide_at p pairs (wides_before p i + w)))
    ∙ wides (i % p == 0)
