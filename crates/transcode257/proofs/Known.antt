-- The first control block among the blocks behind others that are none.
use Rattle.std.proofs.Common.{◌≡◌, ℕ, ◌+◌, ◌%◌, ◌^◌, ◌<◌, true, false, List, drop, length, get_or, ap, ◌∙◌}
use Rattle.std.proofs.lemmas.Bool.{cond-true, cond-false}
use Rattle.std.proofs.lemmas.List.{drop_more}
use Rattle.block66.specs.declared.Block.{Block}
use Rattle.transcode257.specs.Wides.{is_type, first_is_known}

pub known-next : (bs : List Block) (i : ℕ) (d : Block) → i < length bs → (get_or bs i d).control ≡ false → first_is_known (drop i bs) ≡ first_is_known (drop (i + 1) bs)
known-next bs i d low plain = ap first_is_known (drop_more bs i d low) ∙ cond-false (get_or bs i d).control _ _ plain

pub known-here : (bs : List Block) (i : ℕ) (d : Block) → i < length bs → (get_or bs i d).control ≡ true → first_is_known (drop i bs) ≡ is_type ((get_or bs i d).payload % 2 ^ 8)
known-here bs i d low control = ap first_is_known (drop_more bs i d low) ∙ cond-true (get_or bs i d).control _ _ control
