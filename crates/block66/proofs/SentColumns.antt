-- The columns of a frame come back from their blocks.
use Rattle.std.proofs.Common.{◌≡◌, ℕ, zero, suc, ◌+◌, ◌<◌, List, [], ◌∷◌, length, get_or, drop, map, replicate, refl, ap₂, arith, inl, inr, lit<, get_or-drop, length-take, length-drop}
use Rattle.std.specs.Prelude.{slice_range}
use Rattle.std.specs.List.{AllByRecursion}
use Rattle.std.proofs.lemmas.Bool.{cases_lt}
use Rattle.mac_columns.specs.declared.column.Column.{Column}
use Rattle.mac_columns.specs.declared.column.Column.TheVariants.{Data, End, Idle}
use Rattle.mac_columns.specs.Columns.{columns_of, columns_of_set, body_of, preamble}
use Rattle.mac_columns.proofs.BodyLemmas.{body-more, body-short}
use Rattle.block66.specs.Blocks.{AreOctets, HasOctets, block_of, column_of}
use Rattle.block66.proofs.Octets.{no-octets, one-more, take-octets}
use Rattle.block66.proofs.ColumnLemmas.{column_of-block_of}

pub all-return : (columns : List Column) → AllByRecursion HasOctets columns → map column_of (map block_of columns) ≡ columns
all-return [] all = refl
all-return (column ∷ columns) all = ap₂ (λ c cs. c ∷ cs) (column_of-block_of column all.0) (all-return columns all.1)

idles-octets : (gap : ℕ) → AllByRecursion HasOctets (replicate gap Idle)
idles-octets zero = tt
idles-octets (suc gap) = (tt, idles-octets gap)

drop-octets : (n : ℕ) (xs : List ℕ) → AreOctets xs → AreOctets (drop n xs)
drop-octets n xs octets i =
    let here : get_or xs (n + i) 0 < 256 = octets (n + i) in
    let there : get_or (drop n xs) i 0 < 256 = omega (arith, here, get_or-drop n xs i 0) in
    there

body-octets : (n : ℕ) (frame : List ℕ) (gap : ℕ) → length frame < n → AreOctets frame → AllByRecursion HasOctets (body_of frame gap)
body-octets zero frame gap small octets = absurd (omega arith)
body-octets (suc n) frame gap small octets =
    elim (cases_lt (length frame) 8) [
      | inl short ↦
          let end : HasOctets (End frame) = (omega arith, octets) in
          rw (body-short frame gap short) (end, idles-octets gap)
      | inr long ↦
          let eight : HasOctets (Data (slice_range frame 0 8)) = (omega (arith, length-take 8 frame), take-octets 8 frame octets) in
          rw (body-more frame gap long) (eight, body-octets n (drop 8 frame) gap (omega (arith, length-drop 8 frame)) (drop-octets 8 frame octets))
    ]

preamble-octets : AreOctets preamble
preamble-octets zero = lit< tt
preamble-octets (suc zero) = lit< tt
preamble-octets (suc (suc zero)) = lit< tt
preamble-octets (suc (suc (suc zero))) = lit< tt
preamble-octets (suc (suc (suc (suc zero)))) = lit< tt
preamble-octets (suc (suc (suc (suc (suc zero))))) = lit< tt
preamble-octets (suc (suc (suc (suc (suc (suc i)))))) = one-more 0xd5 [] (lit< tt) no-octets i

pub columns-octets : (frame : List ℕ) (gap : ℕ) → AreOctets frame → AllByRecursion HasOctets (columns_of frame gap)
unfolding columns_of
columns-octets frame gap octets = ((refl, preamble-octets), body-octets (suc (length frame)) frame gap (omega arith) octets)

pub set-columns-octets : (octets : List ℕ) (gap : ℕ) → length octets ≡ 3 → AreOctets octets → AllByRecursion HasOctets (columns_of_set octets gap)
unfolding columns_of_set
set-columns-octets octets gap three are = ((three, are), idles-octets gap)

pub columns-return : (frame : List ℕ) (gap : ℕ) → AreOctets frame → map column_of (map block_of (columns_of frame gap)) ≡ columns_of frame gap
columns-return frame gap octets = all-return (columns_of frame gap) (columns-octets frame gap octets)
