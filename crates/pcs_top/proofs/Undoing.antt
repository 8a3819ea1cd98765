-- The block lines of frame lines are the lines of a grammar, and their frames are those that were sent.
use Rattle.std.proofs.Common.{◌≡◌, ℕ, Bool, true, false, List, [], ◌∷◌, ◌++◌, length, map, Ok, sym, ◌∙◌, ap, subst, refl, append_assoc, arith}
use Rattle.std.specs.Prelude.{codes, filter_map, if◌then◌else◌}
use Rattle.std.specs.Int.{from_le_bytes, to_le_bytes, w64}
use Rattle.std.specs.List.{AllByRecursion, flat_map}
use Rattle.std.proofs.lemmas.List.Concat.{flat_map-append}
use Rattle.std.proofs.lemmas.List.Elements.{All-from_recursion}
use Rattle.std.proofs.lemmas.Nat.{le_bytes_8}
use Rattle.hex.specs.Hex.{encode_lower, decode_of, lower_digits}
use Rattle.hex.proofs.HexLemmas.{decode_of-encode_lower, length-encode_with}
use Rattle.mac_columns.specs.Frames.{frames_of}
use Rattle.mac_columns.specs.declared.column.Column.{Column}
use Rattle.mac_columns.proofs.CarriedLemmas.{IsFitting, frames_of-items}
use Rattle.block66.specs.Blocks.{HasOctets, block_of, column_of, payload_octets, is_control}
use Rattle.block66.specs.declared.Block.{Block}
use Rattle.block66.proofs.Octets.{payload-eight}
use Rattle.block66.proofs.SentColumns.{all-return, columns-octets, set-columns-octets}
use Rattle.pcs_io.specs.FrameLines.{FrameLine, Frame, Set}
use Rattle.pcs_io.specs.Grammars.{Line, AreLines}
use Rattle.pcs_io.specs.BlockLines.{block_line_at, payload_at}
use Rattle.pcs_io.specs.declared.block_lines.BlockLine.{BlockLine}
use Rattle.pcs_io.proofs.BlockRuns.{digits-say}
use Rattle.mac_columns.specs.Items.{item_columns, item_frame}
use Rattle.pcs_top.specs.LineColumns.{item_of, columns_of_line}
use Rattle.pcs_top.specs.Texts.{block_line, block_text, column_text, frame_text, line_column, unblock_text}
use Rattle.pcs_top.specs.Laws.{IsSent, UnblockUndoesBlocks}

-- the block line of a block
abbrev pub written_line : Block → BlockLine
written_line block = record { control = block.control; payload = block.payload }

front-read : (control : Bool) (rest : List ℕ) → block_line_at ((if control then codes "10 " else codes "01 ") ++ rest) ≡ payload_at control [] rest
front-read true rest = refl
front-read false rest = refl

text-read : (control : Bool) (digits frame rest : List ℕ) → length digits ≡ 16 → decode_of digits ≡ Ok frame
    → block_line_at (((if control then codes "10 " else codes "01 ") ++ digits ++ 10 ∷ []) ++ rest) ≡ Line (record { control = control; payload = from_le_bytes w64 frame }) rest
text-read control digits frame rest sixteen decoded =
    let front = if control then codes "10 " else codes "01 " in
    ap block_line_at (append_assoc (front ++ digits) (10 ∷ []) rest ∙ append_assoc front digits (10 ∷ rest))
    ∙ front-read control (digits ++ 10 ∷ rest)
    ∙ digits-say digits frame rest control sixteen decoded

-- the line of a column is read back
line-read : (column : Column) (rest : List ℕ) → HasOctets column
    → block_line_at (block_line (block_of column) ++ rest) ≡ Line (written_line (block_of column)) rest
unfolding block_of
line-read column rest has =
    let octets = payload_octets column in
    let eight = payload-eight column has in
    let same : to_le_bytes w64 (from_le_bytes w64 octets) ≡ octets = le_bytes_8 octets (from_le_bytes w64 octets) eight.0 eight.1 refl in
    let sixteen : length (encode_lower octets) ≡ 16 = omega (arith, length-encode_with lower_digits octets, eight.0) in
    ap (λ os. block_line_at (((if is_control column then codes "10 " else codes "01 ") ++ encode_lower os ++ 10 ∷ []) ++ rest)) same
    ∙ text-read (is_control column) (encode_lower octets) octets rest sixteen (decode_of-encode_lower octets eight.1)

lines-read : (columns : List Column) → AllByRecursion HasOctets columns
    → AreLines block_line_at (column_text columns) (map (λ column. written_line (block_of column)) columns)
unfolding column_text
lines-read [] all = refl
lines-read (column ∷ columns) all = (column_text columns, line-read column (column_text columns) all.0, lines-read columns all.1)

-- the columns that are sent for frame lines
abbrev sent_columns : List FrameLine → List Column
sent_columns lines = flat_map columns_of_line lines

text-of-all : (lines : List FrameLine) → block_text lines ≡ column_text (sent_columns lines)
unfolding block_text column_text
text-of-all [] = refl
text-of-all (line ∷ lines) =
    ap (λ t. column_text (columns_of_line line) ++ t) (text-of-all lines)
    ∙ sym (flat_map-append (λ column. block_line (block_of column)) (columns_of_line line) (sent_columns lines))

all-append : (xs ys : List Column) → AllByRecursion HasOctets xs → AllByRecursion HasOctets ys → AllByRecursion HasOctets (xs ++ ys)
all-append [] ys a b = b
all-append (x ∷ xs) ys a b = (a.0, all-append xs ys a.1 b)

line-octets : (line : FrameLine) → IsSent line → AllByRecursion HasOctets (columns_of_line line)
line-octets (Frame gap octets) sent = columns-octets octets gap sent.1
line-octets (Set gap octets) sent = set-columns-octets octets gap sent.0 sent.1

sent-octets : (lines : List FrameLine) → AllByRecursion IsSent lines → AllByRecursion HasOctets (sent_columns lines)
sent-octets [] all = tt
sent-octets (line ∷ lines) all = all-append (columns_of_line line) (sent_columns lines) (line-octets line all.0) (sent-octets lines all.1)

columns-read : (columns : List Column) → map line_column (map (λ column. written_line (block_of column)) columns) ≡ map column_of (map block_of columns)
columns-read [] = refl
columns-read (column ∷ columns) = ap (λ cs. column_of (block_of column) ∷ cs) (columns-read columns)

-- as items
items-sent : (lines : List FrameLine) → sent_columns lines ≡ flat_map item_columns (map item_of lines)
items-sent [] = refl
items-sent (line ∷ lines) = ap (λ cs. columns_of_line line ++ cs) (items-sent lines)

item-fits : (line : FrameLine) → IsSent line → IsFitting (item_of line)
item-fits (Frame gap octets) sent = sent.0
item-fits (Set gap octets) sent = tt

items-fit : (lines : List FrameLine) → AllByRecursion IsSent lines → AllByRecursion IsFitting (map item_of lines)
items-fit [] all = tt
items-fit (line ∷ lines) all = (item-fits line all.0, items-fit lines all.1)

frames-sent : (lines : List FrameLine) → filter_map item_frame (map item_of lines) ≡ filter_map (λ line. item_frame (item_of line)) lines
frames-sent [] = refl
frames-sent (Frame gap octets ∷ lines) = ap (λ fs. octets ∷ fs) (frames-sent lines)
frames-sent (Set gap octets ∷ lines) = frames-sent lines

pub undone : UnblockUndoesBlocks
unfolding unblock_text
undone lines sent =
    let columns = sent_columns lines in
    let octets = sent-octets lines sent in
    let blocks = map (λ column. written_line (block_of column)) columns in (
      blocks,
      subst (λ text. AreLines block_line_at text blocks) (sym (text-of-all lines)) (lines-read columns octets),
      ap (λ cs. frame_text (frames_of cs)) (columns-read columns ∙ all-return columns octets)
          ∙ ap (λ cs. frame_text (frames_of cs)) (items-sent lines)
          ∙ ap frame_text (frames_of-items (map item_of lines) (All-from_recursion _ (map item_of lines) (items-fit lines sent)) ∙ frames-sent lines),
    )
