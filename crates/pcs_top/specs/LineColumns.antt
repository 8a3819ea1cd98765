-- The columns of frame lines.
use Rattle.std.specs.Prelude.{List}
use Rattle.std.specs.List.{flat_map}
use Rattle.mac_columns.specs.Items.{Item, frame_item, set_item, item_columns}
use Rattle.mac_columns.specs.declared.column.Column.{Column}
use Rattle.pcs_io.specs.FrameLines.{FrameLine, Frame, Set}

-- a line as an item: a frame or a set, and the gap after it
abbrev pub item_of : FrameLine → Item
item_of (Frame gap octets) = frame_item octets gap
item_of (Set gap octets) = set_item octets gap

-- the columns of a line
abbrev pub columns_of_line : FrameLine → List Column
columns_of_line line = item_columns (item_of line)

-- the columns of all lines, in order
unfoldable pub columns_of_lines : List FrameLine → List Column
columns_of_lines lines = flat_map columns_of_line lines
