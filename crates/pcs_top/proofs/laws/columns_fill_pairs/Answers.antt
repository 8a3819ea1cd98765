use Rattle.pcs_top.proofs.ColumnPairs.{columns_fill_pairs}
use Rattle.pcs_top.proofs.laws.columns_fill_pairs.Goals as goal

pub returns : goal.returns
returns c = columns_fill_pairs
