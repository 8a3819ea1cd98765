use Rattle.pcs_receive.proofs.ColumnCounts.{pairs_have_all_columns}
use Rattle.pcs_receive.proofs.laws.pairs_have_all_columns.Goals as goal

pub returns : goal.returns
returns c = pairs_have_all_columns
