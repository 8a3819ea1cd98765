use Rattle.pcs_top.proofs.HeadersKept.{headers-kept}
use Rattle.pcs_top.proofs.laws.headers_are_kept.Goals as goal

pub returns : goal.returns
returns c = headers-kept
