use Rattle.std.proofs.Common.{arith}
use Rattle.rs_code.proofs.Coded.{one_is_near}
use Rattle.kr_code.proofs.laws.one_short_member_is_near.Goals as goal

pub returns : goal.returns
returns c = one_is_near 14 528 7 (omega arith) (omega arith)
