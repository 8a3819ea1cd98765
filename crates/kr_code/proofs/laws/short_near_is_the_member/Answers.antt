use Rattle.std.proofs.Common.{arith}
use Rattle.rs_code.proofs.Coded.{near_is_codewords}
use Rattle.kr_code.proofs.laws.short_near_is_the_member.Goals as goal

pub returns : goal.returns
returns c = near_is_codewords 14 528 7 (omega arith) (omega arith)
