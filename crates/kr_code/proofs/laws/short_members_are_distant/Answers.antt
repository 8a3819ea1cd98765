use Rattle.std.proofs.Common.{arith}
use Rattle.rs_code.proofs.Coded.{codewords_distant}
use Rattle.kr_code.proofs.laws.short_members_are_distant.Goals as goal

pub returns : goal.returns
returns c = codewords_distant 14 528 (omega arith)
