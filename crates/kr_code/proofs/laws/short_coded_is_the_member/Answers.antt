use Rattle.std.proofs.Common.{arith}
use Rattle.rs_code.proofs.Coded.{codeword_of_message}
use Rattle.kr_code.proofs.Generator.{parity_of_one, generator_is}
use Rattle.kr_code.proofs.laws.short_coded_is_the_member.Goals as goal

pub returns : goal.returns
returns c = codeword_of_message 13 parity_of_one generator_is 514 (omega arith)
