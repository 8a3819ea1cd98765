use Rattle.std.proofs.Common.{◌-◌, take, drop}
use Rattle.gf1024.specs.Symbol.{gf}
use Rattle.field_base.specs.Poly.{plus}
use Rattle.kr_code.specs.Register.{IsShortRemainder}
use Rattle.kr_code.proofs.code.remainder.Given as goal

abbrev pub invariant-loop-i : goal.invariant-loop-i
invariant-loop-i l = IsShortRemainder l.register (drop (16 - l.i) (plus gf (take 16 l.message) (drop 14 l.rest)))
