use Rattle.std.proofs.Common.{◌*◌, ◌∙◌, ap, arith, get_or}
use Rattle.std.proofs.lemmas.List.{length-set}
use Rattle.gf1024.specs.Symbol.{zero_symbol}
use Rattle.rs_code.proofs.Row.{put}
use Rattle.rs_decode.specs.Repair.{back_power}
use Rattle.rs_decode.proofs.roots.inverse_powers_of.Goals as goal

pub loop-j-preserved : goal.loop-j-preserved
loop-j-preserved c = record {
  long = length-set c.loop-j.list c.loop-j.j c.inverse_power.result ∙ c.loop-j.invariant.long;
  each = put (λ k. back_power (c.args.i * k)) c.loop-j.list c.loop-j.j c.inverse_power.result
      (omega (arith, c.loop-j.invariant.long)) c.inverse_power.ensures c.loop-j.invariant.each;
}

pub returns : goal.returns
returns c = λ j less. ap (λ z. get_or z j zero_symbol) c.new.ensures ∙ c.loop-j.invariant.each j (omega arith)
