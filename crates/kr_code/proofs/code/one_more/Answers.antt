use Rattle.std.proofs.Common.{ap, ◌∙◌}
use Rattle.gf1024.specs.Symbol.{sum_of}
use Rattle.kr_code.proofs.Register.{register_more}
use Rattle.kr_code.proofs.code.one_more.Goals as goal

pub returns : goal.returns
returns c =
    register_more c.args.register c.args.generator c.one_on.result c.new.result c.mul.result c.add.result c.low.result
    c.add-feedback.result c.args.next c.requires c.one_on.ensures.lanes c.low.ensures c.new.ensures c.mul.ensures c.add.ensures
    (c.add-feedback.ensures ∙ ap (λ z. sum_of z c.args.next) c.lane.ensures)
