use Rattle.std.proofs.Common.{◌∙◌}
use Rattle.pcs_top.proofs.Bursts.{words-next, words-stay, burst-put, no-burst}
use Rattle.pcs_top.proofs.trial.damage.Goals as goal

pub returns-then-number-lead : goal.returns-then-number-lead
returns-then-number-lead c = record {
  words = λ seed is. words-stay seed c.args.lead c.args.number c.args.words.now is c.if-number-lead.true;
  pair = λ seed is. no-burst seed c.args.lead c.args.number c.args.pair.now c.if-number-lead.true;
}

pub returns : goal.returns
returns c = record {
  words = λ seed is. c.draw.ensures.state ∙ words-next seed c.args.lead c.args.number c.args.words.now is c.if-number-lead.false;
  pair = λ seed is. burst-put seed c.args.lead c.args.number c.args.words.now is c.draw.result c.args.pair.now c.strike.new.pair c.if-number-lead.false c.draw.ensures.word c.strike.ensures.bits;
}
