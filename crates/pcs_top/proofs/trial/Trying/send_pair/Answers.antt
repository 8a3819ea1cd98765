use Rattle.std.proofs.Common.{◌≡◌, ◌++◌, length, arith, rules}
use Rattle.pcs_top.proofs.TriedColumns.{struck-next}
use Rattle.pcs_top.proofs.trial.Trying.send_pair.Goals as goal

pub take_pair-requires : goal.take_pair-requires
take_pair-requires c =
    let (options, sent, s) = c.requires.trying in (options, s.beats, s.taken, omega (arith, s.bursts.count, s.count, c.requires.few))

pub returns-clause-strikes : goal.returns-clause-strikes
returns-clause-strikes c = λ options sent s.
    let t = c.args.self.now in
    let pair = c.take_pair-pair.result in
    let size : length pair ≡ 85 = search rules in
    let size' : length c.damage.new.pair ≡ 85 = search rules in
    (pair, c.take_pair-pair.ensures.pair, struck-next options t.pairs t.lead t.words _ _ _ sent pair _ s size size' c.damage.ensures.words c.damage.ensures.pair c.take_pair.ensures)

pub returns-clause-trying : goal.returns-clause-trying
returns-clause-trying c =
    let t = c.args.self.now in
    let pair = c.take_pair-pair.result in
    let size : length pair ≡ 85 = search rules in
    let size' : length c.damage.new.pair ≡ 85 = search rules in
    let (options, sent, s) = c.requires.trying in (
      options,
      sent ++ pair,
      struck-next options t.pairs t.lead t.words _ _ _ sent pair _ s size size' c.damage.ensures.words c.damage.ensures.pair c.take_pair.ensures,
    )
