use Rattle.std.proofs.Common.{[], refl, ◌∙◌, arith}
use Rattle.trial_laws.specs.Trial.{made_columns}
use Rattle.pcs_top.proofs.Framing.{are_whole-none}
use Rattle.pcs_top.proofs.TriedColumns.{lead-tried}
use Rattle.pcs_top.proofs.TriedFrames.{ended}
use Rattle.pcs_top.proofs.trial.Trying.run.Goals as goal

pub send_idle_pairs-requires-clause-trying : goal.send_idle_pairs-requires-clause-trying
send_idle_pairs-requires-clause-trying c = let b = c.requires.begun in (c.args.options.now, b.places.sent, b.places.struck)

pub send_frames-requires-clause-tried : goal.send_frames-requires-clause-tried
send_frames-requires-clause-tried c =
    let o = c.args.options.now in
    let b = c.requires.begun in
    lead-tried o c.send_idle_pairs.new.self _ c.requires.ranges.period_least refl (c.send_idle_pairs.ensures.same.1 ∙ b.none.1)
    (c.send_idle_pairs.ensures.places o [] 0 b.places (are_whole-none o.period))

pub send_frames-requires-clause-none : goal.send_frames-requires-clause-none
send_frames-requires-clause-none c =
    let b = c.requires.begun in
    (c.send_idle_pairs.ensures.same.0 ∙ b.none.0, omega (arith, c.send_idle_pairs.ensures.few, b.none.2, c.requires.ranges.period_most))

pub send_end-requires-clause-trying : goal.send_end-requires-clause-trying
send_end-requires-clause-trying c = let tried = c.send_frames.ensures.made.tried in (c.args.options.now, tried.places.sent, tried.places.struck)

pub finish-requires : goal.finish-requires
finish-requires c =
    let (options, sent, s) = c.send_end.ensures.trying in (options, s.beats, s.taken, omega (arith, s.bursts.count, s.count, c.send_end.ensures.few))

pub returns : goal.returns
returns c =
    let o = c.args.options.now in
    let made = c.send_frames.ensures.made in
    let (owed, places) = c.send_end.ensures.ended o (made_columns o.seed o.count) refl made.tried in
    ended o _ _ _ _ owed _ _ places c.finish.ensures refl (c.send_end.ensures.same.0 ∙ made.octets) (c.send_end.ensures.same.1 ∙ made.tried.count)
