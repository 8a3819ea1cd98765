use Rattle.std.proofs.Common.{◌∙◌, refl, arith}
use Rattle.pcs_top.proofs.TriedColumns.{frame-first, frame-next, frame-last, length-left}
use Rattle.pcs_top.proofs.trial.Trying.send_frame.Goals as goal

pub loop-column-init : goal.loop-column-init
loop-column-init c =
    let size = length-left c.args.frame.now c.args.gap _ c.new-columns.ensures in
    record {
      frame = frame-first _ _ _ c.new-columns.ensures;
      trying = c.requires.trying;
      waits = c.requires.waits;
      octets = refl;
      pairs = omega (arith, size, c.requires.small.0, c.requires.small.1);
      columns = omega (arith, size, c.requires.small.0, c.requires.small.1);
    }

pub loop-column-preserved : goal.loop-column-preserved
loop-column-preserved c =
    let v = c.loop-column.invariant in
    record {
      frame = frame-next _ _ _ _ v.frame c.in-Some.column c.in-Some.ensures.column _ _ c.in-Some.ensures.stands c.send_column.ensures.tried;
      trying = c.send_column.ensures.trying;
      waits = c.send_column.ensures.waits;
      octets = c.send_column.ensures.octets ∙ v.octets;
      pairs = omega (arith, v.pairs, c.send_column.ensures.few.0, c.in-Some.ensures.fewer refl);
      columns = omega (arith, v.columns, c.send_column.ensures.few.1, c.in-Some.ensures.fewer refl);
    }

pub returns-clause-tried : goal.returns-clause-tried
returns-clause-tried c = frame-last _ _ _ _ c.loop-column.invariant.frame c.in_default.ensures.column
