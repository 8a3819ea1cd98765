use Rattle.std.proofs.Common.{arith}
use Rattle.std.proofs.lemmas.Result.{err_from_is_err_and}
use Rattle.mac_columns.specs.Columns.{columns_of_set}
use Rattle.pcs_top.specs.Texts.{column_text}
use Rattle.pcs_drive.proofs.WritingLemmas.{front-more, longer-then}
use Rattle.pcs_top.proofs.PuttingBlocks.{putting-start, putting-column, putting-end, putting-failed}
use Rattle.pcs_top.proofs.blocks.put_set.Goals as goal

pub returns-in_err-make_room-clause-err : goal.returns-in_err-make_room-clause-err
returns-in_err-make_room-clause-err g c =
    let exit = err_from_is_err_and c.from_residual.result c.from_residual.ensures.1 in
    rw exit.1 (λ start text wrote. front-more start _ text (column_text (columns_of_set c.args.octets c.args.gap)) (c.in_err-make_room.ensures.err start text wrote))

pub loop-column-init : goal.loop-column-init
loop-column-init g c = record {
  putting = putting-start _ _ _ _ _ _ c.new-columns.ensures c.in_ok-make_room.ensures.ok;
  later = c.make_room.ensures.cause.later;
  grows = c.in_ok-make_room.ensures.grows;
}

pub loop-column-preserved : goal.loop-column-preserved
loop-column-preserved g c = record {
  putting = putting-column _ _ _ _ _ _ _ _ _ _ c.in-Some.column c.encode.result c.loop-column.invariant.putting
      c.in-Some.ensures.column c.in-Some.ensures.stands c.encode.ensures.block c.line_of.ensures c.in_ok-put.ensures.ok;
  later = omega (arith, c.put.ensures.cause.later);
  grows = longer-then _ _ _ c.loop-column.invariant.grows c.in_ok-put.ensures.grows;
}

pub returns-in_err-put-clause-err : goal.returns-in_err-put-clause-err
returns-in_err-put-clause-err g c =
    let exit = err_from_is_err_and c.from_residual-in_err-put.result c.from_residual-in_err-put.ensures.1 in
    rw exit.1 (putting-failed _ _ _ _ _ _ _ c.loop-column.invariant.putting c.in_err-put.ensures.err)

pub returns-clause-ok : goal.returns-clause-ok
returns-clause-ok g c = putting-end _ _ _ _ _ _ c.loop-column.invariant.putting c.in_default.ensures.column
