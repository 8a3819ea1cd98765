use Rattle.std.proofs.Common.{arith, refl, subst}
use Rattle.std.proofs.lemmas.Result.{on_ok_weaker, on_err_weaker}
use Rattle.pcs_receive.specs.Hearings.{IsAnswer}
use Rattle.pcs_drive.proofs.WritingLemmas.{longer-none}
use Rattle.pcs_top.proofs.ColumnText.{tells-group, tells-other}
use Rattle.pcs_top.proofs.columns.ColumnLinesTeller.tell.Goals as goal

pub returns-in-Group-clause-ok : goal.returns-in-Group-clause-ok
returns-in-Group-clause-ok g c = λ h told stands is last. tells-group (λ t. t.refill) _ _ c.args.event.now told is _ _ c.in-Group.is c.group.ensures.stands

pub returns-in-Column-clause-ok : goal.returns-in-Column-clause-ok
returns-in-Column-clause-ok g c =
    on_ok_weaker c.tell_column.result (λ tells h told stands is last. tells h told stands (subst (λ e. IsAnswer e told) c.in-Column.is is) last)
    c.tell_column.ensures.ok

pub returns-in-Column-clause-err : goal.returns-in-Column-clause-err
returns-in-Column-clause-err g c =
    on_err_weaker c.tell_column.result (λ breaks h told stands is last. breaks h told stands (subst (λ e. IsAnswer e told) c.in-Column.is is) last)
    c.tell_column.ensures.err

pub returns-in_default : goal.returns-in_default
returns-in_default g c = record {
  weight = omega arith;
  ok = λ h told stands is last. tells-other (λ t. t.refill) _ _ c.args.event.now told is _ _ refl c.in_default.not-Group c.in_default.not-Column;
  err = tt;
  cause = record { later = omega arith; failed = tt };
  grows = longer-none _;
}
