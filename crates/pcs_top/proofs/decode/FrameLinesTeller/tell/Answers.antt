use Rattle.std.proofs.Common.{arith}
use Rattle.pcs_drive.proofs.WritingLemmas.{longer-none}
use Rattle.pcs_top.proofs.GoodFrames.{tells-frame, breaks-at-frame, tells-other}
use Rattle.std.proofs.lemmas.Result.{on_ok_weaker, on_err_weaker}
use Rattle.pcs_top.proofs.decode.FrameLinesTeller.tell.Goals as goal

pub returns-in-Frame-clause-ok : goal.returns-in-Frame-clause-ok
returns-in-Frame-clause-ok g c =
    on_ok_weaker c.put_hex_line.result (λ puts h told stands is last. tells-frame _ _ told _ _ _ _ _ _ last (c.frame.ensures.octets h stands) puts) c.put_hex_line.ensures.ok

pub returns-in-Frame-clause-err : goal.returns-in-Frame-clause-err
returns-in-Frame-clause-err g c =
    on_err_weaker c.put_hex_line.result (λ breaks h told stands is last. breaks-at-frame _ told _ _ _ _ _ last (c.frame.ensures.octets h stands) breaks) c.put_hex_line.ensures.err

pub returns : goal.returns
returns g c = record {
  weight = omega arith;
  ok = λ h told stands is last. tells-other _ _ c.args.event.now told _ _ c.in_default.not-Frame is;
  err = tt;
  cause = record { later = omega arith; failed = tt };
  grows = longer-none _;
}
