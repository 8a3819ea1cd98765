use Rattle.std.proofs.Common.{sym}
use Rattle.std.proofs.lemmas.Result.{on_ok_weaker, on_err_weaker}
use Rattle.pcs_drive.proofs.WritingLemmas.{front-more}
use Rattle.pcs_top.proofs.idle_pairs.put_pair.Goals as goal

pub returns-clause-ok : goal.returns-clause-ok
returns-clause-ok g c =
    on_ok_weaker c.put.result (λ puts h stands. rw (sym (c.take_pair-pair.ensures.pair h stands), sym c.as_octets.ensures.octets) puts) c.put.ensures.ok

pub returns-clause-err : goal.returns-clause-err
returns-clause-err g c = on_err_weaker c.put.result (λ breaks h stands start text wrote. front-more start _ text _ (breaks start text wrote)) c.put.ensures.err
