use Rattle.pcs_late.specs.declared.multiplexer.Muxing.{Muxing}
use Rattle.pcs_late.proofs.Muxed.{finished}
use Rattle.pcs_late.proofs.multiplexer.MuxingTask.finish.Goals as goal

pub returns-clause-ok : goal.returns-clause-ok
returns-clause-ok g c = λ text beats start p. finished (λ (x : Muxing). x.mux) _ _ _ text beats start p
