use Rattle.std.proofs.Common.{rules}
use Rattle.pcs_receive.specs.State.{IsDrained}
use Rattle.pcs_receive.proofs.Given.{drained-answer}
use Rattle.pcs_receive.proofs.receiver.Receiver.is_drained.Goals as goal

pub returns-then-is_past-clause-none : goal.returns-then-is_past-clause-none
returns-then-is_past-clause-none c = λ told h x.
    let drained : IsDrained c.args.self.now = search rules in
    drained-answer c.args.self.now h drained x
