use Rattle.trial_laws.proofs.BurstBits.{inverted-bit}
use Rattle.trial_laws.proofs.damage.invert.Goals as goal

pub returns : goal.returns
returns c = λ l i within few.
    inverted-bit c.args.beat.now c.args.lane c.args.place l i c.told-beat c.requires.lane c.requires.place within few
