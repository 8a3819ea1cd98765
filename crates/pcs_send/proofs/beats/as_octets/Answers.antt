use Rattle.bit_lists.specs.Places.{flat}
use Rattle.pcs_send.proofs.beats.as_octets.Goals as goal

pub returns-clause-octets : goal.returns-clause-octets
unfolding flat
returns-clause-octets c = c.as_flattened.ensures.value
