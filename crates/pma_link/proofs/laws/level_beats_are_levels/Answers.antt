use Rattle.pma_link.proofs.LevelBeats.{level_beats_hold, level_beats_as_many, level_beats_go_on}
use Rattle.pma_link.proofs.laws.level_beats_are_levels.Goals as goal

pub returns-clause-hold : goal.returns-clause-hold
returns-clause-hold c = level_beats_hold

pub returns-clause-beats : goal.returns-clause-beats
returns-clause-beats c = level_beats_as_many

pub returns-clause-go_on : goal.returns-clause-go_on
returns-clause-go_on c = level_beats_go_on
