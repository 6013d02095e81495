use Rattle.lane_table.proofs.RunFacts.{steps_keep}
use Rattle.lane_table.proofs.laws.keeps.Goals as goal

pub returns : goal.returns
returns c = steps_keep
