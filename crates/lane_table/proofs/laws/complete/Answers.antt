use Rattle.lane_table.proofs.RunFacts.{completes_good}
use Rattle.lane_table.proofs.laws.complete.Goals as goal

pub returns : goal.returns
returns c = completes_good
