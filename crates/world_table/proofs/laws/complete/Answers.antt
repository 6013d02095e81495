use Rattle.world_table.proofs.LogFacts.{delivers_good}
use Rattle.world_table.proofs.laws.complete.Goals as goal

pub returns : goal.returns
returns c = delivers_good
