use Rattle.world_table.proofs.HistoryFacts.{lanes_keep}
use Rattle.world_table.proofs.laws.keeps.Goals as goal

pub returns : goal.returns
returns c = lanes_keep
