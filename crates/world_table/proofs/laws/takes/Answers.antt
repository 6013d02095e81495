use Rattle.world_table.proofs.HistoryFacts.{takes_all}
use Rattle.world_table.proofs.laws.takes.Goals as goal

pub returns : goal.returns
returns c = takes_all
