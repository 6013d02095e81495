use Rattle.world_table.proofs.HistoryFacts.{keeps_journals}
use Rattle.world_table.proofs.laws.journals.Goals as goal

pub returns : goal.returns
returns c = keeps_journals
