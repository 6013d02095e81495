use Rattle.world_table.proofs.HistoryFacts.{tells_what_logs_tell}
use Rattle.world_table.proofs.laws.issued.Goals as goal

pub returns : goal.returns
returns c = tells_what_logs_tell
