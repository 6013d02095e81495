use Rattle.ends_disk.proofs.HistoryFacts.{stands_when_told}
use Rattle.ends_disk.proofs.laws.stands_when_told.Goals as goal

pub returns : goal.returns
returns c = stands_when_told
