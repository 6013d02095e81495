use Rattle.lane_table.proofs.IssuedFacts.{sends_what_logs_tell}
use Rattle.lane_table.proofs.laws.issued.Goals as goal

pub returns : goal.returns
returns c = sends_what_logs_tell
