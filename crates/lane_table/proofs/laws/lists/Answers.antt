use Rattle.lane_table.proofs.RunFacts.{sends_lane_lists}
use Rattle.lane_table.proofs.laws.lists.Goals as goal

pub returns : goal.returns
returns c = sends_lane_lists
