use Rattle.world_table.proofs.HistoryFacts.{tells_lane_lists}
use Rattle.world_table.proofs.laws.lists.Goals as goal

pub returns : goal.returns
returns c = tells_lane_lists
