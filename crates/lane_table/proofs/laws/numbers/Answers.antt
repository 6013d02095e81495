use Rattle.lane_table.proofs.NumberFacts.{numbers_tell_lanes}
use Rattle.lane_table.proofs.laws.numbers.Goals as goal

pub returns : goal.returns
returns c = numbers_tell_lanes
