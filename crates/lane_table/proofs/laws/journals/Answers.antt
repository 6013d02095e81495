use Rattle.lane_table.proofs.LengthFacts.{keeps_to_limit}
use Rattle.lane_table.proofs.laws.journals.Goals as goal

pub returns : goal.returns
returns c = keeps_to_limit
