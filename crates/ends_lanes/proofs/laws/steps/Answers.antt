use Rattle.ends_lanes.proofs.MoveFacts.{steps_are_moves}
use Rattle.ends_lanes.proofs.laws.steps.Goals as goal

pub returns : goal.returns
returns c = steps_are_moves
