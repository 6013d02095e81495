use Rattle.ends_lanes.proofs.MoveFacts.{entity_steps_are_moves}
use Rattle.ends_lanes.proofs.laws.entity_steps.Goals as goal

pub returns : goal.returns
returns c = entity_steps_are_moves
