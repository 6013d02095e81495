use Rattle.ends_lanes.proofs.MoveFacts.{echoes_are_moves}
use Rattle.ends_lanes.proofs.laws.echoes.Goals as goal

pub returns : goal.returns
returns c = echoes_are_moves
