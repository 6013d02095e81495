use Rattle.number_file.proofs.LaneFacts.{lanes_are_placed}
use Rattle.number_file.proofs.laws.lanes_are_placed.Goals as goal

pub returns : goal.returns
returns c = lanes_are_placed
