use Rattle.ends_lanes.proofs.MoveFacts.{lanes_give_the_put}
use Rattle.ends_lanes.proofs.laws.images.Goals as goal

pub returns : goal.returns
returns c = lanes_give_the_put
