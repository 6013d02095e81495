use Rattle.entity_routing.proofs.PlaceFacts.{own_sent}
use Rattle.entity_routing.proofs.laws.own.Goals as goal

pub returns : goal.returns
returns c = own_sent
