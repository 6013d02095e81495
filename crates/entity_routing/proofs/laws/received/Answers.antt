use Rattle.entity_routing.proofs.PlaceFacts.{others_received}
use Rattle.entity_routing.proofs.laws.received.Goals as goal

pub returns : goal.returns
returns c = others_received
