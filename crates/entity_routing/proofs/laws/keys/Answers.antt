use Rattle.entity_routing.proofs.RouteFacts.{pdu_keyed}
use Rattle.entity_routing.proofs.laws.keys.Goals as goal

pub returns : goal.returns
returns c = pdu_keyed
