use Rattle.entity_routing.proofs.RouteFacts.{pdu_is}
use Rattle.entity_routing.proofs.laws.ways.Goals as goal

pub returns : goal.returns
returns c = pdu_is
