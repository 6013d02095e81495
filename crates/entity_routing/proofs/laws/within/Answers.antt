use Rattle.entity_routing.proofs.PlaceFacts.{places_within}
use Rattle.entity_routing.proofs.laws.within.Goals as goal

pub returns : goal.returns
returns c = places_within
