use Rattle.entity_routing.proofs.NumberFacts.{numbers_tell}
use Rattle.entity_routing.proofs.laws.numbers.Goals as goal

pub returns : goal.returns
returns c = numbers_tell
