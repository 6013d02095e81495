use Rattle.ends_laws.proofs.SenderFacts.{sends_its_put}
use Rattle.ends_laws.proofs.laws.sends_its_put.Goals as goal

pub returns : goal.returns
returns c = sends_its_put
