use Rattle.ends_laws.proofs.ReceiverFacts.{deposits_the_put}
use Rattle.ends_laws.proofs.laws.deposits_the_put.Goals as goal

pub returns : goal.returns
returns c = deposits_the_put
