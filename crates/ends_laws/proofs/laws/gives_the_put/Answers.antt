use Rattle.ends_laws.proofs.ReceiverFacts.{gives_the_put}
use Rattle.ends_laws.proofs.laws.gives_the_put.Goals as goal

pub returns : goal.returns
returns c = gives_the_put
