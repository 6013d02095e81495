use Rattle.ends_laws.proofs.SenderFacts.{tells_what_came}
use Rattle.ends_laws.proofs.laws.tells_what_came.Goals as goal

pub returns : goal.returns
returns c = tells_what_came
