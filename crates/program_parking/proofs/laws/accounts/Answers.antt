use Rattle.program_parking.proofs.AccountFacts.{accounted}
use Rattle.program_parking.proofs.laws.accounts.Goals as goal

pub returns : goal.returns
returns c = accounted
