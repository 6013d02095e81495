use Rattle.receiver_laws.proofs.ReceptionDeposits.{deposits_good}
use Rattle.receiver_laws.proofs.deposits.Goals as goal

pub returns : goal.returns
returns c = deposits_good
