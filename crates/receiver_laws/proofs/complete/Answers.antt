use Rattle.receiver_laws.proofs.ReceptionLegal.{completes_good}
use Rattle.receiver_laws.proofs.complete.Goals as goal

pub returns : goal.returns
returns c = completes_good
