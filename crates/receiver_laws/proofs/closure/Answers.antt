use Rattle.receiver_laws.proofs.ReceptionClosure.{asks_as_metadata}
use Rattle.receiver_laws.proofs.closure.Goals as goal

pub returns : goal.returns
returns c = asks_as_metadata
