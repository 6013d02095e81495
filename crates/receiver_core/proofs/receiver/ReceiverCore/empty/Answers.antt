use Rattle.receiver_parts.specs.ReceivedFile.{received_of}
use Rattle.receiver_core.proofs.FirstLemmas.{first_is}
use Rattle.receiver_core.proofs.receiver.ReceiverCore.empty.Goals as goal

pub returns-clause-stands : goal.returns-clause-stands
returns-clause-stands c = first_is c.first.result (received_of c.new.result) c.first.ensures c.new.ensures.received
