use Rattle.cfdp_types.specs.declared.limits.TheConstants.{NAK_REQUESTS}
use Rattle.receiver_parts.proofs.NakLemmas.{take_short}
use Rattle.receiver_parts.proofs.nak.nak.Goals as goal

pub returns-clause-few : goal.returns-clause-few
returns-clause-few c = rw c.in_ok-requests.ensures.requests (take_short NAK_REQUESTS _)
