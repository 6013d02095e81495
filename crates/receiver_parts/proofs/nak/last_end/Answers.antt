use Rattle.std.proofs.Common.{sym}
use Rattle.receiver_parts.proofs.NakLemmas.{last_is}
use Rattle.receiver_parts.proofs.nak.last_end.Goals as goal

pub returns-in-Some : goal.returns-in-Some
returns-in-Some c = last_is c.args.requests.now c.in-Some.request.now (sym c.in-Some.ensures.value)
