use Rattle.std.proofs.Common.{sym, ◌∙◌}
use Rattle.receiver_core.proofs.receiver.ReceiverCore.fault_response.Goals as goal

pub returns-in-Cancel-clause-response : goal.returns-in-Cancel-clause-response
returns-in-Cancel-clause-response c m octets = rw (sym c.handler_of.ensures ∙ c.in-Cancel.is) (c.cancel_response.ensures.response m octets)
