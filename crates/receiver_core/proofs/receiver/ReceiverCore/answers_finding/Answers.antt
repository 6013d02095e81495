use Rattle.receiver_core.proofs.receiver.ReceiverCore.answers_finding.Goals as goal

pub returns-in-Faulty-clause-response : goal.returns-in-Faulty-clause-response
returns-in-Faulty-clause-response c m octets = rw c.in-Faulty.is (c.fault_response.ensures.response m octets)

pub returns-in-Waits-clause-response : goal.returns-in-Waits-clause-response
returns-in-Waits-clause-response c m octets = rw c.in-Waits.is (c.waits_for_rest.ensures.response m octets)
