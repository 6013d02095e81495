use Rattle.cfdp_types.specs.Condition as condition
use Rattle.receiver_table.specs.Answers.{cancel_response}
use Rattle.receiver_parts.specs.ControlBlock.{state_from}
use Rattle.receiver_parts.specs.FileChange.{metadata_after, received_after}
use Rattle.receiver_core.specs.Core.{reception_of}
use Rattle.receiver_parts.proofs.ResponseLemmas.{alone}
use Rattle.receiver_core.proofs.receiver.ReceiverCore.on_request.Goals as goal

pub returns-in-Stored : goal.returns-in-Stored
returns-in-Stored c request =
    let core = c.args.self.now in
    rw c.in-Stored.is (c.on_stored.ensures (metadata_after core.metadata c.args.change.now) (received_after core.file c.args.change.now))

pub returns-in-Cancel : goal.returns-in-Cancel
returns-in-Cancel c request =
    let core = c.args.self.now in
    let metadata = metadata_after core.metadata c.args.change.now in
    let octets = received_after core.file c.args.change.now in
    rw c.in-Cancel.is
    (alone c.cancel_response.result c.new-inds.result (cancel_response (reception_of core) (state_from c.args.current.now metadata octets) condition.cancel_request) c.new-inds.ensures (c.cancel_response.ensures.response metadata octets))
