use Rattle.std.proofs.Common.{[]}
use Rattle.cfdp_types.specs.Condition as condition
use Rattle.cfdp_types.specs.declared.names.Delivery.TheVariants.{Complete}
use Rattle.cfdp_types.specs.declared.names.FileStatus.TheVariants.{Retained}
use Rattle.receiver_table.specs.Answers.{finish_response, fault_response}
use Rattle.receiver_parts.specs.ControlBlock.{state_from}
use Rattle.receiver_core.specs.Core.{reception_of}
use Rattle.receiver_parts.proofs.ResponseLemmas.{alone}
use Rattle.receiver_core.proofs.receiver.ReceiverCore.on_stored.Goals as goal

pub returns-then-kept : goal.returns-then-kept
returns-then-kept c m octets =
    rw c.if-kept.true
    (alone c.finish_response.result c.new-inds.result (finish_response (reception_of c.args.self.now) (state_from c.args.current.now m octets) condition.no_error Complete Retained) c.new-inds.ensures (c.finish_response.ensures.response m octets))

pub returns-else-kept : goal.returns-else-kept
returns-else-kept c m octets =
    rw c.if-kept.false
    (alone c.fault_response.result c.new-inds.result (fault_response (reception_of c.args.self.now) (state_from c.args.current.now m octets) [] condition.filestore_rejection) c.new-inds.ensures (c.fault_response.ensures.response m octets))
