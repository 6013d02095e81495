use Rattle.std.proofs.Common.{subst}
use Rattle.std.specs.Prelude.{IfOk}
use Rattle.cfdp_types.specs.declared.names.Delivery.TheVariants.{Incomplete}
use Rattle.cfdp_types.specs.declared.names.FileStatus.{FileStatus}
use Rattle.receiver_table.specs.Answers.{tells, ◌and_then◌, finish_response}
use Rattle.receiver_parts.specs.ControlBlock.{state_from}
use Rattle.receiver_parts.specs.Response.{IsResponse}
use Rattle.receiver_core.specs.Core.{reception_of}
use Rattle.receiver_core.proofs.receiver.ReceiverCore.cancel_response.Goals as goal

pub returns-clause-response : goal.returns-clause-response
returns-clause-response c m octets =
    subst (λ (status : FileStatus). IfOk c.finish_response.result (λ response. IsResponse response
    (tells c.args.inds and_then finish_response (reception_of c.args.self.now) (state_from c.args.current.now m octets) c.args.condition Incomplete status)))
    c.status_of.ensures (c.finish_response.ensures.response m octets)
