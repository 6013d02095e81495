use Rattle.std.proofs.Common.{sym, ap, ◌∙◌}
use Rattle.pdu_values.specs.declared.pdu.Body.TheVariants as body
use Rattle.pdu_values.specs.declared.bodies.Acknowledged.TheVariants as acknowledged
use Rattle.pdu_values.specs.declared.bodies.TransactionStatus.{TransactionStatus}
use Rattle.receiver_table.specs.Answers.{pdu_to_sender}
use Rattle.receiver_core.specs.Core.{reception_of}
use Rattle.receiver_core.proofs.receiver.ReceiverCore.ack.Goals as goal

pub returns : goal.returns
returns c =
    c.ack.ensures ∙ sym (c.reply_header.ensures.value _)
    ∙ ap (λ (s : TransactionStatus). pdu_to_sender (reception_of c.args.self.now) (body.Ack (record { of = acknowledged.Eof; condition = c.args.condition; status = s }))) c.status_of-status.ensures
