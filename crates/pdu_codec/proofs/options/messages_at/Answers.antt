use Rattle.pdu_codec.proofs.FieldLaws.{told_step, told_all}
use Rattle.pdu_codec.proofs.options.messages_at.Goals as goal

pub loop-tlv-preserved : goal.loop-tlv-preserved
loop-tlv-preserved c = rw c.in_ok-add_message.ensures (told_step c.loop-tlv.messages c.loop-tlv.rest.now c.in-Some.behind.now _ _ c.in-Some.ensures.value c.loop-tlv.invariant)

pub returns : goal.returns
returns c = told_all c.loop-tlv.messages c.loop-tlv.rest.now _ c.in_default.ensures.value c.loop-tlv.invariant
