use Rattle.std.proofs.Common.{arith}
use Rattle.pdu_codec.proofs.FieldLaws.{counted_step, counted_all}
use Rattle.pdu_codec.proofs.options.message_count.Goals as goal

pub loop-tlv-preserved : goal.loop-tlv-preserved
loop-tlv-preserved c = record {
  few = omega (arith, c.loop-tlv.invariant.few, c.in-Some.ensures.shorter, c.messages_held-count.ensures.below);
  counted = rw c.messages_held-count.ensures.value (counted_step c.loop-tlv.count c.loop-tlv.rest.now c.in-Some.behind.now _ _ c.in-Some.ensures.value c.loop-tlv.invariant.counted);
}

pub returns : goal.returns
returns c = counted_all c.loop-tlv.count c.loop-tlv.rest.now _ c.in_default.ensures.value c.loop-tlv.invariant.counted
