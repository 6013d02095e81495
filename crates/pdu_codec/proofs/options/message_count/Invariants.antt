use Rattle.std.proofs.Common.{◌≡◌, ◌≤◌, ◌+◌, length}
use Rattle.pdu_codec.specs.Parts.{messages_at}
use Rattle.pdu_codec.proofs.options.message_count.Given as goal

abbrev pub invariant-loop-tlv : goal.invariant-loop-tlv
invariant-loop-tlv l = record {
  few : l.count + length l.rest ≤ length l.octets;
  counted : l.count + length (messages_at l.rest) ≡ length (messages_at l.octets);
}

abbrev pub decreases-loop-tlv : goal.decreases-loop-tlv
decreases-loop-tlv l = length l.rest
