use Rattle.std.proofs.Common.{◌≡◌, ◌+◌, length, drop, map}
use Rattle.std.specs.List.{flat_map}
use Rattle.pdu_values.specs.Tlvs.{message_tlv}
use Rattle.pdu_values.specs.Spelling.{tlv}
use Rattle.pdu_codec.proofs.encoding.messages_size.Given as goal

abbrev pub invariant-loop-message : goal.invariant-loop-message
invariant-loop-message l = l.size + length (flat_map tlv (map message_tlv (drop l.message-index l.messages))) ≡ length (flat_map tlv (map message_tlv l.messages))
