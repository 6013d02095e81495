use Rattle.std.proofs.Common.{drop, map}
use Rattle.std.specs.List.{flat_map}
use Rattle.pdu_values.specs.Tlvs.{message_tlv}
use Rattle.pdu_values.specs.Spelling.{tlv}
use Rattle.pdu_codec.specs.Writing.{WritesWith}
use Rattle.pdu_codec.proofs.writing.put_messages.Given as goal

abbrev pub invariant-loop-message : goal.invariant-loop-message
invariant-loop-message l = WritesWith l.initial.out l.out (flat_map tlv (map message_tlv l.messages)) (flat_map tlv (map message_tlv (drop l.message-index l.messages)))
