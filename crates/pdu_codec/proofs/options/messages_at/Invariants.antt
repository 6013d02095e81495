use Rattle.std.proofs.Common.{◌≡◌, ◌++◌, length}
use Rattle.pdu_codec.specs.Parts.{messages_at}
use Rattle.pdu_codec.proofs.options.messages_at.Given as goal

abbrev pub invariant-loop-tlv : goal.invariant-loop-tlv
invariant-loop-tlv l = l.messages ++ messages_at l.rest ≡ messages_at l.octets

abbrev pub decreases-loop-tlv : goal.decreases-loop-tlv
decreases-loop-tlv l = length l.rest
