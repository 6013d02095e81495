use Rattle.std.proofs.Common.{◌≡◌, length, is_some}
use Rattle.pdu_reading.specs.Items.{items_to_end}
use Rattle.pdu_reading.specs.Reading.{tlv_at}
use Rattle.pdu_codec.proofs.options.are_options.Given as goal

abbrev pub invariant-loop-rest : goal.invariant-loop-rest
invariant-loop-rest l = is_some (items_to_end tlv_at l.rest) ≡ is_some (items_to_end tlv_at l.octets)

abbrev pub decreases-loop-rest : goal.decreases-loop-rest
decreases-loop-rest l = length l.rest
