use Rattle.std.proofs.Common.{◌≡◌, length, is_some}
use Rattle.pdu_reading.specs.Items.{items_to_end}
use Rattle.pdu_reading.specs.Reading.{request_at}
use Rattle.pdu_codec.proofs.options.are_requests.Given as goal

abbrev pub invariant-loop-rest : goal.invariant-loop-rest
invariant-loop-rest l = is_some (items_to_end (request_at l.width) l.rest) ≡ is_some (items_to_end (request_at l.width) l.octets)

abbrev pub decreases-loop-rest : goal.decreases-loop-rest
decreases-loop-rest l = length l.rest
