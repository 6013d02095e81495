use Rattle.std.proofs.Common.{◌≡◌, ◌++◌, length}
use Rattle.pdu_codec.specs.Parts.{requests_at}
use Rattle.pdu_codec.proofs.options.requests_at.Given as goal

abbrev pub invariant-loop-request : goal.invariant-loop-request
invariant-loop-request l = l.requests ++ requests_at l.width l.rest ≡ requests_at l.width l.octets

abbrev pub decreases-loop-request : goal.decreases-loop-request
decreases-loop-request l = length l.rest
