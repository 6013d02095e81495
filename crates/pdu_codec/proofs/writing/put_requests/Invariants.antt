use Rattle.std.proofs.Common.{drop}
use Rattle.std.specs.List.{flat_map}
use Rattle.pdu_values.specs.Spelling.{request}
use Rattle.pdu_codec.specs.Writing.{WritesWith}
use Rattle.pdu_codec.proofs.writing.put_requests.Given as goal

abbrev pub invariant-loop-asked : goal.invariant-loop-asked
invariant-loop-asked l = WritesWith l.initial.out l.out (flat_map (request l.width) l.requests) (flat_map (request l.width) (drop l.asked-index l.requests))
