use Rattle.std.proofs.Common.{◌≡◌, ◌++◌, take, map}
use Rattle.std.specs.List.{AllByRecursion}
use Rattle.pdu_values.specs.Spelling.{RequestFits}
use Rattle.receiver_table.specs.Answers.{request_of}
use Rattle.receiver_parts.proofs.nak.put_requests.Given as goal

abbrev pub invariant-loop-run : goal.invariant-loop-run
invariant-loop-run l = record {
  requests : l.requests ≡ l.initial.requests ++ map request_of (take l.run-index l.runs);
  fits : AllByRecursion (RequestFits 4) l.requests;
}
