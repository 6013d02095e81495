-- Of the code. The NAK as the code builds it.
use Rattle.std.specs.Prelude.{ℕ, Bool, nat_lt, if◌then◌else◌, List, [], ◌∷◌, ◌++◌, length, map, take}
use Rattle.cfdp_types.specs.declared.limits.TheConstants.{NAK_REQUESTS}
use Rattle.gap_list.specs.declared.run.Run.{Run}
use Rattle.pdu_values.specs.declared.bodies.Nak.{Nak}
use Rattle.pdu_values.specs.declared.requests.SegmentRequest.{SegmentRequest}
use Rattle.receiver_table.specs.Answers.{request_of, last_end}

-- the requests for what is missing: first the Metadata, then the runs
abbrev pub requests_for : Bool → List Run → List SegmentRequest
requests_for has_metadata runs = (if has_metadata then [] else record { start = 0; end = 0 } ∷ []) ++ map request_of runs

-- the NAK with as many of the requests as it may hold
abbrev pub nak_with : Bool → ℕ → List Run → Nak
nak_with has_metadata scope runs = record {
  start = 0;
  end = if nat_lt NAK_REQUESTS (length (requests_for has_metadata runs)) then last_end (take NAK_REQUESTS (requests_for has_metadata runs)) else scope;
  requests = take NAK_REQUESTS (requests_for has_metadata runs);
}
