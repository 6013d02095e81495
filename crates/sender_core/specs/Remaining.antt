-- Of the code. The offsets of a file that remain to be sent.
use Rattle.std.specs.Prelude.{ℕ, Bool, ◌||◌, ◌&&◌, nat_lt, List}
use Rattle.std.specs.List.{list_any}
use Rattle.gap_list.specs.Covered.{covered}
use Rattle.gap_list.specs.Runs.{without_range}
use Rattle.pdu_values.specs.declared.requests.SegmentRequest.{SegmentRequest}
use Rattle.sender_table.specs.Sending.{asks_for}
use Rattle.sender_core.specs.declared.remaining.Remaining.{Remaining}

-- whether an offset remains to be sent
abbrev pub to_send : Remaining → ℕ → Bool
to_send remaining = without_range (covered remaining.offsets) 0 remaining.start

-- a set with the requested offsets below a limit added
abbrev pub with_requests : (ℕ → Bool) → List SegmentRequest → ℕ → ℕ → Bool
with_requests set requests limit offset = set offset || (nat_lt offset limit && list_any (asks_for offset) requests)
