use Rattle.std.proofs.Common.{◌≡◌, ℕ, ◌&&◌, nat_lt, take}
use Rattle.std.specs.List.{list_any}
use Rattle.gap_list.specs.Runs.{in_runs}
use Rattle.sender_table.specs.Sending.{asks_for}
use Rattle.sender_core.proofs.remaining.rising_ranges.Given as goal

abbrev pub invariant-loop-request : goal.invariant-loop-request
invariant-loop-request l = record {
  same : (i : ℕ) → in_runs l.ranges.items i ≡ (nat_lt i l.limit && list_any (asks_for i) (take l.request-index l.requests));
}
