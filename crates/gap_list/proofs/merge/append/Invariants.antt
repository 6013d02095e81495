use Rattle.std.proofs.Common.{◌≤◌, ◌-◌, take, length}
use Rattle.gap_list.specs.Runs.{in_runs, with_ranges, SameSet, IsRisingFrom}
use Rattle.gap_list.proofs.merge.append.Given as goal

-- the runs up to the place are added
abbrev pub invariant-loop-place : goal.invariant-loop-place
invariant-loop-place l = record {
  within : l.place ≤ length l.runs;
  rising : IsRisingFrom 0 l.merged.items;
  added : SameSet (in_runs l.merged.items) (with_ranges (in_runs l.fn.merged.items) (take l.place l.runs));
}

abbrev pub decreases-loop-place : goal.decreases-loop-place
decreases-loop-place l = length l.runs - l.place
