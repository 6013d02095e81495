use Rattle.std.proofs.Common.{◌≤◌, take, drop, length}
use Rattle.gap_list.specs.Runs.{in_runs, with_ranges, without_range, SameSet, IsRisingFrom}
use Rattle.gap_list.proofs.merge.merged.Given as goal

-- with the runs from the place on, the set has what is wanted and the ranges so far
abbrev pub invariant-loop-range : goal.invariant-loop-range
invariant-loop-range l = record {
  within : l.place ≤ length l.runs;
  rising : IsRisingFrom 0 l.merged.items;
  added : SameSet (with_ranges (in_runs l.merged.items) (drop l.place l.runs))
      (with_ranges (without_range (in_runs l.runs) 0 l.from) (take l.range-index l.ranges));
}
