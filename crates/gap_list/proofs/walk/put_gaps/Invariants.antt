use Rattle.std.proofs.Common.{◌≡◌, ◌-◌, ◌≤◌, ◌++◌, take, drop, length}
use Rattle.gap_list.specs.Blocks.{all_runs, index_of, IsSpot}
use Rattle.gap_list.proofs.WalkLemmas.{gaps_of}
use Rattle.gap_list.proofs.walk.put_gaps.Given as goal

-- the gaps so far and those of the runs that are left are all
abbrev pub invariant-loop-offset : goal.invariant-loop-offset
invariant-loop-offset l = record {
  spot : IsSpot l.runs l.spot;
  within : index_of l.runs l.spot ≤ length (all_runs l.runs);
  so_far : l.gaps.items ++ take (l.most - length l.gaps.items) (gaps_of (drop (index_of l.runs l.spot) (all_runs l.runs)) l.offset l.end)
      ≡ l.initial.gaps.items ++ take (l.most - length l.initial.gaps.items) (gaps_of (drop (index_of l.runs l.initial.spot) (all_runs l.runs)) l.start l.end);
}

abbrev pub decreases-loop-offset : goal.decreases-loop-offset
decreases-loop-offset l = length (all_runs l.runs) - index_of l.runs l.spot
