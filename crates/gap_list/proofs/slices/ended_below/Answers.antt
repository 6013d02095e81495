use Rattle.std.proofs.Common.{rules, nat_lt}
use Rattle.std.proofs.lemmas.List.Sorted.{IsPartitionPoint-from_clause}
use Rattle.gap_list.proofs.RisingLemmas.{partitioned_by_end, ends_below_point, ends_above_point}
use Rattle.gap_list.proofs.slices.ended_below.Goals as goal

pub returns-clause-below : goal.returns-clause-below
returns-clause-below c =
    let point = IsPartitionPoint-from_clause (λ run. nat_lt run.end c.args.offset) c.args.runs.now c.partition_point.result
    c.partition_point.ensures.partitioned (partitioned_by_end c.args.runs.now c.args.offset c.requires) (λ a r f' k. search rules) in
    ends_below_point c.args.runs.now c.partition_point.result c.args.offset c.partition_point.ensures.bound point.0

pub returns-clause-above : goal.returns-clause-above
returns-clause-above c =
    let point = IsPartitionPoint-from_clause (λ run. nat_lt run.end c.args.offset) c.args.runs.now c.partition_point.result
    c.partition_point.ensures.partitioned (partitioned_by_end c.args.runs.now c.args.offset c.requires) (λ a r f' k. search rules) in
    ends_above_point c.args.runs.now c.partition_point.result c.args.offset point.1
