use Rattle.std.proofs.Common.{rules, nat_le}
use Rattle.std.proofs.lemmas.List.Sorted.{IsPartitionPoint-from_clause}
use Rattle.gap_list.proofs.RisingLemmas.{partitioned_by_start, starts_below_point, starts_above_point}
use Rattle.gap_list.proofs.slices.begun_by.Goals as goal

pub returns-clause-below : goal.returns-clause-below
returns-clause-below c =
    let point = IsPartitionPoint-from_clause (λ run. nat_le run.start c.args.offset) c.args.runs.now c.partition_point.result
    c.partition_point.ensures.partitioned (partitioned_by_start c.args.runs.now c.args.offset c.requires) (λ a r f' k. search rules) in
    starts_below_point c.args.runs.now c.partition_point.result c.args.offset c.partition_point.ensures.bound point.0

pub returns-clause-above : goal.returns-clause-above
returns-clause-above c =
    let point = IsPartitionPoint-from_clause (λ run. nat_le run.start c.args.offset) c.args.runs.now c.partition_point.result
    c.partition_point.ensures.partitioned (partitioned_by_start c.args.runs.now c.args.offset c.requires) (λ a r f' k. search rules) in
    starts_above_point c.args.runs.now c.partition_point.result c.args.offset point.1
