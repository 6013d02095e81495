use Rattle.std.proofs.Common.{rules, nat_lt}
use Rattle.std.specs.List.Sorted.{IsPartitionedBy}
use Rattle.std.proofs.lemmas.List.Sorted.{IsPartitionPoint-from_clause, IsPartitionedBy-ltb}
use Rattle.gap_list.specs.Blocks.{Block}
use Rattle.gap_list.specs.Places.{last_end}
use Rattle.gap_list.proofs.BlockLemmas.{lasts_rise, rising_below, blocks_below_point, blocks_above_point}
use Rattle.gap_list.proofs.blocks.Blocks.block_from.Goals as goal

partitioned : (c : goal.After-partition_point) → IsPartitionedBy (λ (block : Block). nat_lt (last_end 0 block.items) c.args.offset) c.args.self.now.below.items
partitioned c =
    IsPartitionedBy-ltb (λ (block : Block). last_end 0 block.items) c.args.self.now.below.items c.args.offset
    (lasts_rise 0 c.args.self.now.below.items (rising_below c.args.self.now.below.items c.args.self.now.top c.requires.rising) c.requires.kept.filled)

pub returns-clause-below : goal.returns-clause-below
returns-clause-below c =
    let point = IsPartitionPoint-from_clause (λ (block : Block). nat_lt (last_end 0 block.items) c.args.offset) c.args.self.now.below.items c.partition_point.result
    (rw c.deref.ensures.value at c.partition_point.ensures.partitioned) (partitioned c) (λ a r f' k. search rules) in
    blocks_below_point c.args.self.now.below.items c.partition_point.result c.args.offset (rw c.deref.ensures.value at c.partition_point.ensures.bound) point.0

pub returns-clause-above : goal.returns-clause-above
returns-clause-above c =
    let point = IsPartitionPoint-from_clause (λ (block : Block). nat_lt (last_end 0 block.items) c.args.offset) c.args.self.now.below.items c.partition_point.result
    (rw c.deref.ensures.value at c.partition_point.ensures.partitioned) (partitioned c) (λ a r f' k. search rules) in
    blocks_above_point c.args.self.now.below.items c.partition_point.result c.args.offset point.1
