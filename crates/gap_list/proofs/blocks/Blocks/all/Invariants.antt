use Rattle.std.proofs.Common.{◌≡◌, take}
use Rattle.gap_list.specs.Blocks.{in_order}
use Rattle.gap_list.proofs.blocks.Blocks.all.Given as goal

-- the runs of the blocks so far
abbrev pub invariant-loop-block : goal.invariant-loop-block
invariant-loop-block l = l.runs.items ≡ in_order (take l.block-index l.self.below.items)
