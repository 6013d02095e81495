use Rattle.std.proofs.Common.{◌++◌, ◌∙◌, ap, arith, length}
use Rattle.gap_list.specs.Blocks.{Block}
use Rattle.gap_list.proofs.BlockLemmas.{more_in_order, all_of_blocks}
use Rattle.gap_list.proofs.blocks.Blocks.all.Goals as goal

pub loop-block-preserved : goal.loop-block-preserved
loop-block-preserved c =
    c.in_ok-extend_from_slice.ensures.items
    ∙ more_in_order c.args.self.now.below.items c.loop-block.block-index c.block-item.result c.loop-block.runs.items c.as_slice.result.now
    (omega (arith, c.loop-block-test.true, ap length c.deref-block-items.ensures.value)) c.loop-block.invariant
    (c.as_slice.ensures.value ∙ ap (λ (block : Block). block.items) (rw c.deref-block-items.ensures.value at c.block-item.is))

pub returns : goal.returns
returns c =
    c.in_ok-extend_from_slice-2.ensures.items
    ∙ ap (λ l. c.loop-block.runs.items ++ l) c.as_slice-2.ensures.value
    ∙ all_of_blocks c.args.self.now.below.items c.args.self.now.top c.loop-block.block-index c.loop-block.runs.items
    (omega (arith, c.loop-block-test.false, ap length c.deref-block-items.ensures.value)) c.loop-block.invariant
