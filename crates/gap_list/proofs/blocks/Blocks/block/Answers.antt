use Rattle.std.proofs.Common.{sym, ap, ◌∙◌, arith}
use Rattle.gap_list.specs.Blocks.{Block}
use Rattle.gap_list.proofs.BlockLemmas.{at_below, at_top}
use Rattle.gap_list.proofs.blocks.Blocks.block.Goals as goal

pub returns-then-number-len : goal.returns-then-number-len
returns-then-number-len c =
    c.as_slice.ensures.value ∙ ap (λ (block : Block). block.items) c.index.ensures
    ∙ sym (at_below c.args.self.now.below.items c.args.self.now.top c.index.result.now c.args.number
    (omega (arith, c.if-number-len.true, c.len.ensures, c.args.self.now.below.ok.0)))

pub returns-else-number-len : goal.returns-else-number-len
returns-else-number-len c =
    c.as_slice-else-number-len.ensures.value
    ∙ sym (at_top c.args.self.now.below.items c.args.self.now.top c.args.number
    (omega (arith, c.requires, c.if-number-len.false, c.len.ensures, c.args.self.now.below.ok.0)))
