use Rattle.std.proofs.Common.{◌∙◌, ap, sym, arith, length}
use Rattle.std.proofs.lemmas.Bool.{eqb-false}
use Rattle.gap_list.specs.Blocks.{Block}
use Rattle.gap_list.specs.Places.{last_end}
use Rattle.gap_list.proofs.BlockLemmas.{last_of_blocks}
use Rattle.gap_list.proofs.search.end_below.Goals as goal

pub returns-else-is_empty : goal.returns-else-is_empty
returns-else-is_empty c =
    c.last_end.ensures
    ∙ ap (last_end 0) (c.as_slice.ensures.value ∙ ap (λ (block : Block). block.items) c.index-blocks-blocks.is)
    ∙ sym (last_of_blocks c.args.blocks.now c.index-blocks-blocks.result
    (omega (arith, eqb-false (length c.args.blocks.now) 0 (sym c.if-is_empty.ensures))) c.requires)
