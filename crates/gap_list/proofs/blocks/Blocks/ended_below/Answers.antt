use Rattle.gap_list.specs.Blocks.{blocks_of}
use Rattle.gap_list.proofs.BlockLemmas.{rising_at, found_below, found_above, found_inside}
use Rattle.gap_list.proofs.blocks.Blocks.ended_below.Goals as goal

pub ended_below-requires : goal.ended_below-requires
ended_below-requires c = rw c.block.ensures (rising_at 0 (blocks_of c.args.self.now) c.block_from-block.result c.requires.rising)

pub returns-clause-spot : goal.returns-clause-spot
returns-clause-spot c = record {
  block = c.block_from-block.ensures.within;
  place = rw c.block.ensures at c.ended_below.ensures.within;
  inside = λ less.
      found_inside c.args.self.now.below.items c.args.self.now.top c.block_from-block.result c.ended_below.result c.args.offset
      c.requires.kept.filled less c.block_from-block.ensures.above
      (rw c.block.ensures at c.ended_below.ensures.within) (rw c.block.ensures at c.ended_below.ensures.below);
}

pub returns-clause-below : goal.returns-clause-below
returns-clause-below c =
    found_below c.args.self.now.below.items c.args.self.now.top c.block_from-block.result c.ended_below.result c.args.offset
    c.requires.rising c.block_from-block.ensures.within c.block_from-block.ensures.below
    (rw c.block.ensures at c.ended_below.ensures.within) (rw c.block.ensures at c.ended_below.ensures.below)

pub returns-clause-above : goal.returns-clause-above
returns-clause-above c =
    found_above c.args.self.now.below.items c.args.self.now.top c.block_from-block.result c.ended_below.result c.args.offset
    c.requires.rising c.requires.kept.filled c.block_from-block.ensures.within c.block_from-block.ensures.above
    (rw c.block.ensures at c.ended_below.ensures.within) (rw c.block.ensures at c.ended_below.ensures.above)
