use Rattle.std.proofs.Common.{arith}
use Rattle.gap_list.specs.Blocks.{all_runs, blocks_of, index_of}
use Rattle.gap_list.proofs.BlockLemmas.{place_within, all_blocks}
use Rattle.gap_list.proofs.EditLemmas.{IsAdded, added_put, ends_before}
use Rattle.gap_list.proofs.blocks.Blocks.add_among.Goals as goal

pub put-requires-clause-ordered : goal.put-requires-clause-ordered
put-requires-clause-ordered c =
    ends_before (all_runs c.args.self.now) (index_of c.args.self.now c.ended_below-first.result) (index_of c.args.self.now c.begun_from-last.result)
    c.args.start c.args.end c.requires.rising c.requires.filled
    (place_within (blocks_of c.args.self.now) c.ended_below-first.result.block c.ended_below-first.result.place
    (omega (arith, c.ended_below-first.ensures.spot.block, all_blocks c.args.self.now.below.items c.args.self.now.top)) c.ended_below-first.ensures.spot.place)
    c.ended_below-first.ensures.below c.begun_from-last.ensures.above

made : (c : goal.After-put) → IsAdded (all_runs c.args.self.now) (all_runs c.put.new.self) c.args.start c.args.end
made c =
    added_put (all_runs c.args.self.now) (all_runs c.put.new.self) (index_of c.args.self.now c.ended_below-first.result)
    (index_of c.args.self.now c.ended_below-last.result) (index_of c.args.self.now c.begun_from-last.result)
    c.args.start c.args.end (record { start = c.start_at.result; end = c.end_at.result }) c.requires.rising c.requires.filled
    c.begun_from-last.ensures.within
    (place_within (blocks_of c.args.self.now) c.ended_below-first.result.block c.ended_below-first.result.place
    (omega (arith, c.ended_below-first.ensures.spot.block, all_blocks c.args.self.now.below.items c.args.self.now.top)) c.ended_below-first.ensures.spot.place)
    c.begun_from-last.ensures.next c.begun_from-last.ensures.one
    c.ended_below-first.ensures.below c.ended_below-first.ensures.above
    c.ended_below-last.ensures.below c.ended_below-last.ensures.above
    c.begun_from-last.ensures.below c.begun_from-last.ensures.above
    c.start_at.ensures c.end_at.ensures c.put.ensures.runs

pub returns-clause-rising : goal.returns-clause-rising
returns-clause-rising c = (made c).rising

pub returns-clause-added : goal.returns-clause-added
returns-clause-added c = (made c).added
