use Rattle.std.proofs.Common.{◌+◌, ap, arith, length}
use Rattle.gap_list.specs.Blocks.{blocks_of}
use Rattle.gap_list.proofs.BlockLemmas.{place_over, place_more, inside_top, filled_at, all_blocks}
use Rattle.gap_list.proofs.blocks.Blocks.after.Goals as goal

pub overflow_add-result : goal.overflow_add-result
overflow_add-result c =
    let inside = inside_top (blocks_of c.args.self.now) c.args.spot.block c.args.spot.place
    (omega (arith, c.if-spot-len.true, c.len.ensures, c.args.self.now.below.ok.0, all_blocks c.args.self.now.below.items c.args.self.now.top)) c.requires.present in
    let size = ap length c.block-len.ensures in
    omega (arith, inside, size, c.block-len.type_inv)

pub overflow_add-spot : goal.overflow_add-spot
overflow_add-spot c =
    let inside = c.requires.spot.inside (omega (arith, c.if-spot-len.false, c.len.ensures, c.args.self.now.below.ok.0, c.requires.spot.block)) in
    let size = ap length c.block-len.ensures in
    omega (arith, inside, size, c.block-len.type_inv)

pub returns-then-spot-len-clause-spot : goal.returns-then-spot-len-clause-spot
returns-then-spot-len-clause-spot c =
    let inside = inside_top (blocks_of c.args.self.now) c.args.spot.block c.args.spot.place
    (omega (arith, c.if-spot-len.true, c.len.ensures, c.args.self.now.below.ok.0, all_blocks c.args.self.now.below.items c.args.self.now.top)) c.requires.present in
    record {
      block = c.requires.spot.block;
      place = omega (arith, inside);
      inside = λ less. absurd (omega (arith, less, c.if-spot-len.true, c.len.ensures, c.args.self.now.below.ok.0));
    }

pub returns-then-spot-len-clause-next : goal.returns-then-spot-len-clause-next
returns-then-spot-len-clause-next c = place_more (blocks_of c.args.self.now) c.args.spot.block c.args.spot.place

pub returns-then-spot-len-2-clause-next : goal.returns-then-spot-len-2-clause-next
returns-then-spot-len-2-clause-next c = place_more (blocks_of c.args.self.now) c.args.spot.block c.args.spot.place

pub returns-else-spot-len-2-clause-spot : goal.returns-else-spot-len-2-clause-spot
returns-else-spot-len-2-clause-spot c = record {
  block = omega (arith, c.if-spot-len.false, c.len.ensures, c.args.self.now.below.ok.0, c.requires.spot.block);
  place = omega arith;
  inside = λ less. filled_at c.args.self.now.below.items c.args.self.now.top (c.args.spot.block + 1) c.requires.kept.filled less;
}

pub returns-else-spot-len-2-clause-next : goal.returns-else-spot-len-2-clause-next
returns-else-spot-len-2-clause-next c =
    let below = c.requires.spot.inside (omega (arith, c.if-spot-len.false, c.len.ensures, c.args.self.now.below.ok.0, c.requires.spot.block)) in
    let size = ap length c.block-len.ensures in
    place_over (blocks_of c.args.self.now) c.args.spot.block c.args.spot.place
    (omega (arith, c.requires.spot.block, all_blocks c.args.self.now.below.items c.args.self.now.top))
    (omega (arith, below, size, c.if-spot-len-2.false))
