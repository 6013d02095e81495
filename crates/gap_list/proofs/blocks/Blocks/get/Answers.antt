use Rattle.std.proofs.Common.{◌≡◌, ◌+◌, arith, ◌≤◌, ◌<◌, length, ⊎_elim}
use Rattle.std.proofs.lemmas.Bool.{cases_lt}
use Rattle.gap_list.specs.Blocks.{blocks_of, runs_at}
use Rattle.gap_list.proofs.BlockLemmas.{first_at, none_at, all_blocks}
use Rattle.gap_list.proofs.blocks.Blocks.get.Goals as goal

pub returns-then-spot-runs : goal.returns-then-spot-runs
returns-then-spot-runs c =
    rw c.block-runs.ensures
    (first_at (blocks_of c.args.self.now) c.args.spot.block c.args.spot.place (record { start = 0; end = 0 })
    (omega (arith, c.requires.block, all_blocks c.args.self.now.below.items c.args.self.now.top)) (rw c.block-runs.ensures at c.if-spot-runs.true))

pub returns-else-spot-runs : goal.returns-else-spot-runs
returns-else-spot-runs c =
    let past : length (runs_at (blocks_of c.args.self.now) c.args.spot.block) ≤ c.args.spot.place =
    rw (← c.block-runs.ensures) c.if-spot-runs.false in
    let last : c.args.spot.block + 1 ≡ length (blocks_of c.args.self.now) = ⊎_elim
    (λ (below : c.args.spot.block < length c.args.self.now.below.items). absurd (omega (arith, c.requires.inside below, past)))
    (λ (top : length c.args.self.now.below.items ≤ c.args.spot.block).
    omega (arith, c.requires.block, top, all_blocks c.args.self.now.below.items c.args.self.now.top))
    (cases_lt c.args.spot.block (length c.args.self.now.below.items)) in
    none_at (blocks_of c.args.self.now) c.args.spot.block c.args.spot.place last past c.requires.place
