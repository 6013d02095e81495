use Rattle.std.proofs.Common.{ℕ, ◌≤◌, ◌<◌, take, drop, sym, arith, subst}
use Rattle.std.specs.List.{All}
use Rattle.gap_list.specs.declared.run.Run.{Run}
use Rattle.gap_list.specs.Blocks.{all_runs, blocks_of, index_of}
use Rattle.gap_list.proofs.BlockLemmas.{begun_at, begun_past, above_past, above_here, place_within, all_blocks}
use Rattle.gap_list.proofs.blocks.Blocks.begun_from.Goals as goal

pub returns-in-None-clause-within : goal.returns-in-None-clause-within
returns-in-None-clause-within c =
    place_within (blocks_of c.args.self.now) c.args.spot.block c.args.spot.place
    (omega (arith, c.requires.spot.block, all_blocks c.args.self.now.below.items c.args.self.now.top)) c.requires.spot.place

pub returns-in-None-clause-below : goal.returns-in-None-clause-below
returns-in-None-clause-below c =
    begun_at (all_runs c.args.self.now) (index_of c.args.self.now c.args.spot) c.args.offset c.requires.rising c.requires.below

pub returns-then-run-offset-clause-below : goal.returns-then-run-offset-clause-below
returns-then-run-offset-clause-below c =
    subst (λ (n : ℕ). All (λ (run : Run). run.start ≤ c.args.offset) (take n (all_runs c.args.self.now))) (sym c.after.ensures.next)
    (begun_past (all_runs c.args.self.now) (index_of c.args.self.now c.args.spot) c.args.offset c.in-Some.run' c.requires.rising c.requires.below
    c.in-Some.ensures c.if-run-offset.true)

pub returns-then-run-offset-clause-above : goal.returns-then-run-offset-clause-above
returns-then-run-offset-clause-above c =
    subst (λ (n : ℕ). All (λ (run : Run). c.args.offset < run.start) (drop n (all_runs c.args.self.now))) (sym c.after.ensures.next)
    (above_past (all_runs c.args.self.now) (index_of c.args.self.now c.args.spot) c.args.offset c.in-Some.run' c.requires.rising c.requires.above
    c.in-Some.ensures)

pub returns-else-run-offset-clause-below : goal.returns-else-run-offset-clause-below
returns-else-run-offset-clause-below c =
    begun_at (all_runs c.args.self.now) (index_of c.args.self.now c.args.spot) c.args.offset c.requires.rising c.requires.below

pub returns-else-run-offset-clause-above : goal.returns-else-run-offset-clause-above
returns-else-run-offset-clause-above c =
    above_here (all_runs c.args.self.now) (index_of c.args.self.now c.args.spot) c.args.offset c.in-Some.run' c.requires.rising
    c.in-Some.ensures c.if-run-offset.false
