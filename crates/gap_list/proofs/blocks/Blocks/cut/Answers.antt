use Rattle.std.proofs.Common.{ℕ, ◌≡◌, ◌≤◌, ◌<◌, ◌+◌, ◌++◌, ◌∷◌, [], ◌∙◌, List, length, set, take, drop, suc, sym, ap, arith, add-one, length-append, length-set}
use Rattle.std.proofs.lemmas.List.{length-take-le}
use Rattle.std.proofs.lemmas.List.Elements.{All-set, All-same}
use Rattle.gap_list.specs.declared.run.Run.{Run}
use Rattle.gap_list.specs.Blocks.{Block, all_runs, blocks_of, in_order, place_of, runs_at, spare}
use Rattle.gap_list.proofs.BlockLemmas.{all_blocks, drained_order, place_drained, block_drained, cut_order, place_cut, block_cut, at_below}
use Rattle.gap_list.proofs.KeptLemmas.{drained_blocks, kept_of_room, all_drained, cut_blocks, cut_spare}
use Rattle.gap_list.proofs.blocks.Blocks.cut.Goals as goal

-- ---- from the front of a block

left : (c : goal.After-drop-drain) → c.drop-drain.new.self.0.items ≡ take c.args.first.block c.args.self.now.below.items ++ drop c.args.until c.args.self.now.below.items
left c = c.drop-drain.ensures.items ∙ c.drain.ensures.kept

blocks_left : (c : goal.After-drop-drain) → c.drop-drain.new.self.0.items ++ c.args.self.now.top ∷ []
    ≡ take c.args.first.block (blocks_of c.args.self.now) ++ drop c.args.until (blocks_of c.args.self.now)
blocks_left c =
    ap (λ (l : List Block). l ++ c.args.self.now.top ∷ []) (left c)
    ∙ drained_blocks c.args.self.now.below.items c.args.self.now.top c.args.first.block c.args.until c.requires.spot.block c.requires.until.1

pub returns-then-first-eq0-clause-runs : goal.returns-then-first-eq0-clause-runs
returns-then-first-eq0-clause-runs c =
    ap in_order (blocks_left c)
    ∙ drained_order (blocks_of c.args.self.now) c.args.first.block c.args.until c.requires.until.0
    (omega (arith, c.requires.until.1, all_blocks c.args.self.now.below.items c.args.self.now.top))
    ∙ ap (λ (n : ℕ). take (place_of (blocks_of c.args.self.now) c.args.first.block n) (all_runs c.args.self.now)
    ++ drop (place_of (blocks_of c.args.self.now) c.args.until 0) (all_runs c.args.self.now)) (sym c.if-first-eq0.true)

pub returns-then-first-eq0-clause-place : goal.returns-then-first-eq0-clause-place
returns-then-first-eq0-clause-place c =
    ap (λ (l : List Block). place_of l c.args.first.block 0) (blocks_left c)
    ∙ place_drained (blocks_of c.args.self.now) c.args.first.block c.args.until c.requires.until.0
    (omega (arith, c.requires.until.1, all_blocks c.args.self.now.below.items c.args.self.now.top))
    ∙ ap (λ (n : ℕ). place_of (blocks_of c.args.self.now) c.args.first.block n) (sym c.if-first-eq0.true)

pub returns-then-first-eq0-clause-block : goal.returns-then-first-eq0-clause-block
returns-then-first-eq0-clause-block c =
    ap (λ (l : List Block). runs_at l c.args.first.block) (blocks_left c)
    ∙ block_drained (blocks_of c.args.self.now) c.args.first.block c.args.until c.requires.until.0
    (omega (arith, c.requires.until.1, all_blocks c.args.self.now.below.items c.args.self.now.top))

pub returns-then-first-eq0-clause-kept : goal.returns-then-first-eq0-clause-kept
returns-then-first-eq0-clause-kept c =
    kept_of_room _
    (omega (
      arith,
      ap length (left c),
      length-append (take c.args.first.block c.args.self.now.below.items) (drop c.args.until c.args.self.now.below.items),
      length-take-le c.args.first.block c.args.self.now.below.items c.requires.spot.block,
    ))
    (all_drained (λ (block : Block). 0 < length block.items) c.args.self.now.below.items c.drop-drain.new.self.0.items c.args.first.block c.args.until (left c) c.requires.kept.filled)
    c.requires.room
    (all_drained (λ (block : Block). c.args.self.now.room ≤ spare block) (blocks_of c.args.self.now) _ c.args.first.block c.args.until (blocks_left c) c.requires.kept.room)

-- ---- from within a block

pub returns-else-first-eq0-clause-runs : goal.returns-else-first-eq0-clause-runs
returns-else-first-eq0-clause-runs c =
    ap in_order (cut_blocks c.args.self.now.below.items c.drop-drain-else-first-eq0.new.self.0.items c.args.self.now.top c.truncate.new.self c.args.first.block c.args.until
    (c.drop-drain-else-first-eq0.ensures.items ∙ c.drain-else-first-eq0.ensures.kept) c.requires.until.0 c.requires.until.1)
    ∙ cut_order (blocks_of c.args.self.now) c.truncate.new.self c.args.first.block c.args.first.place c.args.until c.requires.until.0
    (omega (arith, c.requires.until.1, all_blocks c.args.self.now.below.items c.args.self.now.top))
    c.requires.spot.place
    (c.truncate.ensures.items ∙ ap (λ (l : List Run). take c.args.first.place l)
    (sym (at_below c.args.self.now.below.items c.args.self.now.top c.index_mut.result.now c.args.first.block (omega (arith, c.requires.until.0, c.requires.until.1))
    ∙ ap (λ (block : Block). block.items) (sym c.index_mut.ensures.value))))

pub returns-else-first-eq0-clause-place : goal.returns-else-first-eq0-clause-place
returns-else-first-eq0-clause-place c =
    ap (λ (l : List Block). place_of l (c.args.first.block + 1) 0) (cut_blocks c.args.self.now.below.items c.drop-drain-else-first-eq0.new.self.0.items c.args.self.now.top c.truncate.new.self c.args.first.block c.args.until
    (c.drop-drain-else-first-eq0.ensures.items ∙ c.drain-else-first-eq0.ensures.kept) c.requires.until.0 c.requires.until.1)
    ∙ ap (λ (n : ℕ). place_of (take (suc c.args.first.block) (set (blocks_of c.args.self.now) c.args.first.block c.truncate.new.self)
    ++ drop c.args.until (set (blocks_of c.args.self.now) c.args.first.block c.truncate.new.self)) n 0) (add-one c.args.first.block)
    ∙ place_cut (blocks_of c.args.self.now) c.truncate.new.self c.args.first.block c.args.first.place c.args.until c.requires.until.0
    (omega (arith, c.requires.until.1, all_blocks c.args.self.now.below.items c.args.self.now.top))
    c.requires.spot.place
    (c.truncate.ensures.items ∙ ap (λ (l : List Run). take c.args.first.place l)
    (sym (at_below c.args.self.now.below.items c.args.self.now.top c.index_mut.result.now c.args.first.block (omega (arith, c.requires.until.0, c.requires.until.1))
    ∙ ap (λ (block : Block). block.items) (sym c.index_mut.ensures.value))))

pub returns-else-first-eq0-clause-block : goal.returns-else-first-eq0-clause-block
returns-else-first-eq0-clause-block c =
    ap (λ (l : List Block). runs_at l (c.args.first.block + 1)) (cut_blocks c.args.self.now.below.items c.drop-drain-else-first-eq0.new.self.0.items c.args.self.now.top c.truncate.new.self c.args.first.block c.args.until
    (c.drop-drain-else-first-eq0.ensures.items ∙ c.drain-else-first-eq0.ensures.kept) c.requires.until.0 c.requires.until.1)
    ∙ ap (λ (n : ℕ). runs_at (take (suc c.args.first.block) (set (blocks_of c.args.self.now) c.args.first.block c.truncate.new.self)
    ++ drop c.args.until (set (blocks_of c.args.self.now) c.args.first.block c.truncate.new.self)) n) (add-one c.args.first.block)
    ∙ block_cut (blocks_of c.args.self.now) c.truncate.new.self c.args.first.block c.args.until c.requires.until.0
    (omega (arith, c.requires.until.1, all_blocks c.args.self.now.below.items c.args.self.now.top))

pub returns-else-first-eq0-clause-kept : goal.returns-else-first-eq0-clause-kept
returns-else-first-eq0-clause-kept c =
    let inside : c.args.first.place < length (runs_at (blocks_of c.args.self.now) c.args.first.block) =
    c.requires.spot.inside (omega (arith, c.requires.until.0, c.requires.until.1)) in
    let size : length c.truncate.new.self.items ≡ c.args.first.place = ap length (c.truncate.ensures.items ∙ ap (λ (l : List Run). take c.args.first.place l)
    (sym (at_below c.args.self.now.below.items c.args.self.now.top c.index_mut.result.now c.args.first.block (omega (arith, c.requires.until.0, c.requires.until.1))
    ∙ ap (λ (block : Block). block.items) (sym c.index_mut.ensures.value))))
    ∙ length-take-le c.args.first.place (runs_at (blocks_of c.args.self.now) c.args.first.block) c.requires.spot.place in
    kept_of_room _
    (omega (
      arith,
      ap length (c.drop-drain-else-first-eq0.ensures.items ∙ c.drain-else-first-eq0.ensures.kept),
      length-append (take (c.args.first.block + 1) (set c.args.self.now.below.items c.args.first.block c.truncate.new.self)) (drop c.args.until (set c.args.self.now.below.items c.args.first.block c.truncate.new.self)),
      length-take-le (c.args.first.block + 1) (set c.args.self.now.below.items c.args.first.block c.truncate.new.self) (omega (arith, c.requires.until.0, c.requires.until.1, length-set c.args.self.now.below.items c.args.first.block c.truncate.new.self)),
    ))
    (all_drained (λ (block : Block). 0 < length block.items) (set c.args.self.now.below.items c.args.first.block c.truncate.new.self)
    c.drop-drain-else-first-eq0.new.self.0.items (c.args.first.block + 1) c.args.until
    (c.drop-drain-else-first-eq0.ensures.items ∙ c.drain-else-first-eq0.ensures.kept)
    (All-set (λ (block : Block). 0 < length block.items) c.args.self.now.below.items c.args.first.block c.truncate.new.self
    (omega (arith, size, c.if-first-eq0.false)) c.requires.kept.filled))
    c.requires.room
    (All-same (λ (block : Block). c.args.self.now.room ≤ spare block) _ _ (cut_blocks c.args.self.now.below.items c.drop-drain-else-first-eq0.new.self.0.items c.args.self.now.top c.truncate.new.self c.args.first.block c.args.until
    (c.drop-drain-else-first-eq0.ensures.items ∙ c.drain-else-first-eq0.ensures.kept) c.requires.until.0 c.requires.until.1)
    (cut_spare c.args.self.now.below.items c.args.self.now.top c.truncate.new.self c.index_mut.result.now c.args.first.block c.args.until c.args.first.place c.args.self.now.room
    (omega (arith, c.requires.until.0, c.requires.until.1)) c.index_mut.ensures.value c.truncate.ensures.len c.truncate.ensures.capacity c.requires.kept.room))
