use Rattle.std.proofs.Common.{◌<◌, ◌++◌, ◌∷◌, ◌∙◌, List, length, take, drop, sym, ap, arith, refl, length-set}
use Rattle.std.proofs.lemmas.List.Elements.{All-set}
use Rattle.gap_list.specs.declared.run.Run.{Run}
use Rattle.gap_list.specs.Blocks.{Block, blocks_of, in_order}
use Rattle.gap_list.proofs.BlockLemmas.{all_blocks, put_order, at_below, at_top, set_top}
use Rattle.gap_list.proofs.KeptLemmas.{set_below, kept_put, below_spare, top_spare, filled_put}
use Rattle.gap_list.proofs.blocks.Blocks.put_in.Goals as goal

pub put-requires-clause-within : goal.put-requires-clause-within
put-requires-clause-within c =
    omega (
      arith,
      c.requires.within,
      ap length (at_below c.args.self.now.below.items c.args.self.now.top c.index_mut.result.now c.args.number
          (omega (arith, c.if-number-len.true, c.len.ensures, c.args.self.now.below.ok.0))
          ∙ ap (λ (block : Block). block.items) (sym c.index_mut.ensures.value)),
      c.index_mut.result.now.ok.0,
    )

pub put-requires-clause-room : goal.put-requires-clause-room
put-requires-clause-room c =
    let some = below_spare c.args.self.now.below.items c.args.self.now.top c.args.number c.args.self.now.room c.index_mut.result.now
    (omega (arith, c.if-number-len.true, c.len.ensures, c.args.self.now.below.ok.0)) c.index_mut.ensures.value c.requires.kept.room in
    omega (arith, some, c.requires.room)

pub put-requires-else-number-len-clause-within : goal.put-requires-else-number-len-clause-within
put-requires-else-number-len-clause-within c =
    omega (
      arith,
      c.requires.within,
      ap length (at_top c.args.self.now.below.items c.args.self.now.top c.args.number
          (omega (arith, c.requires.number, c.if-number-len.false, c.len.ensures, c.args.self.now.below.ok.0))),
      c.args.self.now.top.ok.0,
    )

pub put-requires-else-number-len-clause-room : goal.put-requires-else-number-len-clause-room
put-requires-else-number-len-clause-room c =
    let some = top_spare c.args.self.now.below.items c.args.self.now.top c.args.self.now.room c.requires.kept.room in
    omega (arith, some, c.requires.room)

pub returns-then-number-len-clause-runs : goal.returns-then-number-len-clause-runs
returns-then-number-len-clause-runs c =
    ap in_order (set_below c.args.self.now.below.items c.args.self.now.top c.put.new.runs c.args.number
    (omega (arith, c.if-number-len.true, c.len.ensures, c.args.self.now.below.ok.0)))
    ∙ put_order (blocks_of c.args.self.now) c.put.new.runs c.args.run c.args.number c.args.first c.args.last
    (omega (arith, c.requires.number, all_blocks c.args.self.now.below.items c.args.self.now.top)) c.requires.ordered c.requires.within
    (c.put.ensures.items ∙ ap (λ (l : List Run). take c.args.first l ++ c.args.run ∷ drop c.args.last l) (sym (at_below c.args.self.now.below.items c.args.self.now.top c.index_mut.result.now c.args.number
    (omega (arith, c.if-number-len.true, c.len.ensures, c.args.self.now.below.ok.0))
    ∙ ap (λ (block : Block). block.items) (sym c.index_mut.ensures.value))))

pub returns-then-number-len-clause-kept : goal.returns-then-number-len-clause-kept
returns-then-number-len-clause-kept c =
    let some = below_spare c.args.self.now.below.items c.args.self.now.top c.args.number c.args.self.now.room c.index_mut.result.now
    (omega (arith, c.if-number-len.true, c.len.ensures, c.args.self.now.below.ok.0)) c.index_mut.ensures.value c.requires.kept.room in
    kept_put _ (blocks_of c.args.self.now) c.put.new.runs c.args.number c.args.self.now.room
    (set_below c.args.self.now.below.items c.args.self.now.top c.put.new.runs c.args.number
    (omega (arith, c.if-number-len.true, c.len.ensures, c.args.self.now.below.ok.0))) refl
    (All-set (λ (block : Block). 0 < length block.items) c.args.self.now.below.items c.args.number c.put.new.runs
    (filled_put c.index_mut.result.now.items c.put.new.runs c.args.run c.args.first c.args.last c.put.ensures.items) c.requires.kept.filled)
    c.requires.room c.requires.kept.room (omega (arith, c.requires.room))
    (omega (arith, some, c.put.ensures.len, c.put.ensures.room, c.requires.room))
    (omega (arith, c.requires.number, length-set c.args.self.now.below.items c.args.number c.put.new.runs))

pub returns-else-number-len-clause-runs : goal.returns-else-number-len-clause-runs
returns-else-number-len-clause-runs c =
    ap in_order (sym (set_top c.args.self.now.below.items c.args.self.now.top c.put-else-number-len.new.runs c.args.number
    (omega (arith, c.requires.number, c.if-number-len.false, c.len.ensures, c.args.self.now.below.ok.0))))
    ∙ put_order (blocks_of c.args.self.now) c.put-else-number-len.new.runs c.args.run c.args.number c.args.first c.args.last
    (omega (arith, c.requires.number, all_blocks c.args.self.now.below.items c.args.self.now.top)) c.requires.ordered c.requires.within
    (c.put-else-number-len.ensures.items ∙ ap (λ (l : List Run). take c.args.first l ++ c.args.run ∷ drop c.args.last l)
    (sym (at_top c.args.self.now.below.items c.args.self.now.top c.args.number
    (omega (arith, c.requires.number, c.if-number-len.false, c.len.ensures, c.args.self.now.below.ok.0)))))

pub returns-else-number-len-clause-kept : goal.returns-else-number-len-clause-kept
returns-else-number-len-clause-kept c =
    let some = top_spare c.args.self.now.below.items c.args.self.now.top c.args.self.now.room c.requires.kept.room in
    kept_put _ (blocks_of c.args.self.now) c.put-else-number-len.new.runs c.args.number c.args.self.now.room
    (sym (set_top c.args.self.now.below.items c.args.self.now.top c.put-else-number-len.new.runs c.args.number
    (omega (arith, c.requires.number, c.if-number-len.false, c.len.ensures, c.args.self.now.below.ok.0)))) refl
    c.requires.kept.filled c.requires.room c.requires.kept.room (omega (arith, c.requires.room))
    (omega (arith, some, c.put-else-number-len.ensures.len, c.put-else-number-len.ensures.room, c.requires.room))
    c.requires.number
