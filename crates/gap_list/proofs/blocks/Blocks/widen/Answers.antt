use Rattle.std.proofs.Common.{◌∙◌, ap, sym, refl, arith, length}
use Rattle.std.proofs.lemmas.Result.{on_ok_weaker}
use Rattle.gap_list.specs.Blocks.{Block}
use Rattle.gap_list.proofs.BlockLemmas.{at_below}
use Rattle.gap_list.proofs.SplitLemmas.{widened_order, widened_spare, widened_filled, kept_none, top_spares, kept_top}
use Rattle.gap_list.proofs.blocks.Blocks.widen.Goals as goal

pub split_below-requires-clause-long : goal.split_below-requires-clause-long
split_below-requires-clause-long c =
    omega (
      arith,
      ap length (at_below c.args.self.now.below.items c.args.self.now.top c.index.result.now c.args.self.now.changed
          (omega (arith, c.if-self-len.true, c.len.ensures, c.args.self.now.below.ok.0))
          ∙ ap (λ (block : Block). block.items) (sym c.index.ensures)),
      c.index.result.now.ok.0,
      c.len-then-self-len.ensures,
      c.if-len-lt-LONG.false,
    )

pub returns-then-len-lt-LONG-clause-runs : goal.returns-then-len-lt-LONG-clause-runs
returns-then-len-lt-LONG-clause-runs c =
    widened_order c.args.self.now.below.items c.args.self.now.top c.reserve.new.self c.index_mut.result.now c.args.self.now.changed
    (omega (arith, c.if-self-len.true, c.len.ensures, c.args.self.now.below.ok.0)) c.index_mut.ensures.value c.reserve.ensures.items

pub returns-then-len-lt-LONG-clause-kept : goal.returns-then-len-lt-LONG-clause-kept
returns-then-len-lt-LONG-clause-kept c =
    kept_none c.args.self.now _ c.reserve.new.self
    (omega (arith, c.if-self-len.true, c.len.ensures, c.args.self.now.below.ok.0)) refl refl refl c.requires.room
    (widened_filled c.args.self.now.below.items c.reserve.new.self c.index_mut.result.now c.args.self.now.changed
    (omega (arith, c.if-self-len.true, c.len.ensures, c.args.self.now.below.ok.0)) c.index_mut.ensures.value c.reserve.ensures.items c.requires.kept.filled)
    c.requires.kept

pub returns-then-len-lt-LONG-clause-spare : goal.returns-then-len-lt-LONG-clause-spare
returns-then-len-lt-LONG-clause-spare c =
    on_ok_weaker c.reserve.result
    (λ room. widened_spare c.args.self.now c.reserve.new.self
    (omega (arith, c.if-self-len.true, c.len.ensures, c.args.self.now.below.ok.0)) c.requires.kept (omega (arith, room)))
    c.reserve.ensures.ok

pub returns-then-len-lt-LONG-2-clause-kept : goal.returns-then-len-lt-LONG-2-clause-kept
returns-then-len-lt-LONG-2-clause-kept c =
    kept_top c.args.self.now _
    (omega (arith, c.if-self-len.false, c.len.ensures, c.args.self.now.below.ok.0, c.requires.kept.number)) refl refl c.requires.room c.requires.kept

pub returns-then-len-lt-LONG-2-clause-spare : goal.returns-then-len-lt-LONG-2-clause-spare
returns-then-len-lt-LONG-2-clause-spare c =
    on_ok_weaker c.reserve-then-len-lt-LONG-2.result
    (λ room. top_spares c.args.self.now c.reserve-then-len-lt-LONG-2.new.self
    (omega (arith, c.if-self-len.false, c.len.ensures, c.args.self.now.below.ok.0, c.requires.kept.number)) c.requires.kept (omega (arith, room)))
    c.reserve-then-len-lt-LONG-2.ensures.ok
