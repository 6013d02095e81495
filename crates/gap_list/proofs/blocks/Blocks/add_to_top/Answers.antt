use Rattle.std.proofs.Common.{ℕ, ◌≤◌, ◌∙◌, List, ap, sym, refl, arith, subst}
use Rattle.gap_list.specs.declared.run.Run.{Run}
use Rattle.gap_list.specs.Blocks.{blocks_of}
use Rattle.gap_list.specs.Runs.{in_runs, with_range, IsRisingFrom}
use Rattle.gap_list.proofs.BlockLemmas.{only_top, set_top}
use Rattle.gap_list.proofs.KeptLemmas.{kept_put, top_spare}
use Rattle.gap_list.proofs.blocks.Blocks.add_to_top.Goals as goal

pub add-requires-clause-rising : goal.add-requires-clause-rising
add-requires-clause-rising c = subst (IsRisingFrom 0) (only_top c.args.self.now.below.items c.args.self.now.top c.requires.one) c.requires.rising

pub add-requires-clause-room : goal.add-requires-clause-room
add-requires-clause-room c =
    let some = top_spare c.args.self.now.below.items c.args.self.now.top c.args.self.now.room c.requires.kept.room in
    omega (arith, some, c.requires.room)

pub returns-clause-rising : goal.returns-clause-rising
returns-clause-rising c = subst (IsRisingFrom 0) (sym (only_top c.args.self.now.below.items c.add.new.runs c.requires.one)) c.add.ensures.rising

pub returns-clause-added : goal.returns-clause-added
returns-clause-added c i =
    ap (λ (l : List Run). in_runs l i) (only_top c.args.self.now.below.items c.add.new.runs c.requires.one)
    ∙ c.add.ensures.added i
    ∙ ap (λ (l : List Run). with_range (in_runs l) c.args.start c.args.end i) (sym (only_top c.args.self.now.below.items c.args.self.now.top c.requires.one))

pub returns-clause-kept : goal.returns-clause-kept
returns-clause-kept c =
    let some = top_spare c.args.self.now.below.items c.args.self.now.top c.args.self.now.room c.requires.kept.room in
    kept_put _ (blocks_of c.args.self.now) c.add.new.runs 0 c.args.self.now.room
    (sym (set_top c.args.self.now.below.items c.args.self.now.top c.add.new.runs 0 c.requires.one)) refl
    c.requires.kept.filled c.requires.room c.requires.kept.room (omega (arith, c.requires.room))
    (omega (arith, some, c.add.ensures.room.0, c.add.ensures.room.1, c.requires.room))
    (omega arith)
