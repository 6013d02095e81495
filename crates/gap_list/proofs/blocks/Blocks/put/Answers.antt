use Rattle.std.proofs.Common.{ℕ, ◌≡◌, ◌+◌, ◌++◌, ◌∷◌, ◌∙◌, List, take, drop, sym, ap, arith}
use Rattle.gap_list.specs.declared.run.Run.{Run}
use Rattle.gap_list.specs.Blocks.{all_runs, blocks_of, index_of, place_of}
use Rattle.gap_list.proofs.BlockLemmas.{place_within, all_blocks, same_block, joined_runs, place_add}
use Rattle.gap_list.proofs.blocks.Blocks.put.Goals as goal

pub put_in-requires-else-first-last-clause-ordered : goal.put_in-requires-else-first-last-clause-ordered
put_in-requires-else-first-last-clause-ordered c =
    (same_block (blocks_of c.args.self.now) c.args.first.block c.args.last.block c.args.first.place c.args.last.place
    (omega (arith, c.requires.first.block, all_blocks c.args.self.now.below.items c.args.self.now.top)) c.if-first-last.false
    (λ less. c.requires.last.inside (omega (arith, less, c.requires.first.block))) c.requires.ordered).1

pub put_in-requires-else-first-last-clause-within : goal.put_in-requires-else-first-last-clause-within
put_in-requires-else-first-last-clause-within c =
    let same : c.args.last.block ≡ c.args.first.block =
    (same_block (blocks_of c.args.self.now) c.args.first.block c.args.last.block c.args.first.place c.args.last.place
    (omega (arith, c.requires.first.block, all_blocks c.args.self.now.below.items c.args.self.now.top)) c.if-first-last.false
    (λ less. c.requires.last.inside (omega (arith, less, c.requires.first.block))) c.requires.ordered).0 in
    rw (← same) c.requires.last.place

pub returns-then-first-last-clause-runs : goal.returns-then-first-last-clause-runs
returns-then-first-last-clause-runs c =
    let new = blocks_of c.cut-number.new.self in
    let cut : List Run = all_runs c.cut-number.new.self in
    let front : ℕ = index_of c.args.self.now c.args.first in
    let until : ℕ = place_of (blocks_of c.args.self.now) c.args.last.block 0 in
    let place : ℕ = c.args.last.place in
    let far : place_of new c.cut-number.result place ≡ front + place =
    place_add new c.cut-number.result place ∙ ap (λ (n : ℕ). n + place) c.cut-number.ensures.place in
    c.put_in.ensures.runs
    ∙ ap (λ (n : ℕ). take n cut ++ c.args.run ∷ drop (place_of new c.cut-number.result place) cut) c.cut-number.ensures.place
    ∙ ap (λ (n : ℕ). take front cut ++ c.args.run ∷ drop n cut) far
    ∙ joined_runs (all_runs c.args.self.now) cut c.args.run front until place
    (place_within (blocks_of c.args.self.now) c.args.first.block c.args.first.place
    (omega (arith, c.requires.first.block, all_blocks c.args.self.now.below.items c.args.self.now.top)) c.requires.first.place)
    c.cut-number.ensures.runs
    ∙ ap (λ (n : ℕ). take front (all_runs c.args.self.now) ++ c.args.run ∷ drop n (all_runs c.args.self.now))
    (sym (place_add (blocks_of c.args.self.now) c.args.last.block place))

pub returns-else-first-last-clause-runs : goal.returns-else-first-last-clause-runs
returns-else-first-last-clause-runs c =
    let same : c.args.last.block ≡ c.args.first.block =
    (same_block (blocks_of c.args.self.now) c.args.first.block c.args.last.block c.args.first.place c.args.last.place
    (omega (arith, c.requires.first.block, all_blocks c.args.self.now.below.items c.args.self.now.top)) c.if-first-last.false
    (λ less. c.requires.last.inside (omega (arith, less, c.requires.first.block))) c.requires.ordered).0 in
    c.put_in-else-first-last.ensures.runs
    ∙ ap (λ (n : ℕ). take (index_of c.args.self.now c.args.first) (all_runs c.args.self.now)
    ++ c.args.run ∷ drop (place_of (blocks_of c.args.self.now) n c.args.last.place) (all_runs c.args.self.now)) (sym same)
