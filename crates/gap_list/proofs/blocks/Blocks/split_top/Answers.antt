use Rattle.std.proofs.Common.{ℕ, ◌≡◌, ◌<◌, ◌-◌, ◌/◌, ◌++◌, ◌∷◌, [], ◌∙◌, List, ap, refl, arith, length, vec_len}
use Rattle.std.specs.List.{All, insert}
use Rattle.std.proofs.lemmas.List.Edits.{insert_end}
use Rattle.gap_list.specs.Blocks.{Block, blocks_of, spare, IsKept}
use Rattle.gap_list.proofs.SplitLemmas.{top_split_kept, lower_spare}
use Rattle.gap_list.proofs.blocks.Blocks.split_top.Goals as goal

items_are : (c : goal.After-insert_block) → c.insert_block.new.blocks.items ≡ c.args.self.now.below.items ++ c.truncate.new.self ∷ []
items_are c =
    let place : c.len-place.result ≡ length c.args.self.now.below.items =
    c.len-place.ensures ∙ c.reserve.new.self.ok.0 ∙ ap length c.reserve.ensures.items in
    c.insert_block.ensures
    ∙ ap (λ (l : List Block). insert l c.len-place.result c.replace-lower.result) c.reserve.ensures.items
    ∙ ap (λ (n : ℕ). insert c.args.self.now.below.items n c.replace-lower.result) place
    ∙ ap (λ (b : Block). insert c.args.self.now.below.items (length c.args.self.now.below.items) b) c.replace-lower.ensures.value
    ∙ insert_end c.args.self.now.below.items c.truncate.new.self

kept_is : (c : goal.After-insert_block)
    → IsKept (record { below = c.insert_block.new.blocks; top = c.replace-lower.new.dest; changed = c.args.self.now.changed; room = c.args.self.now.room })
    × All (λ block. 0 < spare block) (blocks_of (record { below = c.insert_block.new.blocks; top = c.replace-lower.new.dest; changed = c.args.self.now.changed; room = c.args.self.now.room }))
kept_is c =
    let few : c.len.result - c.len-2.result / 8 < vec_len c.args.self.now.top = omega (arith, c.len.ensures, c.len-2.ensures, c.requires.long, c.args.self.now.top.ok.0) in
    let some : 0 < c.len.result - c.len-2.result / 8 = omega (arith, c.len.ensures, c.len-2.ensures, c.requires.long, c.args.self.now.top.ok.0) in
    let lower : vec_len c.truncate.new.self ≡ c.len.result - c.len-2.result / 8 = omega (arith, c.truncate.ensures.len, few) in
    top_split_kept c.args.self.now _ c.truncate.new.self c.in_ok-upper.upper c.requires.changed c.requires.kept c.requires.room
    (items_are c) c.replace-lower.ensures.after refl refl
    (lower_spare c.truncate.new.self c.args.self.now.top (c.len.result - c.len-2.result / 8) c.truncate.ensures.len c.truncate.ensures.capacity few)
    c.in_ok-upper.ensures.spare
    (omega (arith, lower, some, c.truncate.new.self.ok.0))

pub returns-clause-kept : goal.returns-clause-kept
returns-clause-kept c = (kept_is c).0

pub returns-clause-spare : goal.returns-clause-spare
returns-clause-spare c = (kept_is c).1
