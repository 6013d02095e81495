use Rattle.std.proofs.Common.{◌≡◌, ◌<◌, ◌+◌, ◌-◌, ◌/◌, ◌∙◌, List, ◌++◌, ◌∷◌, [], ap, sym, refl, arith, length, get_or, set, drop, vec_len, length-drop}
use Rattle.std.specs.List.{All, insert}
use Rattle.std.proofs.lemmas.List.{get_or_read}
use Rattle.gap_list.specs.Blocks.{Block, blocks_of, in_order, spare, IsKept}
use Rattle.gap_list.proofs.BlockLemmas.{at_below}
use Rattle.gap_list.proofs.SplitLemmas.{split_same, split_kept, lower_spare}
use Rattle.gap_list.proofs.blocks.Blocks.split_below.Goals as goal

items_are : (c : goal.After-insert_block) → c.insert_block.new.blocks.items ≡ insert (set c.args.self.now.below.items c.args.number c.truncate.new.self) (c.args.number + 1) c.in_ok-upper.upper
items_are c =
    c.insert_block.ensures ∙ ap (λ (l : List Block). insert (set l c.args.number c.truncate.new.self) (c.args.number + 1) c.in_ok-upper.upper) c.reserve.ensures.items

old_is : (c : goal.After-insert_block) → c.index_mut.result.now ≡ get_or c.args.self.now.below.items c.args.number c.index_mut.result.now
old_is c = c.index_mut.ensures.value ∙ ap (λ (l : List Block). get_or l c.args.number c.index_mut.result.now) c.reserve.ensures.items

first_is_old : (c : goal.After-insert_block) → c.index.result.now ≡ c.index_mut.result.now
first_is_old c =
    get_or_read c.args.self.now.below.items c.args.number c.index.result.now c.requires.number c.index.ensures c.index_mut.result.now ∙ sym (old_is c)

second_is_old : (c : goal.After-insert_block) → c.index-2.result.now ≡ c.index_mut.result.now
second_is_old c =
    get_or_read c.args.self.now.below.items c.args.number c.index-2.result.now c.requires.number c.index-2.ensures c.index_mut.result.now ∙ sym (old_is c)

len_is : (c : goal.After-insert_block) → c.len-kept.result ≡ vec_len c.index_mut.result.now
len_is c = c.len-kept.ensures ∙ ap (λ (b : Block). vec_len b) (first_is_old c)

long : (c : goal.After-insert_block) → 1 < vec_len c.index_mut.result.now
long c =
    omega (
      arith,
      c.requires.long,
      ap length (at_below c.args.self.now.below.items c.args.self.now.top c.index_mut.result.now c.args.number c.requires.number
          ∙ ap (λ (b : Block). b.items) (sym (old_is c))),
      c.index_mut.result.now.ok.0,
    )

kept_is : (c : goal.After-insert_block)
    → IsKept (record { below = c.insert_block.new.blocks; top = c.args.self.now.top; changed = c.args.self.now.changed; room = c.args.self.now.room })
    × All (λ block. 0 < spare block) (blocks_of (record { below = c.insert_block.new.blocks; top = c.args.self.now.top; changed = c.args.self.now.changed; room = c.args.self.now.room }))
kept_is c =
    let few : c.len-kept.result / 2 < vec_len c.index_mut.result.now = omega (arith, len_is c, long c) in
    let some : 0 < c.len-kept.result / 2 = omega (arith, len_is c, long c) in
    let lower : vec_len c.truncate.new.self ≡ c.len-kept.result / 2 = omega (arith, c.truncate.ensures.len, few) in
    let upper : length c.in_ok-upper.upper.items ≡ length c.index-2.result.now.items - c.len-kept.result / 2 =
    ap length c.in_ok-upper.ensures.items ∙ length-drop (c.len-kept.result / 2) c.index-2.result.now.items in
    split_kept c.args.self.now _ c.truncate.new.self c.in_ok-upper.upper c.args.number c.requires.number c.requires.changed c.requires.kept c.requires.room
    (items_are c) refl refl refl
    (lower_spare c.truncate.new.self c.index_mut.result.now (c.len-kept.result / 2) c.truncate.ensures.len c.truncate.ensures.capacity few)
    c.in_ok-upper.ensures.spare
    (omega (arith, lower, some, c.truncate.new.self.ok.0))
    (omega (arith, upper, few, ap (λ (b : Block). vec_len b) (second_is_old c), c.index-2.result.now.ok.0))

pub returns-clause-runs : goal.returns-clause-runs
returns-clause-runs c =
    ap (λ (l : List Block). in_order (l ++ c.args.self.now.top ∷ [])) (items_are c)
    ∙ split_same c.args.self.now.below.items c.args.self.now.top c.truncate.new.self c.in_ok-upper.upper c.index_mut.result.now c.args.number (c.len-kept.result / 2)
    c.requires.number (old_is c) c.truncate.ensures.items
    (c.in_ok-upper.ensures.items ∙ ap (λ (b : Block). drop (c.len-kept.result / 2) b.items) (second_is_old c))

pub returns-clause-kept : goal.returns-clause-kept
returns-clause-kept c = (kept_is c).0

pub returns-clause-spare : goal.returns-clause-spare
returns-clause-spare c = (kept_is c).1
