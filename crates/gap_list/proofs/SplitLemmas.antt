-- A block is split or gets room.
use Rattle.std.proofs.Common.{◌≡◌, ℕ, zero, suc, ◌+◌, ◌-◌, ◌<◌, ◌≤◌, List, [], ◌∷◌, ◌++◌, length, get_or, set, take, drop, refl, ap, sym, ◌∙◌, arith, subst, append_assoc, add-one, length-append, length-set, vec_len, vec_capacity}
use Rattle.std.specs.List.{All, insert}
use Rattle.std.proofs.lemmas.List.{take-append-le, drop-append-le, drop-set-lt, set_split, take_at, take-append-drop, drop_all}
use Rattle.std.proofs.lemmas.List.Edits.{length-insert}
use Rattle.std.proofs.lemmas.List.Elements.{All-append, All-same, All-take, All-drop, All-set, All-cons, All-nil, All-push}
use Rattle.gap_list.specs.declared.run.Run.{Run}
use Rattle.gap_list.specs.declared.blocks.Blocks.{Blocks}
use Rattle.gap_list.specs.Blocks.{Block, blocks_of, in_order, runs_at, spare, IsKept}
use Rattle.gap_list.proofs.BlockLemmas.{split_order, at_below}
use Rattle.gap_list.proofs.KeptLemmas.{set_below, kept_empty}

-- all blocks but one have room, and so has the one that takes its place
all_but : (P : Block → Type 0) (blocks : List Block) (number : ℕ) (new : Block) → number < length blocks → All P (take number blocks)
    → All P (drop (suc number) blocks) → P new → All P (set blocks number new)
all_but P blocks number new within before behind here =
    All-same P _ _ (set_split blocks number new within)
    (All-append P (take number blocks) (new ∷ drop (suc number) blocks) before (All-cons P new (drop (suc number) blocks) here behind))

pub set_same_order : (blocks : List Block) (number : ℕ) (new : Block) → number < length blocks → new.items ≡ runs_at blocks number
    → in_order (set blocks number new) ≡ in_order blocks
set_same_order [] number new within is = absurd (omega arith)
set_same_order (block ∷ blocks) zero new within is = ap (λ (l : List Run). l ++ in_order blocks) is
set_same_order (block ∷ blocks) (suc number) new within is =
    ap (λ (l : List Run). block.items ++ l) (set_same_order blocks number new (omega arith) is)

-- ---- a block below the top one gets room

pub widened_order : (below : List Block) (top new old : Block) (number : ℕ) → number < length below → old ≡ get_or below number old → new.items ≡ old.items
    → in_order (set below number new ++ top ∷ []) ≡ in_order (below ++ top ∷ [])
widened_order below top new old number within is same =
    ap in_order (set_below below top new number within)
    ∙ set_same_order (below ++ top ∷ []) number new (omega (arith, length-append below (top ∷ [])))
    (same ∙ ap (λ (block : Block). block.items) is ∙ sym (at_below below top old number within))

pub widened_spare : (runs : Blocks) (new : Block) → runs.changed < length runs.below.items → IsKept runs → 0 < spare new
    → All (λ block. 0 < spare block) (set runs.below.items runs.changed new ++ runs.top ∷ [])
widened_spare runs new within kept here =
    All-same (λ (block : Block). 0 < spare block) _ _ (set_below runs.below.items runs.top new runs.changed within)
    (all_but (λ (block : Block). 0 < spare block) (blocks_of runs) runs.changed new (omega (arith, length-append runs.below.items (runs.top ∷ [])))
    kept.before kept.behind here)

pub widened_filled : (below : List Block) (new old : Block) (number : ℕ) → number < length below → old ≡ get_or below number old → new.items ≡ old.items
    → All (λ block. 0 < length block.items) below → All (λ block. 0 < length block.items) (set below number new)
widened_filled below new old number within is same filled =
    let some : 0 < length old.items = subst (λ (b : Block). 0 < length b.items) (sym is) (filled number old within) in
    All-set (λ (block : Block). 0 < length block.items) below number new (omega (arith, some, ap length same)) filled

-- room for none is kept where the other blocks are
pub kept_none : (old new : Blocks) (block : Block) → old.changed < length old.below.items → new.below.items ≡ set old.below.items old.changed block
    → new.top ≡ old.top → new.changed ≡ old.changed → new.room ≡ 0 → All (λ block. 0 < length block.items) new.below.items → IsKept old → IsKept new
kept_none old new block within below top changed none filled kept =
    let blocks : blocks_of new ≡ set (blocks_of old) old.changed block =
    ap (λ (l : List Block). l ++ new.top ∷ []) below
    ∙ ap (λ (b : Block). set old.below.items old.changed block ++ b ∷ []) top
    ∙ set_below old.below.items old.top block old.changed within in
    record {
      number = omega (arith, changed, within, ap length below, length-set old.below.items old.changed block);
      filled = filled;
      before = All-same (λ (block : Block). 0 < spare block) _ _
          (ap (λ (l : List Block). take new.changed l) blocks ∙ ap (λ (n : ℕ). take n (set (blocks_of old) old.changed block)) changed ∙ take_set (blocks_of old) old.changed block)
          kept.before;
      behind = All-same (λ (block : Block). 0 < spare block) _ _
          (ap (λ (l : List Block). drop (suc new.changed) l) blocks ∙ ap (λ (n : ℕ). drop (suc n) (set (blocks_of old) old.changed block)) changed
          ∙ drop-set-lt (suc old.changed) (blocks_of old) old.changed block (omega arith))
          kept.behind;
      room = λ k d less. omega (arith, none);
    }
  where
    take_set : (xs : List Block) (i : ℕ) (y : Block) → take i (set xs i y) ≡ take i xs
    take_set [] zero y = refl
    take_set [] (suc i) y = refl
    take_set (x ∷ xs) zero y = refl
    take_set (x ∷ xs) (suc i) y = ap (λ (l : List Block). x ∷ l) (take_set xs i y)

-- ---- the top block gets room

-- the blocks below the top one have room where the top block was changed last
pub below_spares : (runs : Blocks) → runs.changed ≡ length runs.below.items → IsKept runs → All (λ block. 0 < spare block) runs.below.items
below_spares runs past kept =
    All-same (λ (block : Block). 0 < spare block) _ _
    (sym (ap (λ (n : ℕ). take n (blocks_of runs)) past ∙ take_at runs.below.items (runs.top ∷ []) (length runs.below.items) refl))
    kept.before

pub top_spares : (runs : Blocks) (new : Block) → runs.changed ≡ length runs.below.items → IsKept runs → 0 < spare new
    → All (λ block. 0 < spare block) (runs.below.items ++ new ∷ [])
top_spares runs new past kept here =
    All-push (λ (block : Block). 0 < spare block) runs.below.items new (below_spares runs past kept) here

pub kept_top : (old new : Blocks) → old.changed ≡ length old.below.items → new.below.items ≡ old.below.items → new.changed ≡ old.changed → new.room ≡ 0
    → IsKept old → IsKept new
kept_top old new past below changed none kept =
    let size : new.changed ≡ length new.below.items = changed ∙ past ∙ ap length (sym below) in
    record {
      number = omega (arith, size);
      filled = All-same (λ (block : Block). 0 < length block.items) _ _ below kept.filled;
      before = All-same (λ (block : Block). 0 < spare block) _ _
          (ap (λ (n : ℕ). take n (blocks_of new)) size ∙ take_at new.below.items (new.top ∷ []) (length new.below.items) refl ∙ below)
          (below_spares old past kept);
      behind = All-same (λ (block : Block). 0 < spare block) _ _
          (drop_all (suc new.changed) (blocks_of new) (omega (arith, size, length-append new.below.items (new.top ∷ []))))
          (All-nil (λ (block : Block). 0 < spare block));
      room = λ k d less. omega (arith, none);
    }

-- ---- a block below the top one is split

pub split_blocks : (below : List Block) (top lower upper : Block) (number : ℕ) → number < length below
    → insert (set below number lower) (number + 1) upper ++ top ∷ []
    ≡ take (suc number) (set (below ++ top ∷ []) number lower) ++ upper ∷ drop (suc number) (set (below ++ top ∷ []) number lower)
split_blocks below top lower upper number within =
    let new : List Block = set below number lower in
    let size : suc number ≤ length new = omega (arith, length-set below number lower) in
    ap (λ (n : ℕ). (take n new ++ upper ∷ drop n new) ++ top ∷ []) (add-one number)
    ∙ append_assoc (take (suc number) new) (upper ∷ drop (suc number) new) (top ∷ [])
    ∙ ap (λ (l : List Block). l ++ upper ∷ (drop (suc number) new ++ top ∷ [])) (sym (take-append-le (suc number) new (top ∷ []) size))
    ∙ ap (λ (l : List Block). take (suc number) (new ++ top ∷ []) ++ upper ∷ l) (sym (drop-append-le (suc number) new (top ∷ []) size))
    ∙ ap (λ (l : List Block). take (suc number) l ++ upper ∷ drop (suc number) l) (set_below below top lower number within)

pub split_same : (below : List Block) (top lower upper old : Block) (number kept : ℕ) → number < length below → old ≡ get_or below number old
    → lower.items ≡ take kept old.items → upper.items ≡ drop kept old.items
    → in_order (insert (set below number lower) (number + 1) upper ++ top ∷ []) ≡ in_order (below ++ top ∷ [])
split_same below top lower upper old number kept within is low high =
    ap in_order (split_blocks below top lower upper number within)
    ∙ split_order (below ++ top ∷ []) lower upper number (omega (arith, length-append below (top ∷ [])))
    (ap (λ (l : List Run). l ++ upper.items) low ∙ ap (λ (l : List Run). take kept old.items ++ l) high ∙ take-append-drop kept old.items
    ∙ ap (λ (block : Block). block.items) is ∙ sym (at_below below top old number within))

pub split_spares : (runs : Blocks) (lower upper : Block) (number : ℕ) → number < length runs.below.items → runs.changed ≡ number → IsKept runs
    → 0 < spare lower → 0 < spare upper
    → All (λ block. 0 < spare block) (insert (set runs.below.items number lower) (number + 1) upper ++ runs.top ∷ [])
split_spares runs lower upper number within changed kept low high =
    let P : Block → Type 0 = λ block. 0 < spare block in
    let all : All P (set (blocks_of runs) number lower) =
    all_but P (blocks_of runs) number lower (omega (arith, within, length-append runs.below.items (runs.top ∷ [])))
    (subst (λ (n : ℕ). All P (take n (blocks_of runs))) changed kept.before)
    (subst (λ (n : ℕ). All P (drop (suc n) (blocks_of runs))) changed kept.behind) low in
    All-same P _ _ (split_blocks runs.below.items runs.top lower upper number within)
    (All-append P (take (suc number) (set (blocks_of runs) number lower)) (upper ∷ drop (suc number) (set (blocks_of runs) number lower))
    (All-take P (suc number) (set (blocks_of runs) number lower) all)
    (All-cons P upper (drop (suc number) (set (blocks_of runs) number lower)) high (All-drop P (suc number) (set (blocks_of runs) number lower) all)))

pub split_filled : (below : List Block) (lower upper : Block) (number : ℕ) → 0 < length lower.items → 0 < length upper.items
    → All (λ block. 0 < length block.items) below → All (λ block. 0 < length block.items) (insert (set below number lower) (number + 1) upper)
split_filled below lower upper number low high filled =
    let P : Block → Type 0 = λ block. 0 < length block.items in
    let all : All P (set below number lower) = All-set P below number lower low filled in
    All-append P (take (number + 1) (set below number lower)) (upper ∷ drop (number + 1) (set below number lower))
    (All-take P (number + 1) (set below number lower) all)
    (All-cons P upper (drop (number + 1) (set below number lower)) high (All-drop P (number + 1) (set below number lower) all))

-- ---- the top block is split

pub top_split_spares : (runs : Blocks) (lower upper : Block) → runs.changed ≡ length runs.below.items → IsKept runs → 0 < spare lower → 0 < spare upper
    → All (λ block. 0 < spare block) ((runs.below.items ++ lower ∷ []) ++ upper ∷ [])
top_split_spares runs lower upper past kept low high =
    All-push (λ (block : Block). 0 < spare block) (runs.below.items ++ lower ∷ []) upper
    (All-push (λ (block : Block). 0 < spare block) runs.below.items lower (below_spares runs past kept) low) high

-- ---- what a split leaves

pub lower_spare : (lower old : Block) (kept : ℕ) → vec_len lower + (vec_len old - kept) ≡ vec_len old → vec_capacity lower ≡ vec_capacity old → kept < vec_len old
    → 0 < spare lower
lower_spare lower old kept len capacity less = omega (arith, old.ok.1, len, capacity, less)

pub split_kept : (old new : Blocks) (lower upper : Block) (number : ℕ) → number < length old.below.items → old.changed ≡ number → IsKept old → old.room ≡ 0
    → new.below.items ≡ insert (set old.below.items number lower) (number + 1) upper → new.top ≡ old.top → new.changed ≡ old.changed → new.room ≡ old.room
    → 0 < spare lower → 0 < spare upper → 0 < length lower.items → 0 < length upper.items → IsKept new × All (λ block. 0 < spare block) (blocks_of new)
split_kept old new lower upper number within changed kept none below top same_changed same_room low high some_low some_high =
    let blocks : blocks_of new ≡ insert (set old.below.items number lower) (number + 1) upper ++ old.top ∷ [] =
    ap (λ (l : List Block). l ++ new.top ∷ []) below
    ∙ ap (λ (b : Block). insert (set old.below.items number lower) (number + 1) upper ++ b ∷ []) top in
    let spares : All (λ block. 0 < spare block) (blocks_of new) =
    All-same (λ (block : Block). 0 < spare block) _ _ blocks (split_spares old lower upper number within changed kept low high) in
    let size : length new.below.items ≡ length (set old.below.items number lower) + 1 =
    ap length below ∙ length-insert (set old.below.items number lower) (number + 1) upper (omega (arith, length-set old.below.items number lower)) in (
      kept_empty new (omega (arith, size, length-set old.below.items number lower, same_changed, changed))
          (All-same (λ (block : Block). 0 < length block.items) _ _ below (split_filled old.below.items lower upper number some_low some_high kept.filled))
          (same_room ∙ none) spares,
      spares,
    )

pub top_split_kept : (old new : Blocks) (lower upper : Block) → old.changed ≡ length old.below.items → IsKept old → old.room ≡ 0
    → new.below.items ≡ old.below.items ++ lower ∷ [] → new.top ≡ upper → new.changed ≡ old.changed → new.room ≡ old.room
    → 0 < spare lower → 0 < spare upper → 0 < length lower.items → IsKept new × All (λ block. 0 < spare block) (blocks_of new)
top_split_kept old new lower upper past kept none below top changed same_room low high some_low =
    let blocks : blocks_of new ≡ (old.below.items ++ lower ∷ []) ++ upper ∷ [] =
    ap (λ (l : List Block). l ++ new.top ∷ []) below ∙ ap (λ (b : Block). (old.below.items ++ lower ∷ []) ++ b ∷ []) top in
    let spares : All (λ block. 0 < spare block) (blocks_of new) =
    All-same (λ (block : Block). 0 < spare block) _ _ blocks (top_split_spares old lower upper past kept low high) in
    let size : length new.below.items ≡ length old.below.items + 1 = ap length below ∙ length-append old.below.items (lower ∷ []) in (
      kept_empty new (omega (arith, size, changed, past))
          (All-same (λ (block : Block). 0 < length block.items) _ _ below
          (All-push (λ (block : Block). 0 < length block.items) old.below.items lower kept.filled some_low))
          (same_room ∙ none) spares,
      spares,
    )
