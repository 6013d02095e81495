-- What blocks keep through an edit.
use Rattle.std.proofs.Common.{◌≡◌, ℕ, suc, ◌+◌, ◌-◌, ◌<◌, ◌≤◌, List, [], ◌∷◌, ◌++◌, length, get_or, set, take, drop, refl, ap, sym, ◌∙◌, arith, subst, append_assoc, add-one, length-append, length-set, vec_len, vec_capacity}
use Rattle.std.specs.List.{All}
use Rattle.std.proofs.lemmas.List.{take-append-le, drop-append-le, set-append_left, take-set, drop-set-lt, get_or_append_left, get_or_at}
use Rattle.std.proofs.lemmas.List.Elements.{All-append, All-same, All-take, All-drop, All-set, All-weaker}
use Rattle.gap_list.specs.declared.run.Run.{Run}
use Rattle.gap_list.specs.declared.blocks.Blocks.{Blocks}
use Rattle.gap_list.specs.Blocks.{Block, blocks_of, spare, IsKept}

-- blocks below the top one and the top one
pub drained_blocks : (below : List Block) (top : Block) (number until : ℕ) → number ≤ length below → until ≤ length below
    → (take number below ++ drop until below) ++ top ∷ [] ≡ take number (below ++ top ∷ []) ++ drop until (below ++ top ∷ [])
drained_blocks below top number until le within =
    append_assoc (take number below) (drop until below) (top ∷ [])
    ∙ ap (λ (l : List Block). take number below ++ l) (sym (drop-append-le until below (top ∷ []) within))
    ∙ ap (λ (l : List Block). l ++ drop until (below ++ top ∷ [])) (sym (take-append-le number below (top ∷ []) le))

pub set_below : (below : List Block) (top new : Block) (number : ℕ) → number < length below → set below number new ++ top ∷ [] ≡ set (below ++ top ∷ []) number new
set_below below top new number within = sym (set-append_left below (top ∷ []) number new within)

-- where each block has room for one more run
pub kept_of_spare : (runs : Blocks) → runs.changed ≤ length runs.below.items → All (λ block. 0 < length block.items) runs.below.items → All (λ block. 0 < spare block) (blocks_of runs)
    → All (λ block. runs.room ≤ spare block) (blocks_of runs) → IsKept runs
kept_of_spare runs number filled some room = record {
  number = number;
  filled = filled;
  before = All-take (λ (block : Block). 0 < spare block) runs.changed (blocks_of runs) some;
  behind = All-drop (λ (block : Block). 0 < spare block) (suc runs.changed) (blocks_of runs) some;
  room = room;
}

pub some_spare : (blocks : List Block) (room : ℕ) → 0 < room → All (λ block. room ≤ spare block) blocks → All (λ block. 0 < spare block) blocks
some_spare blocks room some all =
    All-weaker (λ (block : Block). room ≤ spare block) (λ (block : Block). 0 < spare block) (λ block le. omega arith) blocks all

pub kept_of_room : (runs : Blocks) → runs.changed ≤ length runs.below.items → All (λ block. 0 < length block.items) runs.below.items → 0 < runs.room
    → All (λ block. runs.room ≤ spare block) (blocks_of runs) → IsKept runs
kept_of_room runs number filled some room = kept_of_spare runs number filled (some_spare (blocks_of runs) runs.room some room) room

pub kept_empty : (runs : Blocks) → runs.changed ≤ length runs.below.items → All (λ block. 0 < length block.items) runs.below.items → runs.room ≡ 0
    → All (λ block. 0 < spare block) (blocks_of runs) → IsKept runs
kept_empty runs number filled none some =
    kept_of_spare runs number filled some
    (All-weaker (λ (block : Block). 0 < spare block) (λ (block : Block). runs.room ≤ spare block) (λ block less. omega arith) (blocks_of runs) some)

-- one block was changed, and lost room for one run at most
pub kept_put : (new : Blocks) (blocks : List Block) (block : Block) (number room : ℕ) → blocks_of new ≡ set blocks number block → new.changed ≡ number
    → All (λ block. 0 < length block.items) new.below.items → 0 < room → All (λ block. room ≤ spare block) blocks
    → new.room + 1 ≡ room → new.room ≤ spare block → new.changed ≤ length new.below.items → IsKept new
kept_put new blocks block number room is changed filled some all left left_block within =
    let spares : All (λ block. 0 < spare block) blocks = some_spare blocks room some all in
    record {
      number = within;
      filled = filled;
      before = All-same (λ (block : Block). 0 < spare block) _ _
          (ap (λ (l : List Block). take new.changed l) is ∙ ap (λ (n : ℕ). take n (set blocks number block)) changed ∙ take-set blocks number block)
          (All-take (λ (block : Block). 0 < spare block) number blocks spares);
      behind = All-same (λ (block : Block). 0 < spare block) _ _
          (ap (λ (l : List Block). drop (suc new.changed) l) is ∙ ap (λ (n : ℕ). drop (suc n) (set blocks number block)) changed
          ∙ drop-set-lt (suc number) blocks number block (omega arith))
          (All-drop (λ (block : Block). 0 < spare block) (suc number) blocks spares);
      room = All-same (λ (block : Block). new.room ≤ spare block) _ _ is
          (All-set (λ (block : Block). new.room ≤ spare block) blocks number block left_block
          (All-weaker (λ (block : Block). room ≤ spare block) (λ (block : Block). new.room ≤ spare block) (λ block le. omega arith) blocks all));
    }

-- whole blocks were removed
pub all_drained : (P : Block → Type 0) (blocks new : List Block) (number until : ℕ) → new ≡ take number blocks ++ drop until blocks → All P blocks → All P new
all_drained P blocks new number until is all =
    All-same P _ _ is (All-append P (take number blocks) (drop until blocks) (All-take P number blocks all) (All-drop P until blocks all))

-- the room of one block
pub below_spare : (below : List Block) (top : Block) (number room : ℕ) (block : Block) → number < length below → block ≡ get_or below number block
    → All (λ block. room ≤ spare block) (below ++ top ∷ []) → room ≤ spare block
below_spare below top number room block within is all =
    let place : get_or (below ++ top ∷ []) number block ≡ block = get_or_append_left below (top ∷ []) block number within ∙ sym is in
    subst (λ (b : Block). room ≤ spare b) place (all number block (omega (arith, length-append below (top ∷ []))))

pub top_spare : (below : List Block) (top : Block) (room : ℕ) → All (λ block. room ≤ spare block) (below ++ top ∷ []) → room ≤ spare top
top_spare below top room all =
    let place : get_or (below ++ top ∷ []) (length below) top ≡ top = get_or_at below top [] top (length below) refl in
    subst (λ (b : Block). room ≤ spare b) place (all (length below) top (omega (arith, length-append below (top ∷ []))))

pub filled_put : (runs : List Run) (new : Block) (run : Run) (first last : ℕ) → new.items ≡ take first runs ++ run ∷ drop last runs → 0 < length new.items
filled_put runs new run first last is =
    omega (arith, ap length is, length-append (take first runs) (run ∷ drop last runs))

-- a block was cut, and whole blocks behind it were removed
pub cut_blocks : (below new : List Block) (top block : Block) (number until : ℕ) → new ≡ take (number + 1) (set below number block) ++ drop until (set below number block)
    → number < until → until ≤ length below
    → new ++ top ∷ [] ≡ take (suc number) (set (below ++ top ∷ []) number block) ++ drop until (set (below ++ top ∷ []) number block)
cut_blocks below new top block number until is less within =
    ap (λ (l : List Block). l ++ top ∷ []) is
    ∙ drained_blocks (set below number block) top (number + 1) until
    (omega (arith, length-set below number block)) (omega (arith, length-set below number block))
    ∙ ap (λ (l : List Block). take (number + 1) l ++ drop until l) (set_below below top block number (omega arith))
    ∙ ap (λ (n : ℕ). take n (set (below ++ top ∷ []) number block) ++ drop until (set (below ++ top ∷ []) number block)) (add-one number)

pub cut_spare : (below : List Block) (top block old : Block) (number until place room : ℕ) → number < length below → old ≡ get_or below number old
    → vec_len block + (vec_len old - place) ≡ vec_len old → vec_capacity block ≡ vec_capacity old → All (λ block. room ≤ spare block) (below ++ top ∷ [])
    → All (λ block. room ≤ spare block) (take (suc number) (set (below ++ top ∷ []) number block) ++ drop until (set (below ++ top ∷ []) number block))
cut_spare below top block old number until place room within is len capacity all =
    let some : room ≤ spare old = below_spare below top number room old within is all in
    all_drained (λ (block : Block). room ≤ spare block) (set (below ++ top ∷ []) number block) _ (suc number) until refl
    (All-set (λ (block : Block). room ≤ spare block) (below ++ top ∷ []) number block (omega (arith, some, len, capacity)) all)
