-- Runs in blocks, as one list.
use Rattle.std.proofs.Common.{◌≡◌, ℕ, zero, suc, ◌+◌, ◌-◌, ◌<◌, ◌≤◌, true, false, List, [], ◌∷◌, ◌++◌, length, get_or, set, take, drop, nat_lt, refl, ap, sym, ◌∙◌, arith, subst, ⊎_elim, append_assoc, append-nil, length-append, add-one, Some, None}
use Rattle.std.specs.List.{All, AllWithin}
use Rattle.std.proofs.Math.Seq.{take-append-add, drop-append-add}
use Rattle.std.proofs.lemmas.Bool.{cases_lt, ltb-true, ltb-false}
use Rattle.std.proofs.lemmas.List.{take-append-le, drop-append-le, drop_more, drop_all, set_at, length-take-le, take_all, take_at, take_more, drop-drop, nil_from_length}
use Rattle.std.proofs.lemmas.List.Concat.{flat_map-append}
use Rattle.std.proofs.lemmas.List.Elements.{All-head, All-tail, All-nil, All-cons, All-append, All-same, All-weaker, All-more}
use Rattle.gap_list.specs.declared.run.Run.{Run}
use Rattle.gap_list.specs.Runs.{IsRisingFrom}
use Rattle.gap_list.specs.Places.{last_end}
use Rattle.gap_list.specs.Blocks.{Block, in_order, runs_at, place_of, first_of}
use Rattle.gap_list.proofs.RunLemmas.{IsRisingFrom-lower}
use Rattle.gap_list.proofs.RisingLemmas.{beyond, rising_front, rising_rest, rising_append, rising_drop, below_point, above_point}
use Rattle.gap_list.proofs.SearchLemmas.{last_end-rises, last_end-at, begun_where_ended, rising_take as rising_take_runs}
use Rattle.gap_list.proofs.EditLemmas.{beyond_last}

-- ---- places

pub place_add : (blocks : List Block) (number place : ℕ) → place_of blocks number place ≡ place_of blocks number 0 + place
place_add [] number place = omega arith
place_add (block ∷ blocks) zero place = omega arith
place_add (block ∷ blocks) (suc number) place = omega (arith, place_add blocks number place)

pub place_within : (blocks : List Block) (number place : ℕ) → number < length blocks → place ≤ length (runs_at blocks number)
    → place_of blocks number place ≤ length (in_order blocks)
place_within [] number place within le = absurd (omega arith)
place_within (block ∷ blocks) zero place within le = omega (arith, length-append block.items (in_order blocks))
place_within (block ∷ blocks) (suc number) place within le =
    omega (arith, length-append block.items (in_order blocks), place_within blocks number place (omega arith) le)

pub place_grows : (blocks : List Block) (number other place behind : ℕ) → number < other → other < length blocks
    → place < length (runs_at blocks number) → place_of blocks number place < place_of blocks other behind
place_grows [] number other place behind less within inside = absurd (omega arith)
place_grows (block ∷ blocks) zero zero place behind less within inside = absurd (omega arith)
place_grows (block ∷ blocks) zero (suc other) place behind less within inside = omega arith
place_grows (block ∷ blocks) (suc number) zero place behind less within inside = absurd (omega arith)
place_grows (block ∷ blocks) (suc number) (suc other) place behind less within inside =
    omega (arith, place_grows blocks number other place behind (omega arith) (omega arith) inside)

pub take_place : (blocks : List Block) (number place : ℕ) → number < length blocks → place ≤ length (runs_at blocks number)
    → take (place_of blocks number place) (in_order blocks) ≡ in_order (take number blocks) ++ take place (runs_at blocks number)
take_place [] number place within le = absurd (omega arith)
take_place (block ∷ blocks) zero place within le = take-append-le place block.items (in_order blocks) le
take_place (block ∷ blocks) (suc number) place within le =
    take-append-add block.items (in_order blocks) (place_of blocks number place)
    ∙ ap (λ (l : List Run). block.items ++ l) (take_place blocks number place (omega arith) le)
    ∙ sym (append_assoc block.items (in_order (take number blocks)) (take place (runs_at blocks number)))

pub drop_place : (blocks : List Block) (number place : ℕ) → number < length blocks → place ≤ length (runs_at blocks number)
    → drop (place_of blocks number place) (in_order blocks) ≡ drop place (runs_at blocks number) ++ in_order (drop (suc number) blocks)
drop_place [] number place within le = absurd (omega arith)
drop_place (block ∷ blocks) zero place within le = drop-append-le place block.items (in_order blocks) le
drop_place (block ∷ blocks) (suc number) place within le =
    drop-append-add block.items (in_order blocks) (place_of blocks number place)
    ∙ drop_place blocks number place (omega arith) le

-- ---- the blocks below the top one, and the top one

pub at_below : (below : List Block) (top d : Block) (number : ℕ) → number < length below
    → runs_at (below ++ top ∷ []) number ≡ (get_or below number d).items
at_below [] top d number within = absurd (omega arith)
at_below (block ∷ below) top d zero within = refl
at_below (block ∷ below) top d (suc number) within = at_below below top d number (omega arith)

pub at_top : (below : List Block) (top : Block) (number : ℕ) → length below ≡ number → runs_at (below ++ top ∷ []) number ≡ top.items
at_top [] top zero is = refl
at_top [] top (suc number) is = absurd (omega arith)
at_top (block ∷ below) top zero is = absurd (omega arith)
at_top (block ∷ below) top (suc number) is = at_top below top number (omega arith)

pub all_blocks : (below : List Block) (top : Block) → length (below ++ top ∷ []) ≡ length below + 1
all_blocks below top = length-append below (top ∷ [])

pub all_in_order : (below : List Block) (top : Block) → in_order (below ++ top ∷ []) ≡ in_order below ++ top.items
all_in_order below top =
    flat_map-append (λ (block : Block). block.items) below (top ∷ [])
    ∙ ap (λ (l : List Run). in_order below ++ l) (append-nil top.items)

pub set_top : (below : List Block) (top new : Block) (number : ℕ) → length below ≡ number
    → set (below ++ top ∷ []) number new ≡ below ++ new ∷ []
set_top below top new number is = set_at below top [] new number is

-- ---- a place's run

pub first_is : (runs : List Run) (place : ℕ) (run : Run) → Some run ≡ first_of (drop place runs)
    → (place < length runs) × (get_or runs place run ≡ run)
first_is runs place run is = ⊎_elim
    (λ (within : place < length runs).
    let rest : drop place runs ≡ get_or runs place run ∷ drop (place + 1) runs = drop_more runs place run within in
    let same : Some run ≡ Some (get_or runs place run) = is ∙ ap first_of rest in
    (within, sym (some_same run (get_or runs place run) same)))
    (λ (past : length runs ≤ place).
    let none : Some run ≡ None = is ∙ ap first_of (drop_all place runs past) in
    absurd cc)
    (cases_lt place (length runs))
  where
    some_same : (x y : Run) → Some x ≡ Some y → x ≡ y
    some_same x y e = cc

-- ---- edits

-- runs of a block are replaced by one
pub put_order : (blocks : List Block) (new : Block) (run : Run) (number first last : ℕ) → number < length blocks → first ≤ last
    → last ≤ length (runs_at blocks number) → new.items ≡ take first (runs_at blocks number) ++ run ∷ drop last (runs_at blocks number)
    → in_order (set blocks number new)
    ≡ take (place_of blocks number first) (in_order blocks) ++ run ∷ drop (place_of blocks number last) (in_order blocks)
put_order [] new run number first last within ordered le is = absurd (omega arith)
put_order (block ∷ blocks) new run zero first last within ordered le is =
    ap (λ (l : List Run). l ++ in_order blocks) is
    ∙ append_assoc (take first block.items) (run ∷ drop last block.items) (in_order blocks)
    ∙ ap (λ (l : List Run). l ++ run ∷ (drop last block.items ++ in_order blocks)) (sym (take-append-le first block.items (in_order blocks) (omega arith)))
    ∙ ap (λ (l : List Run). take first (block.items ++ in_order blocks) ++ run ∷ l) (sym (drop-append-le last block.items (in_order blocks) le))
put_order (block ∷ blocks) new run (suc number) first last within ordered le is =
    let p : ℕ = place_of blocks number first in
    let q : ℕ = place_of blocks number last in
    ap (λ (l : List Run). block.items ++ l) (put_order blocks new run number first last (omega arith) ordered le is)
    ∙ sym (append_assoc block.items (take p (in_order blocks)) (run ∷ drop q (in_order blocks)))
    ∙ ap (λ (l : List Run). l ++ run ∷ drop q (in_order blocks)) (sym (take-append-add block.items (in_order blocks) p))
    ∙ ap (λ (l : List Run). take (length block.items + p) (block.items ++ in_order blocks) ++ run ∷ l) (sym (drop-append-add block.items (in_order blocks) q))

-- whole blocks and the end of the one before them are removed
pub rest_order : (blocks : List Block) (until : ℕ) → until < length blocks → in_order (drop until blocks) ≡ drop (place_of blocks until 0) (in_order blocks)
rest_order [] until within = absurd (omega arith)
rest_order (block ∷ blocks) zero within = refl
rest_order (block ∷ blocks) (suc until) within =
    rest_order blocks until (omega arith) ∙ sym (drop-append-add block.items (in_order blocks) (place_of blocks until 0))

pub drained_order : (blocks : List Block) (number until : ℕ) → number < until → until < length blocks
    → in_order (take number blocks ++ drop until blocks)
    ≡ take (place_of blocks number 0) (in_order blocks) ++ drop (place_of blocks until 0) (in_order blocks)
drained_order blocks number until less within =
    flat_map-append (λ (block : Block). block.items) (take number blocks) (drop until blocks)
    ∙ ap (λ (l : List Run). in_order (take number blocks) ++ l) (rest_order blocks until within)
    ∙ ap (λ (l : List Run). l ++ drop (place_of blocks until 0) (in_order blocks))
    (sym (append-nil (in_order (take number blocks))) ∙ sym (take_place blocks number 0 (omega arith) (omega arith)))

pub cut_order : (blocks : List Block) (new : Block) (number place until : ℕ) → number < until → until < length blocks
    → place ≤ length (runs_at blocks number) → new.items ≡ take place (runs_at blocks number)
    → in_order (take (suc number) (set blocks number new) ++ drop until (set blocks number new))
    ≡ take (place_of blocks number place) (in_order blocks) ++ drop (place_of blocks until 0) (in_order blocks)
cut_order [] new number place until less within le is = absurd (omega arith)
cut_order (block ∷ blocks) new zero place zero less within le is = absurd (omega arith)
cut_order (block ∷ blocks) new zero place (suc until) less within le is =
    ap (λ (l : List Run). l ++ in_order (drop until blocks)) is
    ∙ ap (λ (l : List Run). take place block.items ++ l)
    (rest_order blocks until (omega arith) ∙ sym (drop-append-add block.items (in_order blocks) (place_of blocks until 0)))
    ∙ ap (λ (l : List Run). l ++ drop (length block.items + place_of blocks until 0) (block.items ++ in_order blocks))
    (sym (take-append-le place block.items (in_order blocks) le))
cut_order (block ∷ blocks) new (suc number) place zero less within le is = absurd (omega arith)
cut_order (block ∷ blocks) new (suc number) place (suc until) less within le is =
    let p : ℕ = place_of blocks number place in
    let q : ℕ = place_of blocks until 0 in
    ap (λ (l : List Run). block.items ++ l) (cut_order blocks new number place until (omega arith) (omega arith) le is)
    ∙ sym (append_assoc block.items (take p (in_order blocks)) (drop q (in_order blocks)))
    ∙ ap (λ (l : List Run). l ++ drop q (in_order blocks)) (sym (take-append-add block.items (in_order blocks) p))
    ∙ ap (λ (l : List Run). take (length block.items + p) (block.items ++ in_order blocks) ++ l) (sym (drop-append-add block.items (in_order blocks) q))

-- the blocks after a cut: places before it and the block behind it
pub place_drained : (blocks : List Block) (number until : ℕ) → number < until → until < length blocks
    → place_of (take number blocks ++ drop until blocks) number 0 ≡ place_of blocks number 0
place_drained [] number until less within = absurd (omega arith)
place_drained (block ∷ blocks) zero until less within = at_start (drop until (block ∷ blocks))
  where
    at_start : (l : List Block) → place_of l 0 0 ≡ 0
    at_start [] = refl
    at_start (b ∷ l) = refl
place_drained (block ∷ blocks) (suc number) zero less within = absurd (omega arith)
place_drained (block ∷ blocks) (suc number) (suc until) less within =
    ap (λ (n : ℕ). length block.items + n) (place_drained blocks number until (omega arith) (omega arith))

pub block_drained : (blocks : List Block) (number until : ℕ) → number < until → until < length blocks
    → runs_at (take number blocks ++ drop until blocks) number ≡ runs_at blocks until
block_drained [] number until less within = absurd (omega arith)
block_drained (block ∷ blocks) zero zero less within = absurd (omega arith)
block_drained (block ∷ blocks) zero (suc until) less within = at_first blocks until
  where
    at_first : (l : List Block) (n : ℕ) → runs_at (drop n l) 0 ≡ runs_at l n
    at_first [] zero = refl
    at_first [] (suc n) = refl
    at_first (b ∷ l) zero = refl
    at_first (b ∷ l) (suc n) = at_first l n
block_drained (block ∷ blocks) (suc number) zero less within = absurd (omega arith)
block_drained (block ∷ blocks) (suc number) (suc until) less within = block_drained blocks number until (omega arith) (omega arith)

pub place_cut : (blocks : List Block) (new : Block) (number place until : ℕ) → number < until → until < length blocks
    → place ≤ length (runs_at blocks number) → new.items ≡ take place (runs_at blocks number)
    → place_of (take (suc number) (set blocks number new) ++ drop until (set blocks number new)) (suc number) 0 ≡ place_of blocks number place
place_cut [] new number place until less within le is = absurd (omega arith)
place_cut (block ∷ blocks) new zero place zero less within le is = absurd (omega arith)
place_cut (block ∷ blocks) new zero place (suc until) less within le is =
    let size : length new.items ≡ place = ap length is ∙ length-take-le place block.items le in
    omega (arith, at_start (drop until blocks), size)
  where
    at_start : (l : List Block) → place_of l 0 0 ≡ 0
    at_start [] = refl
    at_start (b ∷ l) = refl
place_cut (block ∷ blocks) new (suc number) place zero less within le is = absurd (omega arith)
place_cut (block ∷ blocks) new (suc number) place (suc until) less within le is =
    ap (λ (n : ℕ). length block.items + n) (place_cut blocks new number place until (omega arith) (omega arith) le is)

pub block_cut : (blocks : List Block) (new : Block) (number until : ℕ) → number < until → until < length blocks
    → runs_at (take (suc number) (set blocks number new) ++ drop until (set blocks number new)) (suc number) ≡ runs_at blocks until
block_cut [] new number until less within = absurd (omega arith)
block_cut (block ∷ blocks) new zero zero less within = absurd (omega arith)
block_cut (block ∷ blocks) new zero (suc until) less within = at_first blocks until
  where
    at_first : (l : List Block) (n : ℕ) → runs_at (drop n l) 0 ≡ runs_at l n
    at_first [] zero = refl
    at_first [] (suc n) = refl
    at_first (b ∷ l) zero = refl
    at_first (b ∷ l) (suc n) = at_first l n
block_cut (block ∷ blocks) new (suc number) zero less within = absurd (omega arith)
block_cut (block ∷ blocks) new (suc number) (suc until) less within = block_cut blocks new number until (omega arith) (omega arith)

-- a block is split
pub split_order : (blocks : List Block) (lower upper : Block) (number : ℕ) → number < length blocks
    → lower.items ++ upper.items ≡ runs_at blocks number
    → in_order (take (suc number) (set blocks number lower) ++ upper ∷ drop (suc number) (set blocks number lower)) ≡ in_order blocks
split_order [] lower upper number within is = absurd (omega arith)
split_order (block ∷ blocks) lower upper zero within is =
    sym (append_assoc lower.items upper.items (in_order blocks)) ∙ ap (λ (l : List Run). l ++ in_order blocks) is
split_order (block ∷ blocks) lower upper (suc number) within is =
    ap (λ (l : List Run). block.items ++ l) (split_order blocks lower upper number (omega arith) is)

-- ---- rising runs in blocks

pub rising_at : (low : ℕ) (blocks : List Block) (number : ℕ) → IsRisingFrom low (in_order blocks) → IsRisingFrom 0 (runs_at blocks number)
rising_at low [] number rising = tt
rising_at low (block ∷ blocks) zero rising =
    IsRisingFrom-lower 0 low block.items (omega arith) (rising_front low block.items (in_order blocks) rising)
rising_at low (block ∷ blocks) (suc number) rising =
    rising_at (beyond low block.items) blocks number (rising_rest low block.items (in_order blocks) rising)

-- runs whose last end is below an offset end below it
runs_end : (start low offset : ℕ) (runs : List Run) → IsRisingFrom low runs → last_end start runs < offset → All (λ run. run.end < offset) runs
runs_end start low offset [] rising less = All-nil (λ (run : Run). run.end < offset)
runs_end start low offset (run ∷ runs) rising less =
    All-cons (λ (run : Run). run.end < offset) run runs
    (omega (arith, last_end-rises run.end runs rising.2))
    (runs_end run.end (run.end + 1) offset runs rising.2 less)

blocks_end : (low offset : ℕ) (blocks : List Block) → IsRisingFrom low (in_order blocks) → All (λ block. last_end 0 block.items < offset) blocks
    → All (λ run. run.end < offset) (in_order blocks)
blocks_end low offset [] rising ends = All-nil (λ (run : Run). run.end < offset)
blocks_end low offset (block ∷ blocks) rising ends =
    All-append (λ (run : Run). run.end < offset) block.items (in_order blocks)
    (runs_end 0 low offset block.items (rising_front low block.items (in_order blocks) rising)
    (All-head (λ (block : Block). last_end 0 block.items < offset) block blocks ends))
    (blocks_end (beyond low block.items) offset blocks (rising_rest low block.items (in_order blocks) rising)
    (All-tail (λ (block : Block). last_end 0 block.items < offset) block blocks ends))

-- runs that begin from an offset on end above it
pub ends_after : (low offset : ℕ) (runs : List Run) → offset ≤ low → IsRisingFrom low runs → All (λ run. offset ≤ run.end) runs
ends_after low offset [] le rising = All-nil (λ (run : Run). offset ≤ run.end)
ends_after low offset (run ∷ runs) le rising =
    All-cons (λ (run : Run). offset ≤ run.end) run runs (omega (arith, rising.0, rising.1))
    (ends_after (run.end + 1) offset runs (omega (arith, rising.0, rising.1)) rising.2)

beyond_end : (low : ℕ) (runs : List Run) → 0 < length runs → beyond low runs ≡ last_end 0 runs + 1
beyond_end low [] filled = absurd (omega arith)
beyond_end low (run ∷ runs) filled = beyond_last low run runs

pub beyond_grows : (low : ℕ) (runs : List Run) → IsRisingFrom low runs → low ≤ beyond low runs
beyond_grows low [] rising = omega arith
beyond_grows low (run ∷ runs) rising =
    omega (arith, rising.0, rising.1, beyond_grows (run.end + 1) runs rising.2)

-- the last ends of blocks that aren't empty rise
last_from : (low : ℕ) (blocks : List Block) (j : ℕ) (d : Block) → IsRisingFrom low (in_order blocks) → All (λ block. 0 < length block.items) blocks
    → j < length blocks → low ≤ last_end 0 (get_or blocks j d).items
last_from low [] j d rising filled within = absurd (omega arith)
last_from low (block ∷ blocks) zero d rising filled within =
    let some : 0 < length block.items = All-head (λ (block : Block). 0 < length block.items) block blocks filled in
    first_last low block.items some (rising_front low block.items (in_order blocks) rising)
  where
    first_last : (low : ℕ) (runs : List Run) → 0 < length runs → IsRisingFrom low runs → low ≤ last_end 0 runs
    first_last low [] some rising = absurd (omega arith)
    first_last low (run ∷ runs) some rising = omega (arith, rising.0, rising.1, last_end-rises run.end runs rising.2)
last_from low (block ∷ blocks) (suc j) d rising filled within =
    omega (
      arith,
      beyond_grows low block.items (rising_front low block.items (in_order blocks) rising),
      last_from (beyond low block.items) blocks j d (rising_rest low block.items (in_order blocks) rising)
          (All-tail (λ (block : Block). 0 < length block.items) block blocks filled) (omega arith),
    )

pub lasts_rise : (low : ℕ) (blocks : List Block) → IsRisingFrom low (in_order blocks) → All (λ block. 0 < length block.items) blocks
    → (i j : ℕ) (d : Block) → i ≤ j → j < length blocks → last_end 0 (get_or blocks i d).items ≤ last_end 0 (get_or blocks j d).items
lasts_rise low [] rising filled i j d le within = absurd (omega arith)
lasts_rise low (block ∷ blocks) rising filled zero zero d le within = omega arith
lasts_rise low (block ∷ blocks) rising filled zero (suc j) d le within =
    let some : 0 < length block.items = All-head (λ (block : Block). 0 < length block.items) block blocks filled in
    omega (
      arith,
      beyond_end low block.items some,
      last_from (beyond low block.items) blocks j d (rising_rest low block.items (in_order blocks) rising)
          (All-tail (λ (block : Block). 0 < length block.items) block blocks filled) (omega arith),
    )
lasts_rise low (block ∷ blocks) rising filled (suc i) zero d le within = absurd (omega arith)
lasts_rise low (block ∷ blocks) rising filled (suc i) (suc j) d le within =
    lasts_rise (beyond low block.items) blocks (rising_rest low block.items (in_order blocks) rising)
    (All-tail (λ (block : Block). 0 < length block.items) block blocks filled) i j d (omega arith) (omega arith)

pub rising_below : (below : List Block) (top : Block) → IsRisingFrom 0 (in_order (below ++ top ∷ [])) → IsRisingFrom 0 (in_order below)
rising_below below top rising = rising_front 0 (in_order below) top.items (subst (IsRisingFrom 0) (all_in_order below top) rising)

rising_take : (low : ℕ) (blocks : List Block) (number : ℕ) → IsRisingFrom low (in_order blocks) → IsRisingFrom low (in_order (take number blocks))
rising_take low blocks zero rising = tt
rising_take low [] (suc number) rising = tt
rising_take low (block ∷ blocks) (suc number) rising =
    rising_append low block.items (in_order (take number blocks)) (rising_front low block.items (in_order blocks) rising)
    (rising_take (beyond low block.items) blocks number (rising_rest low block.items (in_order blocks) rising))

-- ---- what a search finds

pub blocks_below_point : (blocks : List Block) (number offset : ℕ) → number ≤ length blocks
    → AllWithin (λ block. nat_lt (last_end 0 block.items) offset ≡ true) blocks 0 number → All (λ block. last_end 0 block.items < offset) (take number blocks)
blocks_below_point blocks number offset within holds =
    below_point (λ (block : Block). last_end 0 block.items < offset) (λ (block : Block). nat_lt (last_end 0 block.items) offset) blocks number
    (λ block e. ltb-true (last_end 0 block.items) offset e) within holds

pub blocks_above_point : (blocks : List Block) (number offset : ℕ)
    → AllWithin (λ block. nat_lt (last_end 0 block.items) offset ≡ false) blocks number (length blocks) → All (λ block. offset ≤ last_end 0 block.items) (drop number blocks)
blocks_above_point blocks number offset holds =
    above_point (λ (block : Block). offset ≤ last_end 0 block.items) (λ (block : Block). nat_lt (last_end 0 block.items) offset) blocks number
    (λ block e. ltb-false (last_end 0 block.items) offset e) holds

take_below : (below : List Block) (top : Block) (number : ℕ) → number ≤ length below → take number (below ++ top ∷ []) ≡ take number below
take_below below top number le = take-append-le number below (top ∷ []) le

pub found_below : (below : List Block) (top : Block) (number place offset : ℕ) → IsRisingFrom 0 (in_order (below ++ top ∷ []))
    → number ≤ length below → All (λ block. last_end 0 block.items < offset) (take number below)
    → place ≤ length (runs_at (below ++ top ∷ []) number)
    → All (λ run. run.end < offset) (take place (runs_at (below ++ top ∷ []) number))
    → All (λ run. run.end < offset) (take (place_of (below ++ top ∷ []) number place) (in_order (below ++ top ∷ [])))
found_below below top number place offset rising le ends within front =
    All-same (λ (run : Run). run.end < offset) _ _ (take_place (below ++ top ∷ []) number place (omega (arith, all_blocks below top)) within)
    (All-append (λ (run : Run). run.end < offset) (in_order (take number (below ++ top ∷ []))) (take place (runs_at (below ++ top ∷ []) number))
    (subst (λ (l : List Block). All (λ (run : Run). run.end < offset) (in_order l)) (sym (take_below below top number le))
    (blocks_end 0 offset (take number below) (rising_take 0 below number (rising_below below top rising)) ends))
    front)

-- after a block whose last run ends at or above the offset
behind_end : (low offset : ℕ) (below : List Block) (top : Block) (number : ℕ) → IsRisingFrom low (in_order (below ++ top ∷ []))
    → All (λ block. 0 < length block.items) below → number ≤ length below → All (λ block. offset ≤ last_end 0 block.items) (drop number below)
    → All (λ run. offset ≤ run.end) (in_order (drop (suc number) (below ++ top ∷ [])))
behind_end low offset [] top zero rising filled le ends = All-nil (λ (run : Run). offset ≤ run.end)
behind_end low offset [] top (suc number) rising filled le ends = absurd (omega arith)
behind_end low offset (block ∷ below) top zero rising filled le ends =
    let last : offset ≤ last_end 0 block.items = All-head (λ (block : Block). offset ≤ last_end 0 block.items) block below ends in
    let some : 0 < length block.items = All-head (λ (block : Block). 0 < length block.items) block below filled in
    ends_after (beyond low block.items) offset (in_order (below ++ top ∷ [])) (omega (arith, beyond_end low block.items some))
    (rising_rest low block.items (in_order (below ++ top ∷ [])) rising)
behind_end low offset (block ∷ below) top (suc number) rising filled le ends =
    behind_end (beyond low block.items) offset below top number (rising_rest low block.items (in_order (below ++ top ∷ [])) rising)
    (All-tail (λ (block : Block). 0 < length block.items) block below filled) (omega arith) ends

pub found_above : (below : List Block) (top : Block) (number place offset : ℕ) → IsRisingFrom 0 (in_order (below ++ top ∷ []))
    → All (λ block. 0 < length block.items) below
    → number ≤ length below → All (λ block. offset ≤ last_end 0 block.items) (drop number below)
    → place ≤ length (runs_at (below ++ top ∷ []) number)
    → All (λ run. offset ≤ run.end) (drop place (runs_at (below ++ top ∷ []) number))
    → All (λ run. offset ≤ run.end) (drop (place_of (below ++ top ∷ []) number place) (in_order (below ++ top ∷ [])))
found_above below top number place offset rising filled le ends within back =
    All-same (λ (run : Run). offset ≤ run.end) _ _ (drop_place (below ++ top ∷ []) number place (omega (arith, all_blocks below top)) within)
    (All-append (λ (run : Run). offset ≤ run.end) (drop place (runs_at (below ++ top ∷ []) number)) (in_order (drop (suc number) (below ++ top ∷ [])))
    back (behind_end 0 offset below top number rising filled le ends))

-- a block below the top one has a run that doesn't end below the offset
pub found_inside : (below : List Block) (top : Block) (number place offset : ℕ)
    → All (λ block. 0 < length block.items) below → number < length below → All (λ block. offset ≤ last_end 0 block.items) (drop number below)
    → place ≤ length (runs_at (below ++ top ∷ []) number)
    → All (λ run. run.end < offset) (take place (runs_at (below ++ top ∷ []) number))
    → place < length (runs_at (below ++ top ∷ []) number)
found_inside [] top number place offset filled less ends within front = absurd (omega arith)
found_inside (block ∷ below) top zero place offset filled less ends within front = ⊎_elim
    (λ (inside : place < length block.items). inside)
    (λ (past : length block.items ≤ place).
    let some : 0 < length block.items = All-head (λ (block : Block). 0 < length block.items) block below filled in
    let last : offset ≤ last_end 0 block.items = All-head (λ (block : Block). offset ≤ last_end 0 block.items) block below ends in
    let none : Run = record { start = 0; end = 0 } in
    let ended : (get_or block.items (length block.items - 1) none).end < offset =
    subst (λ (l : List Run). All (λ (run : Run). run.end < offset) l) (take_all place block.items past) front
    (length block.items - 1) none (omega arith) in
    absurd (omega (arith, ended, last_end-at 0 block.items none some)))
    (cases_lt place (length block.items))
found_inside (block ∷ below) top (suc number) place offset filled less ends within front =
    found_inside below top number place offset (All-tail (λ (block : Block). 0 < length block.items) block below filled) (omega arith) ends within front

-- ---- the next place

at_start : (blocks : List Block) → place_of blocks 0 0 ≡ 0
at_start [] = refl
at_start (block ∷ blocks) = refl

pub place_next : (blocks : List Block) (number place : ℕ) → number < length blocks → place ≡ length (runs_at blocks number)
    → place_of blocks (suc number) 0 ≡ place_of blocks number place
place_next [] number place within is = absurd (omega arith)
place_next (block ∷ blocks) zero place within is = omega (arith, at_start blocks)
place_next (block ∷ blocks) (suc number) place within is =
    ap (λ (n : ℕ). length block.items + n) (place_next blocks number place (omega arith) is)

-- the next place of a block
pub place_more : (blocks : List Block) (number place : ℕ) → place_of blocks number (place + 1) ≡ place_of blocks number place + 1
place_more blocks number place = omega (arith, place_add blocks number place, place_add blocks number (place + 1))

-- the run after the last one of a block is the first one of the next
pub place_over : (blocks : List Block) (number place : ℕ) → number < length blocks → place + 1 ≡ length (runs_at blocks number)
    → place_of blocks (number + 1) 0 ≡ place_of blocks number place + 1
place_over blocks number place within is =
    ap (λ (n : ℕ). place_of blocks n 0) (add-one number)
    ∙ place_next blocks number (place + 1) within is
    ∙ place_more blocks number place

-- a run of the last block is within it
pub inside_top : (blocks : List Block) (number place : ℕ) → number + 1 ≡ length blocks → place_of blocks number place < length (in_order blocks)
    → place < length (runs_at blocks number)
inside_top [] number place is less = absurd (omega arith)
inside_top (block ∷ []) zero place is less = omega (arith, length-append block.items [])
inside_top (block ∷ []) (suc number) place is less = absurd (omega arith)
inside_top (block ∷ next ∷ blocks) zero place is less = absurd (omega arith)
inside_top (block ∷ next ∷ blocks) (suc number) place is less =
    inside_top (next ∷ blocks) number place (omega arith) (omega (arith, length-append block.items (in_order (next ∷ blocks))))

pub filled_at : (below : List Block) (top : Block) (number : ℕ) → All (λ block. 0 < length block.items) below → number < length below
    → 0 < length (runs_at (below ++ top ∷ []) number)
filled_at [] top number filled within = absurd (omega arith)
filled_at (block ∷ below) top zero filled within = All-head (λ (block : Block). 0 < length block.items) block below filled
filled_at (block ∷ below) top (suc number) filled within =
    filled_at below top number (All-tail (λ (block : Block). 0 < length block.items) block below filled) (omega arith)

-- ---- runs that begin at or below an offset

starts_after : (low offset : ℕ) (runs : List Run) → offset < low → IsRisingFrom low runs → All (λ run. offset < run.start) runs
starts_after low offset [] less rising = All-nil (λ (run : Run). offset < run.start)
starts_after low offset (run ∷ runs) less rising =
    All-cons (λ (run : Run). offset < run.start) run runs (omega (arith, rising.0))
    (starts_after (run.end + 1) offset runs (omega (arith, rising.0, rising.1)) rising.2)

pub begun_at : (runs : List Run) (place offset : ℕ) → IsRisingFrom 0 runs → All (λ run. run.end < offset) (take place runs)
    → All (λ run. run.start ≤ offset) (take place runs)
begun_at runs place offset rising ended =
    begun_where_ended 0 offset (take place runs) (rising_take_runs runs place rising)
    (All-weaker (λ (run : Run). run.end < offset) (λ (run : Run). run.end < offset + 1) (λ run less. omega arith) (take place runs) ended)

pub begun_past : (runs : List Run) (place offset : ℕ) (run : Run) → IsRisingFrom 0 runs → All (λ run. run.end < offset) (take place runs)
    → Some run ≡ first_of (drop place runs) → run.start ≤ offset → All (λ run. run.start ≤ offset) (take (place + 1) runs)
begun_past runs place offset run rising ended is le =
    let here = first_is runs place run is in
    All-more (λ (run : Run). run.start ≤ offset) runs place run here.0 (begun_at runs place offset rising ended) (rw here.1 le)

pub above_past : (runs : List Run) (place offset : ℕ) (run : Run) → IsRisingFrom 0 runs → All (λ run. offset ≤ run.end) (drop place runs)
    → Some run ≡ first_of (drop place runs) → All (λ run. offset < run.start) (drop (place + 1) runs)
above_past runs place offset run rising reached is =
    let here = first_is runs place run is in
    let rest : drop place runs ≡ run ∷ drop (place + 1) runs =
    drop_more runs place run here.0 ∙ ap (λ (r : Run). r ∷ drop (place + 1) runs) here.1 in
    let end : offset ≤ run.end =
    All-head (λ (run : Run). offset ≤ run.end) run (drop (place + 1) runs) (subst (λ (l : List Run). All (λ (run : Run). offset ≤ run.end) l) rest reached) in
    let rises = subst (IsRisingFrom (beyond 0 (take place runs))) rest (rising_drop runs place rising) in
    starts_after (run.end + 1) offset (drop (place + 1) runs) (omega arith) rises.2

pub above_here : (runs : List Run) (place offset : ℕ) (run : Run) → IsRisingFrom 0 runs → Some run ≡ first_of (drop place runs) → offset < run.start
    → All (λ run. offset < run.start) (drop place runs)
above_here runs place offset run rising is less =
    let here = first_is runs place run is in
    let rest : drop place runs ≡ run ∷ drop (place + 1) runs =
    drop_more runs place run here.0 ∙ ap (λ (r : Run). r ∷ drop (place + 1) runs) here.1 in
    let rises = subst (IsRisingFrom (beyond 0 (take place runs))) rest (rising_drop runs place rising) in
    All-same (λ (run : Run). offset < run.start) _ _ rest
    (starts_after run.start offset (run ∷ drop (place + 1) runs) less (omega arith, rises.1, rises.2))

-- ---- a run that goes to its place

-- within one block, places rise with indices
pub same_block : (blocks : List Block) (number other place behind : ℕ) → number < length blocks → other ≤ number
    → (other < number → behind < length (runs_at blocks other)) → place_of blocks number place ≤ place_of blocks other behind
    → (other ≡ number) × (place ≤ behind)
same_block blocks number other place behind within le inside ordered = ⊎_elim
    (λ (less : other < number). absurd (omega (arith, place_grows blocks other number behind place less within (inside less))))
    (λ (ge : number ≤ other).
    let same : other ≡ number = omega arith in
    let here : place_of blocks other behind ≡ place_of blocks number behind = ap (λ (n : ℕ). place_of blocks n behind) same in
    (same, omega (arith, place_add blocks number place, place_add blocks number behind)))
    (cases_lt other number)

-- runs are cut out, and then some more, and one run takes their place
pub joined_runs : (runs cut : List Run) (run : Run) (front behind place : ℕ) → front ≤ length runs → cut ≡ take front runs ++ drop behind runs
    → take front cut ++ run ∷ drop (front + place) cut ≡ take front runs ++ run ∷ drop (behind + place) runs
joined_runs runs cut run front behind place within is =
    let size : length (take front runs) ≡ front = length-take-le front runs within in
    let first : take front cut ≡ take front runs = ap (take front) is ∙ take_at (take front runs) (drop behind runs) front size in
    let last : drop (front + place) cut ≡ drop (behind + place) runs =
    ap (drop (front + place)) is
    ∙ ap (λ (n : ℕ). drop (n + place) (take front runs ++ drop behind runs)) (sym size)
    ∙ drop-append-add (take front runs) (drop behind runs) place
    ∙ drop-drop place behind runs in
    ap (λ (l : List Run). l ++ run ∷ drop (front + place) cut) first ∙ ap (λ (l : List Run). take front runs ++ run ∷ l) last

-- ---- what a place has

pub first_at : (blocks : List Block) (number place : ℕ) (d : Run) → number < length blocks → place < length (runs_at blocks number)
    → Some (get_or (runs_at blocks number) place d) ≡ first_of (drop (place_of blocks number place) (in_order blocks))
first_at blocks number place d within inside =
    let rest : drop place (runs_at blocks number) ≡ get_or (runs_at blocks number) place d ∷ drop (place + 1) (runs_at blocks number) =
    drop_more (runs_at blocks number) place d inside in
    sym (ap first_of
    (drop_place blocks number place within (omega arith)
    ∙ ap (λ (l : List Run). l ++ in_order (drop (suc number) blocks)) rest))

pub none_at : (blocks : List Block) (number place : ℕ) → number + 1 ≡ length blocks → length (runs_at blocks number) ≤ place
    → place ≤ length (runs_at blocks number) → None ≡ first_of (drop (place_of blocks number place) (in_order blocks))
none_at blocks number place is past le =
    let last : suc number ≡ length blocks = omega arith in
    sym (ap first_of
    (drop_place blocks number place (omega arith) le
    ∙ ap (λ (l : List Run). l ++ in_order (drop (suc number) blocks)) (drop_all place (runs_at blocks number) past)
    ∙ ap in_order (drop_all (suc number) blocks (omega arith))))

-- ---- the end of the last run of blocks

last_end_onto : (start : ℕ) (xs ys : List Run) → 0 < length ys → last_end start (xs ++ ys) ≡ last_end 0 ys
last_end_onto start [] [] some = absurd (omega arith)
last_end_onto start [] (y ∷ ys) some = refl
last_end_onto start (x ∷ xs) ys some = last_end_onto x.end xs ys some

-- blocks that aren't empty end with the last run of the last one
pub last_of_blocks : (blocks : List Block) (d : Block) → 0 < length blocks → All (λ block. 0 < length block.items) blocks
    → last_end 0 (in_order blocks) ≡ last_end 0 (get_or blocks (length blocks - 1) d).items
last_of_blocks [] d some filled = absurd (omega arith)
last_of_blocks (block ∷ []) d some filled = ap (last_end 0) (append-nil block.items)
last_of_blocks (block ∷ next ∷ blocks) d some filled =
    let rest = All-tail (λ (block : Block). 0 < length block.items) block (next ∷ blocks) filled in
    let first : 0 < length next.items = All-head (λ (block : Block). 0 < length block.items) next blocks rest in
    let last : length (block ∷ next ∷ blocks) - 1 ≡ suc (length (next ∷ blocks) - 1) = omega arith in
    last_end_onto 0 block.items (in_order (next ∷ blocks)) (omega (arith, first, length-append next.items (in_order blocks)))
    ∙ last_of_blocks (next ∷ blocks) d (omega arith) rest
    ∙ ap (λ (n : ℕ). last_end 0 (get_or (block ∷ next ∷ blocks) n d).items) (sym last)

pub last_in_top : (below : List Block) (top : Block) → 0 < length top.items → last_end 0 (in_order (below ++ top ∷ [])) ≡ last_end 0 top.items
last_in_top below top some = ap (last_end 0) (all_in_order below top) ∙ last_end_onto 0 (in_order below) top.items some

pub last_in_below : (below : List Block) (top : Block) → length top.items ≡ 0 → last_end 0 (in_order (below ++ top ∷ [])) ≡ last_end 0 (in_order below)
last_in_below below top none =
    ap (last_end 0) (all_in_order below top ∙ ap (λ (l : List Run). in_order below ++ l) (nil_from_length top.items none) ∙ append-nil (in_order below))

-- ---- block by block

pub more_in_order : (blocks : List Block) (number : ℕ) (d : Block) (runs more : List Run) → number < length blocks → runs ≡ in_order (take number blocks)
    → more ≡ (get_or blocks number d).items → runs ++ more ≡ in_order (take (number + 1) blocks)
more_in_order blocks number d runs more within is block_is =
    ap (λ (l : List Run). l ++ more) is
    ∙ ap (λ (l : List Run). in_order (take number blocks) ++ l) (block_is ∙ sym (append-nil (get_or blocks number d).items))
    ∙ sym (flat_map-append (λ (block : Block). block.items) (take number blocks) (get_or blocks number d ∷ []))
    ∙ ap in_order (sym (take_more blocks number d within))

pub all_of_blocks : (below : List Block) (top : Block) (number : ℕ) (runs : List Run) → length below ≤ number → runs ≡ in_order (take number below)
    → runs ++ top.items ≡ in_order (below ++ top ∷ [])
all_of_blocks below top number runs past is =
    ap (λ (l : List Run). l ++ top.items) (is ∙ ap in_order (take_all number below past)) ∙ sym (all_in_order below top)

-- where there is one block, its runs are all
pub only_top : (below : List Block) (top : Block) → length below ≡ 0 → in_order (below ++ top ∷ []) ≡ top.items
only_top [] top none = append-nil top.items
only_top (block ∷ below) top none = absurd (omega arith)
