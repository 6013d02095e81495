-- Of the code. Runs in blocks, as one list.
use Rattle.std.specs.Prelude.{ℕ, zero, suc, ◌+◌, ◌-◌, ◌<◌, ◌≤◌, List, [], ◌∷◌, ◌++◌, length, take, drop, Option, Some, None, Vec, vec_len, vec_capacity}
use Rattle.std.specs.List.{All, flat_map}
use Rattle.std.specs.declared.alloc.Global.{Global}
use Rattle.gap_list.specs.declared.run.Run.{Run}
use Rattle.gap_list.specs.declared.blocks.Blocks.{Blocks}
use Rattle.gap_list.specs.declared.blocks.Spot.{Spot}

-- a block
abbrev pub Block : Type 0
Block = Vec Run Global

-- the runs of blocks, one block after the other
abbrev pub in_order : List Block → List Run
in_order blocks = flat_map (λ block. block.items) blocks

-- the runs of one block
abbrev pub runs_at : List Block → ℕ → List Run
runs_at [] number = []
runs_at (block ∷ blocks) zero = block.items
runs_at (block ∷ blocks) (suc number) = runs_at blocks number

-- how many runs are before a place of a block
abbrev pub place_of : List Block → ℕ → ℕ → ℕ
place_of [] number place = place
place_of (block ∷ blocks) zero place = place
place_of (block ∷ blocks) (suc number) place = length block.items + place_of blocks number place

-- all blocks, from the lowest up
abbrev pub blocks_of : Blocks → List Block
blocks_of runs = runs.below.items ++ runs.top ∷ []

-- all runs
abbrev pub all_runs : Blocks → List Run
all_runs runs = in_order (blocks_of runs)

-- how many runs are before a spot
abbrev pub index_of : Blocks → Spot → ℕ
index_of runs spot = place_of (blocks_of runs) spot.block spot.place

-- for how many more runs a block has room
abbrev pub spare : Block → ℕ
spare block = vec_capacity block - vec_len block

-- no block below the top one is empty, and all blocks but the one that was changed last have room for one more run
pub record IsKept (runs : Blocks) : Type 0 where
  pub number : runs.changed ≤ length runs.below.items
  pub filled : All (λ block. 0 < length block.items) runs.below.items
  pub before : All (λ block. 0 < spare block) (take runs.changed (blocks_of runs))
  pub behind : All (λ block. 0 < spare block) (drop (suc runs.changed) (blocks_of runs))
  pub room : All (λ block. runs.room ≤ spare block) (blocks_of runs)

-- a run's spot, or that behind the last run
pub record IsSpot (runs : Blocks) (spot : Spot) : Type 0 where
  pub block : spot.block ≤ length runs.below.items
  pub place : spot.place ≤ length (runs_at (blocks_of runs) spot.block)
  pub inside : spot.block < length runs.below.items → spot.place < length (runs_at (blocks_of runs) spot.block)

-- the first of some runs
abbrev pub first_of : List Run → Option Run
first_of [] = None
first_of (run ∷ runs) = Some run
