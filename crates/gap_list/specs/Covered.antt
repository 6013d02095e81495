-- Meaning. What a gap list covers.
use Rattle.std.specs.Prelude.{ℕ, Bool, List}
use Rattle.gap_list.specs.declared.run.Run.{Run}
use Rattle.gap_list.specs.Runs.{in_runs}

-- what contracts see of a gap list: its runs, which make up the set, and for how many more there is room
pub record GapsValue : Type 0 where
  pub runs : List Run
  pub room : ℕ

-- whether an offset is covered
unfoldable pub covered : GapsValue → ℕ → Bool
covered gaps offset = in_runs gaps.runs offset
