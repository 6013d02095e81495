-- Meaning. The folders on a path, the paths of copies, and the path of a part.
use Rattle.std.specs.Prelude.{◌≡◌, ◌≤◌, ◌==◌, ℕ, List, ◌++◌, length, slice_index, take, codes, decimal, Option, Some, None, if◌then◌else◌}
use Rattle.disk.specs.Steps.{folder_of, is_slash}

-- the folder on a file's path whose name ends before the slash at a place, if there is a slash
abbrev pub folder_at : List ℕ → ℕ → Option (List ℕ)
folder_at path place = if is_slash (slice_index path place) then Some (take place path) else None

-- the path of a copy: for copy 0 the path itself, otherwise the path with a dot and the number appended
abbrev pub numbered : List ℕ → ℕ → List ℕ
numbered path copy = if copy == 0 then path else path ++ codes "." ++ decimal copy

-- the path itself, or one with a number up to 9999 appended
pub record IsCopyOf (path place : List ℕ) : Type 0 where
  pub copy : ℕ
  pub few : copy ≤ 9999
  pub numbered_path : place ≡ numbered path copy

-- the path of a part in a folder; the empty path is the disk's own folder
abbrev pub part_path : List ℕ → ℕ → List ℕ
part_path folder number = if length folder == 0 then codes ".part-" ++ decimal number else folder ++ codes "/.part-" ++ decimal number

-- a part for a file at a path: it is in the file's folder, and has neither the path nor that of a copy
pub record IsPartOf (path part : List ℕ) : Type 0 where
  pub number : ℕ
  pub beside : part ≡ part_path (folder_of path) number
  pub apart : ¬ (IsCopyOf path part)
