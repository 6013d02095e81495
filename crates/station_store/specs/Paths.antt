-- Meaning. The names that are valid in a store, the path below its folder for each, and how a file is stored there.
use Rattle.std.specs.Prelude.{◌≡◌, ◌≤◌, ℕ, IsTrue, IsUtf8, List, length, drop, Option}
use Rattle.std.specs.List.{list_all, slice_split, prefix_len}
use Rattle.disk.specs.Steps.{Step, is_slash}
use Rattle.disk.specs.Promise.{Unchanged}
use Rattle.file_stores.specs.Names.{is_plain_name, IsFileName}
use Rattle.whole_files.specs.Wholes.{IsCopyOf}
use Rattle.whole_files.specs.PartSteps.{Replaces}
use Rattle.whole_files.specs.Links.{Keeps}
use Rattle.station_store.specs.declared.settings.Layout.{Layout}
use Rattle.station_store.specs.declared.settings.Layout.TheVariants.{Flat, Tree}
use Rattle.station_store.specs.declared.settings.Clash.{Clash}
use Rattle.station_store.specs.declared.settings.Clash.TheVariants.{Replace, Keep}

-- the name without its leading slashes
abbrev pub relative : List ℕ → List ℕ
relative name = drop (prefix_len is_slash name) name

-- the parts of a path between its slashes: the folders, and last the file's own name
abbrev pub tree_parts : List ℕ → List (List ℕ)
tree_parts name = slice_split is_slash (relative name)

-- a name that leads to a file below a folder: it is text, each part is a valid name of a file or folder, and there are
-- at most eight folders
pub record IsTreeName (name : List ℕ) : Type 0 where
  pub parts : IsTrue (list_all is_plain_name (tree_parts name))
  pub few : length (tree_parts name) ≤ 9
  pub text : IsUtf8 (relative name)

-- the names that are valid in a layout
abbrev pub IsTaken : Layout → List ℕ → Type 0
IsTaken Flat name = IsFileName name
IsTaken Tree name = IsTreeName name

-- the path below the store's folder for a name
abbrev pub path_of : Layout → List ℕ → List ℕ
path_of Flat name = name
path_of Tree name = relative name

-- a file with this path may be kept under that place: the path itself, or also a numbered one
abbrev pub IsPlaceFor : Clash → List ℕ → List ℕ → Type 0
IsPlaceFor Replace path place = place ≡ path
IsPlaceFor Keep path place = IsCopyOf path place

-- how a file is stored under a path, and where it is kept, if it is: over the file there, or beside it
abbrev pub StoresBy : Clash → List ℕ → List ℕ → Option (List ℕ) → List Step → List Step → Type 0
StoresBy Replace path octets place before now = Replaces path octets before now
StoresBy Keep path octets place before now = Keeps path octets place before now

-- a file is stored: its folders are made or seen to be there, which changes no file, and then the file is stored
pub record Stores (clash : Clash) (path octets : List ℕ) (place : Option (List ℕ)) (before now : List Step) : Type 0 where
  pub reached : List Step
  pub folders : Unchanged before reached
  pub stores : StoresBy clash path octets place reached now
