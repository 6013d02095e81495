-- Of the code. How a file is kept beside others: its part is linked to the first copy of its path that is free.
use Rattle.std.specs.Prelude.{◌≡◌, ◌⊎◌, ℕ, zero, suc, ◌≤◌, List, ◌∷◌, Option, Some, None}
use Rattle.disk.specs.Steps.{Step, folder_of}
use Rattle.disk.specs.Steps.Call.{flush_folder, link, remove}
use Rattle.disk.specs.Steps.Step.{did, tried, refused}
use Rattle.disk.specs.Promise.{Changes, Is, NothingNew, WholeOrGone}
use Rattle.whole_files.specs.PartSteps.{Asks, Began, GivenUp, MadeNone}
use Rattle.whole_files.specs.Wholes.{numbered, IsCopyOf}

-- after links to this many copies, which were all refused
abbrev pub refusals : List ℕ → List ℕ → ℕ → List Step → List Step
refusals part path zero before = before
refusals part path (suc copies) before = refused (link part (numbered path copies)) ∷ refusals part path copies before

-- a copy was linked, and the links to all before it were refused
pub record LinkedFirst (part path place : List ℕ) (before now : List Step) : Type 0 where
  pub copy : ℕ
  pub few : copy ≤ 9999
  pub is_place : place ≡ numbered path copy
  pub steps : now ≡ did (link part place) ∷ refusals part path copy before

-- no copy was linked: the links were refused, but for a last that failed
pub record LinkedNone (part path : List ℕ) (before now : List Step) : Type 0 where
  pub copy : ℕ
  pub steps : (now ≡ refusals part path copy before) ⊎ (now ≡ tried (link part (numbered path copy)) ∷ refusals part path copy before)

-- no copy was linked, and then the part was removed, or the removal failed
pub record NotLinked (part path : List ℕ) (filled now : List Step) : Type 0 where
  pub linked : List Step
  pub none : LinkedNone part path filled linked
  pub removal : Asks (remove part) linked now

-- a copy was linked, and then the part was removed, or the removal failed
pub record Linked (part path place : List ℕ) (filled now : List Step) : Type 0 where
  pub linked : List Step
  pub first : LinkedFirst part path place filled linked
  pub removal : Asks (remove part) linked now

-- the folder of a path was flushed, or that failed, and then the path was removed, or that failed
pub record TakenBack (place : List ℕ) (before now : List Step) : Type 0 where
  pub flushed : List Step
  pub flush : Asks (flush_folder (folder_of place)) before flushed
  pub back : Asks (remove place) flushed now

-- a copy was linked, and its folder flushed
pub record KeptAt (part path place : List ℕ) (filled now : List Step) : Type 0 where
  pub gone : List Step
  pub linked : Linked part path place filled gone
  pub steps : now ≡ did (flush_folder (folder_of place)) ∷ gone

-- a copy was linked, and removed again
pub record NotSettled (part path : List ℕ) (filled now : List Step) : Type 0 where
  pub place : List ℕ
  pub gone : List Step
  pub linked : Linked part path place filled gone
  pub back : TakenBack place gone now

-- what becomes of a part that was filled: a file is kept here, or nowhere
abbrev pub Ends : List ℕ → List ℕ → Option (List ℕ) → List Step → List Step → Type 0
Ends part path (Some place) filled now = KeptAt part path place filled now
Ends part path None filled now = NotLinked part path filled now ⊎ NotSettled part path filled now

-- a part was made and filled, and nothing else changed; then nothing else changes, but that the whole file may be at a
-- copy's path, or nothing there
pub record BesidePart (path octets : List ℕ) (kept : Option (List ℕ)) (before now : List Step) : Type 0 where
  pub part : List ℕ
  pub filled : List Step
  pub began : Began path part NothingNew before filled
  pub changes : Changes (Is part) (WholeOrGone (IsCopyOf path) octets) filled now
  pub ends : Ends part path kept filled now

-- a file is kept here, or nowhere, beside those that are there; without a part nothing changes
abbrev pub Keeps : List ℕ → List ℕ → Option (List ℕ) → List Step → List Step → Type 0
Keeps path octets (Some place) before now = BesidePart path octets (Some place) before now
Keeps path octets None before now = MadeNone path before now ⊎ (GivenUp path before now ⊎ BesidePart path octets None before now)
