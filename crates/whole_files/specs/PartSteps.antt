-- Of the code. How a file is stored over a part, by what the disk was asked.
use Rattle.std.specs.Prelude.{◌≡◌, ◌⊎◌, ℕ, List, ◌∷◌, ◌++◌, map, Option}
use Rattle.disk.specs.Steps.{Call, Step}
use Rattle.disk.specs.Steps.Call.{create, remove, rename}
use Rattle.disk.specs.Steps.Step.{did, tried, refused}
use Rattle.disk.specs.Promise.{Changes, Is, NothingNew, Whole}
use Rattle.whole_files.specs.Wholes.{IsPartOf}

-- some calls were refused, and nothing else was asked
pub record OnlyRefused (before now : List Step) : Type 0 where
  pub calls : List Call
  pub steps : now ≡ map refused calls ++ before

-- a part was made as a new file; whatever was asked before was refused
pub record MadeNew (path part : List ℕ) (before now : List Step) : Type 0 where
  pub is_part : IsPartOf path part
  pub tries : List Step
  pub refusals : OnlyRefused before tries
  pub steps : now ≡ did (create part) ∷ tries

-- the last call was to make a part, and failed
pub record FailedToMake (path : List ℕ) (earlier now : List Step) : Type 0 where
  pub part : List ℕ
  pub is_part : IsPartOf path part
  pub steps : now ≡ tried (create part) ∷ earlier

-- no part was made: whatever was asked was refused, but for a last call that failed to make one
pub record MadeNone (path : List ℕ) (before now : List Step) : Type 0 where
  pub tries : List Step
  pub refusals : OnlyRefused before tries
  pub steps : (now ≡ tries) ⊎ FailedToMake path tries now

-- a part was made as a new file, and from then on it alone changes, but for what is new
pub record Began (path part : List ℕ) (IsNew : List ℕ → Option (List ℕ) → Type 0) (before now : List Step) : Type 0 where
  pub made : List Step
  pub is_new : MadeNew path part before made
  pub changes : Changes (Is part) IsNew made now

-- a step is a call with some answer
abbrev pub IsAnswered : Call → Step → Type 0
IsAnswered call step = (step ≡ did call) ⊎ ((step ≡ tried call) ⊎ (step ≡ refused call))

-- one call was asked, with some answer
pub record Asks (call : Call) (before now : List Step) : Type 0 where
  pub step : Step
  pub answered : IsAnswered call step
  pub steps : now ≡ step ∷ before

-- the last step removes a path, or tried to
pub record TakesAway (path : List ℕ) (now : List Step) : Type 0 where
  pub earlier : List Step
  pub removal : Asks (remove path) earlier now

-- the last step but one gave the part a path
pub record Named (part path : List ℕ) (now : List Step) : Type 0 where
  pub earlier : List Step
  pub last : Step
  pub steps : now ≡ last ∷ did (rename part path) ∷ earlier

-- so no part is left, unless it couldn't be taken away
abbrev pub NoneLeft : List ℕ → List ℕ → List Step → Type 0
NoneLeft part path now = Named part path now ⊎ TakesAway part now

-- a part was made, and nothing else changed; the last step removes it, or tried to
pub record GivenUp (path : List ℕ) (before now : List Step) : Type 0 where
  pub part : List ℕ
  pub began : Began path part NothingNew before now
  pub away : TakesAway part now

-- a part was made, and nothing else changed, but that the whole file may be at its path; no part is left
pub record OverPart (path octets : List ℕ) (before now : List Step) : Type 0 where
  pub part : List ℕ
  pub began : Began path part (Whole path octets) before now
  pub none_left : NoneLeft part path now

-- a file is stored under a path over a part, in place of the one there; without a part nothing changes
abbrev pub Replaces : List ℕ → List ℕ → List Step → List Step → Type 0
Replaces path octets before now = MadeNone path before now ⊎ OverPart path octets before now
