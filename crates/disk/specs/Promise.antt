-- Meaning. What may be found under the paths of a disk, while a file is stored and from then on.
use Rattle.std.specs.Prelude.{◌≡◌, ◌⊎◌, ℕ, List, [], ◌∷◌, ◌++◌, Option, Some, None}
use Rattle.disk.specs.Steps.{Step}
use Rattle.disk.specs.Crash.{MayFind, OnPath, state}

-- whatever a power cut leaves, exactly these octets are found at the path
pub record HoldsAfterCut (steps : List Step) (path octets : List ℕ) : Type 0 where
  pub only : (found : Option (List ℕ)) → MayFind steps path found → found ≡ Some octets
  pub there : MayFind steps path (Some octets)

-- but for some paths, what may be found is what might be found before, or something new
abbrev pub OldOrNew : (List ℕ → Type 0) → (List ℕ → Option (List ℕ) → Type 0) → List Step → List Step → Type 0
OldOrNew IsPart IsNew before steps =
    (path : List ℕ) (found : Option (List ℕ)) → ¬ (IsPart path) → MayFind steps path found → MayFind before path found ⊎ IsNew path found

-- P at each moment from some steps on
abbrev pub AtEach : (List Step → Type 0) → List Step → List Step → Type 0
AtEach P [] before = P before
AtEach P (step ∷ more) before = P (step ∷ more ++ before) × AtEach P more before

-- P at each moment between two
pub record AtEachMoment (P : List Step → Type 0) (before now : List Step) : Type 0 where
  pub more : List Step
  pub steps : now ≡ more ++ before
  pub each : AtEach P more before

-- at each moment: but for some paths, what might be found before, or something new
pub record Changes (IsPart : List ℕ → Type 0) (IsNew : List ℕ → Option (List ℕ) → Type 0) (before now : List Step) : Type 0 where
  pub moments : AtEachMoment (OldOrNew IsPart IsNew before) before now

-- this path alone
abbrev pub Is : List ℕ → List ℕ → Type 0
Is one path = path ≡ one

-- no path
abbrev pub NoPath : List ℕ → Type 0
NoPath path = ⊥

-- nothing new
abbrev pub NothingNew : List ℕ → Option (List ℕ) → Type 0
NothingNew path found = ⊥

-- nothing else may be found at any path
abbrev pub Unchanged : List Step → List Step → Type 0
Unchanged before now = Changes NoPath NothingNew before now

-- the whole of these octets, under this path
abbrev pub Whole : List ℕ → List ℕ → List ℕ → Option (List ℕ) → Type 0
Whole name octets path found = (path ≡ name) × (found ≡ Some octets)

-- the whole of these octets under a name, or nothing there
abbrev pub WholeOrGone : (List ℕ → Type 0) → List ℕ → List ℕ → Option (List ℕ) → Type 0
WholeOrGone IsName octets path found = IsName path × ((found ≡ Some octets) ⊎ (found ≡ None))

-- each folder on the path is there, and stays there
abbrev pub IsReached : List Step → List ℕ → Type 0
IsReached steps path = OnPath (state steps).stays path
