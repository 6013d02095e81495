-- Meaning. A file that holds after a power cut stays, until a later step names its path.
use Rattle.std.specs.Prelude.{◌≡◌, ◌≢◌, ℕ, List, [], ◌∷◌, ◌++◌, Option, Some}
use Rattle.disk.specs.Steps.{Call, Step}
use Rattle.disk.specs.Steps.Call.{create, append, flush, rename, link, remove}
use Rattle.disk.specs.Steps.Step.{did, tried, cut}
use Rattle.disk.specs.Crash.{MayFind}
use Rattle.disk.specs.Promise.{HoldsAfterCut}

-- a call names another path; where nothing is open, one that writes names none
abbrev pub NamesOther : List ℕ → Call → Type 0
NamesOther path (create other) = path ≢ other
NamesOther path (rename from to) = (path ≢ from) × (path ≢ to)
NamesOther path (link from to) = path ≢ to
NamesOther path (remove other) = path ≢ other
NamesOther path _ = Unit {0}

-- since then a new file was opened, or nothing is
abbrev pub IsShut : List Step → Type 0
IsShut [] = ⊥
IsShut (did (create path) ∷ more) = Unit {0}
IsShut (tried (create path) ∷ more) = Unit {0}
IsShut (cut ∷ more) = Unit {0}
IsShut (step ∷ more) = IsShut more

-- a call writes to the open file
abbrev pub Writes : Call → Type 0
Writes (append octets) = Unit {0}
Writes flush = Unit {0}
Writes _ = ⊥

-- a step leaves the file of a path alone
abbrev pub Spares : List ℕ → Step → List Step → Type 0
Spares path (did call) more = NamesOther path call × (Writes call → IsShut more)
Spares path (tried call) more = NamesOther path call × (Writes call → IsShut more)
Spares path _ more = Unit {0}

-- all these steps do
abbrev pub AllSpare : List ℕ → List Step → Type 0
AllSpare path [] = Unit {0}
AllSpare path (step ∷ more) = Spares path step more × AllSpare path more

-- a file that holds stays, whatever else is stored, and whenever the power is cut
abbrev pub StaysKept : Type 0
StaysKept =
    (steps more : List Step) (path octets : List ℕ) → HoldsAfterCut steps path octets → AllSpare path more →
    (found : Option (List ℕ)) → MayFind (more ++ steps) path found → found ≡ Some octets
