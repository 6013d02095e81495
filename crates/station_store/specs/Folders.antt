-- Of the code. What is known of a folder after steps.
use Rattle.std.specs.Prelude.{ℕ, List}
use Rattle.disk.specs.Steps.{Step}
use Rattle.disk.specs.Crash.{state}

-- the folder is there
abbrev pub stands : List Step → List ℕ → Type 0
stands steps folder = (state steps).stands folder

-- the folder is there, and a power cut leaves it
abbrev pub stays : List Step → List ℕ → Type 0
stays steps folder = (state steps).stays folder
