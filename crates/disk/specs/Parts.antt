-- Of the code. What is known of a disk while a file is stored: where the open file is, and which octets it has.
use Rattle.std.specs.Prelude.{◌≡◌, ◌≢◌, ℕ, List}
use Rattle.disk.specs.Steps.{Step}
use Rattle.disk.specs.Crash.{Content, Entry, state, left}
use Rattle.disk.specs.Crash.Content.{flushed}
use Rattle.disk.specs.Crash.Entry.{open_file}

-- the open file has this content, and is under this path alone
pub record IsOpen (part : List ℕ) (content : Content) (steps : List Step) : Type 0 where
  pub file : (state steps).file ≡ content
  pub sole : (entry : Entry) → (state steps).has part entry → entry ≡ open_file
  pub there : (state steps).has part open_file
  pub alone : (path : List ℕ) → path ≢ part → left (state steps) path open_file → ⊥

-- the open file has these octets, flushed, and a path stands for it, whose folder can be flushed
pub record IsNamed (name octets : List ℕ) (steps : List Step) : Type 0 where
  pub file : (state steps).file ≡ flushed octets
  pub sole : (entry : Entry) → (state steps).has name entry → entry ≡ open_file
  pub there : (state steps).has name open_file
  pub sure : ¬ ((state steps).doubted name)

-- the open file has this content, and is under this name alone, but for the part that it was, whatever a cut leaves
pub record IsKept (part name : List ℕ) (content : Content) (steps : List Step) : Type 0 where
  pub file : (state steps).file ≡ content
  pub only : (entry : Entry) → left (state steps) name entry → entry ≡ open_file
  pub there : (state steps).has name open_file
  pub alone : (path : List ℕ) → path ≢ part → path ≢ name → left (state steps) path open_file → ⊥
