-- Meaning. What a disk was asked, and what it answered. A path leads from the disk's own folder down.
use Rattle.std.specs.Prelude.{ℕ, Bool, true, false, List, ◌∷◌, ◌==◌, Option, Result, Ok, Err, Vec}
use Rattle.std.specs.List.{before_last}
use Rattle.std.specs.Option.{option_map}
use Rattle.std.specs.declared.alloc.Global.{Global}
use Rattle.disk.specs.declared.device.Fault.{Fault}
use Rattle.disk.specs.declared.device.Fault.TheVariants.{Exists, MayPass, Failed}

-- a slash
abbrev pub is_slash : ℕ → Bool
is_slash octet = octet == 47

-- the folder of a path: the part before its last slash, or nothing, which is the disk's own folder
abbrev pub folder_of : List ℕ → List ℕ
folder_of path = before_last is_slash path

-- A new file under a path, which is the open file from then on; octets appended to the open file; a flush of the open
-- file; a file under another path; one file under two paths; a path removed; a new folder; a flush of a folder.
pub data Call : Type 0 where
  create : List ℕ → Call
  append : List ℕ → Call
  flush : Call
  rename : List ℕ → List ℕ → Call
  link : List ℕ → List ℕ → Call
  remove : List ℕ → Call
  make_folder : List ℕ → Call
  flush_folder : List ℕ → Call

-- a call that was answered; a call that failed, and may have happened or not; a call that was refused because the path
-- is taken, and did nothing; a read of a path, which found no file or these octets; a look that found a folder; a power
-- cut
pub data Step : Type 0 where
  did : Call → Step
  tried : Call → Step
  refused : Call → Step
  saw : List ℕ → Option (List ℕ) → Step
  saw_folder : List ℕ → Step
  cut : Step

-- a call with this answer
abbrev pub step_of : {T : Type 0} → Result T Fault → Call → Step
step_of (Ok _) call = did call
step_of (Err Exists) call = refused call
step_of (Err MayPass) call = tried call
step_of (Err Failed) call = tried call

-- the steps after a read with this answer
abbrev pub read_by : Result (Option (Vec ℕ Global)) Fault → List ℕ → List Step → List Step
read_by (Ok found) path earlier = saw path (option_map (λ octets. octets.items) found) ∷ earlier
read_by (Err _) path earlier = earlier

-- the steps after a look for a folder with this answer
abbrev pub looked_by : Result Bool Fault → List ℕ → List Step → List Step
looked_by (Ok true) path earlier = saw_folder path ∷ earlier
looked_by (Ok false) path earlier = earlier
looked_by (Err _) path earlier = earlier
