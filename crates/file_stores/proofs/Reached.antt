-- A valid name has no folder on its path, so that it is reached; and what is stored where nothing is asked.
use Rattle.std.proofs.Common.{◌≡◌, inl, ℕ, Bool, true, false, not, ◌&&◌, List, refl}
use Rattle.disk.specs.Steps.{Step}
use Rattle.disk.specs.Crash.{state}
use Rattle.disk.specs.Promise.{IsReached}
use Rattle.disk.proofs.Reach.{plain_reached}
use Rattle.whole_files.specs.PartSteps.{Replaces}
use Rattle.whole_files.proofs.PartFacts.{none_made, none_tried}
use Rattle.file_stores.specs.Names.{IsFileName}

last_of : (a b c d : Bool) → (not a && not b && not c && not d) ≡ true → d ≡ false
last_of a b c false all = refl
last_of true b c true all = absurd cc
last_of false true c true all = absurd cc
last_of false false true true all = absurd cc
last_of false false false true all = absurd cc

pub name_reached : (name : List ℕ) (steps : List Step) → IsFileName name → IsReached steps name
name_reached name steps is = plain_reached (state steps).stays name (last_of _ _ _ _ is.plain)

pub none_stored : (name octets : List ℕ) (now : List Step) → Replaces name octets now now
none_stored name octets now = inl (none_made name now now (none_tried now now refl))
