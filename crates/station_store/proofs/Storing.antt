-- A file is stored once its folders are reached.
use Rattle.std.proofs.Common.{inl, inr, ⊎_elim, ℕ, List, Option, Some, None, Result, Ok, Err, IfOk, OnErr, refl}
use Rattle.disk.specs.Steps.{Step}
use Rattle.disk.specs.Crash.{state}
use Rattle.disk.specs.Promise.{Is, IsReached, NoPath, NothingNew, Unchanged, Whole, WholeOrGone}
use Rattle.disk.proofs.Moments.{nothing_yet}
use Rattle.whole_files.specs.PartSteps.{MadeNone, Replaces}
use Rattle.whole_files.specs.Links.{BesidePart, Keeps}
use Rattle.whole_files.specs.Wholes.{IsCopyOf}
use Rattle.whole_files.proofs.Copies.{on_copy}
use Rattle.whole_files.proofs.PartFacts.{IsLater, began_later, later_by, later_then, none_later, none_made, none_tried, still_reached}
use Rattle.station_store.specs.declared.settings.Clash.{Clash}
use Rattle.station_store.specs.declared.settings.Clash.TheVariants.{Replace, Keep}
use Rattle.station_store.specs.Paths.{Stores, StoresBy}

-- ---- nothing is stored

none_made_yet : (path : List ℕ) (now : List Step) → MadeNone path now now
none_made_yet path now = none_made path now now (none_tried now now refl)

pub none_stored_by : (clash : Clash) (path octets : List ℕ) (now : List Step) → StoresBy clash path octets None now now
none_stored_by Replace path octets now = inl (none_made_yet path now)
none_stored_by Keep path octets now = inl (none_made_yet path now)

pub nothing_stored : (clash : Clash) (path octets : List ℕ) (before now : List Step) → Unchanged before now → Stores clash path octets None before now
nothing_stored clash path octets before now same = record { reached = now; folders = same; stores = none_stored_by clash path octets now }

pub none_stored : (clash : Clash) (path octets : List ℕ) (now : List Step) → Stores clash path octets None now now
none_stored clash path octets now = nothing_stored clash path octets now now (nothing_yet NoPath NothingNew now)

-- ---- a file is stored behind its folders

module _ (clash : Clash) (path octets : List ℕ) (before mid now : List Step) (same : Unchanged before mid) {X E : Type 0} where
  pub then_kept : (text : X → List ℕ) (answer : Result X E) → IfOk answer (λ place. StoresBy clash path octets (Some (text place)) mid now) → IfOk answer (λ place. Stores clash path octets (Some (text place)) before now)
  then_kept text (Ok place) stores = record { reached = mid; folders = same; stores = stores }
  then_kept text (Err fault) stores = tt

  pub then_not_kept : (answer : Result X E) → OnErr answer (StoresBy clash path octets None mid now) → OnErr answer (Stores clash path octets None before now)
  then_not_kept (Ok place) stores = tt
  then_not_kept (Err fault) stores = record { reached = mid; folders = same; stores = stores }

-- ---- folders stay reached

module _ (path octets : List ℕ) (before now : List Step) where
  replaces_later : Replaces path octets before now → IsLater before now
  replaces_later stores = ⊎_elim (λ none. none_later path before now none) (λ over. began_later path over.part (Whole path octets) before now over.began) stores

  beside_later : (place : Option (List ℕ)) → BesidePart path octets place before now → IsLater before now
  beside_later place beside = later_then before beside.filled now (began_later path beside.part NothingNew before beside.filled beside.began) (later_by (Is beside.part) (WholeOrGone (IsCopyOf path) octets) beside.filled now beside.changes)

  keeps_later : (place : Option (List ℕ)) → Keeps path octets place before now → IsLater before now
  keeps_later (Some place) beside = beside_later (Some place) beside
  keeps_later None (inl none) = none_later path before now none
  keeps_later None (inr (inl given)) = began_later path given.part NothingNew before now given.began
  keeps_later None (inr (inr beside)) = beside_later None beside

  by_later : (clash : Clash) (place : Option (List ℕ)) → StoresBy clash path octets place before now → IsLater before now
  by_later Replace place stores = replaces_later stores
  by_later Keep place stores = keeps_later place stores

module _ (clash : Clash) (path octets : List ℕ) (place : Option (List ℕ)) (before now : List Step) where
  pub still_reached_by : (other : List ℕ) → StoresBy clash path octets place before now → IsReached before other → IsReached now other
  still_reached_by other stores reached = still_reached before now other (by_later path octets before now clash place stores) reached

  pub reached_stored : (other : List ℕ) → Stores clash path octets place before now → IsReached before other → IsReached now other
  reached_stored other stores reached = still_reached before now other
      (later_then before stores.reached now (later_by NoPath NothingNew before stores.reached stores.folders) (by_later path octets stores.reached now clash place stores.stores)) reached

-- a copy's folders are those of its path
pub copy_reached : {X E : Type 0} (text : X → List ℕ) (answer : Result X E) (path octets : List ℕ) (before now : List Step) → IsReached before path
    → IfOk answer (λ place. Keeps path octets (Some (text place)) before now) → IfOk answer (λ place. IsCopyOf path (text place)) → IfOk answer (λ place. IsReached now (text place))
copy_reached text (Ok place) path octets before now reached keeps copy = on_copy (state now).stays path (text place) copy (still_reached_by Keep path octets (Some (text place)) before now path keeps reached)
copy_reached text (Err fault) path octets before now reached keeps copy = tt
