-- Meaning. What a store has ready, and the effect of its calls.
use Rattle.std.specs.Prelude.{◌≡◌, ◌⊎◌, ◌↔◌, ℕ, Bool, ◌&&◌, if◌then◌else◌, List, Option, Some, None, MatchOption, Result, Ok, Err, OnOk, OnErr, IfSome}
use Rattle.std.specs.Str.{bytes_eq}
use Rattle.disk.specs.declared.device.Fault.{Fault}
use Rattle.disk.specs.declared.device.Fault.TheVariants as fault
use Rattle.disk.specs.Steps.{Step}
use Rattle.disk.specs.Promise.{HoldsAfterCut, IsReached}
use Rattle.file_stores.specs.declared.filestore.StoreFault.{StoreFault}
use Rattle.file_stores.specs.declared.filestore.StoreFault.TheVariants.{BadName, Failed}
use Rattle.station_store.specs.declared.settings.Layout.{Layout}
use Rattle.station_store.specs.declared.settings.Clash.{Clash}
use Rattle.station_store.specs.declared.prepared.Prepared.{Prepared}
use Rattle.station_store.specs.declared.prepared.Prepared.TheVariants.{Ready, Later}
use Rattle.station_store.specs.Paths.{IsTaken, IsPlaceFor, Stores, path_of}

-- a file that was tried and not yet deposited: its name, its octets, and the path under which it was kept, or none
-- where it can't be kept
pub record ReadyFile : Type 0 where
  pub name : List ℕ
  pub octets : List ℕ
  pub place : Option (List ℕ)

-- a store: its settings, what its disk was asked, the deposits tried and failed, the path of the last that succeeded,
-- why the last file that was tried isn't kept, and the file that is ready
pub record StationValue : Type 0 where
  pub layout : Layout
  pub clash : Clash
  pub done : List Step
  pub calls : ℕ
  pub failures : ℕ
  pub stored_as : List ℕ
  pub fault : Option Fault
  pub ready : Option ReadyFile

-- whether the file that is ready has this name and these octets
abbrev pub is_for : List ℕ → List ℕ → ReadyFile → Bool
is_for name octets file = bytes_eq file.name name && bytes_eq file.octets octets

-- where the file that is ready was kept, if it has this name and these octets
abbrev pub ready_place : Option ReadyFile → List ℕ → List ℕ → Option (Option (List ℕ))
ready_place None name octets = None
ready_place (Some file) name octets = if is_for name octets file then Some file.place else None

-- a file was kept here, and stays: it is where a file with its name may be, with its octets
pub record IsKept (layout : Layout) (clash : Clash) (done : List Step) (name octets place : List ℕ) : Type 0 where
  pub of_name : IsPlaceFor clash (path_of layout name) place
  pub holds : HoldsAfterCut done place octets
  pub reached : IsReached done place

-- the file that is ready has a valid name, and where it was kept it stays
abbrev pub IsReadyFor : Layout → Clash → List Step → Option ReadyFile → Type 0
IsReadyFor layout clash done ready =
    IfSome ready (λ file. IsTaken layout file.name × IfSome file.place (λ place. IsKept layout clash done file.name file.octets place))

-- the answer of a file that was ready: where it was kept, or that it can't be
abbrev pub AnswersReady : Option (List ℕ) → Result (Unit {0}) StoreFault → List ℕ → Type 0
AnswersReady None result stored_as = result ≡ Err Failed
AnswersReady (Some place) result stored_as = (result ≡ Ok tt) × (stored_as ≡ place)

-- where a file was kept by its deposit
abbrev pub kept_as : Result (Unit {0}) StoreFault → List ℕ → Option (List ℕ)
kept_as (Ok _) stored_as = Some stored_as
kept_as (Err _) stored_as = None

-- a deposit fails with BadName exactly at a bad name; a kept file is under a path of its name, and is found there with
-- these octets after a power cut; a file that is ready answers at once, and is used up; any other is stored now
pub record StationDeposits (before : StationValue) (name octets : List ℕ) (result : Result (Unit {0}) StoreFault) (after : StationValue) : Type 0 where
  pub bad_name : (result ≡ Err BadName) ↔ ¬ (IsTaken before.layout name)
  pub ok : OnOk result (IsTaken before.layout name × IsPlaceFor before.clash (path_of before.layout name) after.stored_as)
  pub holds : OnOk result (HoldsAfterCut after.done after.stored_as octets)
  pub stores : ready_place before.ready name octets ≡ None → Stores before.clash (path_of before.layout name) octets (kept_as result after.stored_as) before.done after.done
  pub failed : OnErr result (after.stored_as ≡ before.stored_as)
  pub was_ready : IfSome (ready_place before.ready name octets) (λ place. AnswersReady place result after.stored_as × (after.done ≡ before.done))
  pub no_fault : OnOk result (after.fault ≡ None)
  pub used_up : after.ready ≡ None
  pub untouched : ¬ (IsTaken before.layout name) → after.done ≡ before.done
  pub settings : (after.layout ≡ before.layout) × (after.clash ≡ before.clash)

-- a fault that won't pass
abbrev pub IsFinal : Option Fault → Type 0
IsFinal reason = (reason ≡ Some fault.Exists) ⊎ (reason ≡ Some fault.Failed)

-- after a try that answered Ready: none is ready at a bad name; else it is this file, which is kept or can't be
abbrev pub IsTried : StationValue → List ℕ → List ℕ → StationValue → Type 0
IsTried before name octets after =
    MatchOption after.ready (¬ (IsTaken before.layout name) × (after.fault ≡ None))
    (λ file. IsTaken before.layout name × (file.name ≡ name) × (file.octets ≡ octets)
    × MatchOption file.place (IsFinal after.fault) (λ place. (after.fault ≡ None) × IsKept before.layout before.clash after.done name octets place))

-- the answer to a try: Later just where a valid name's file isn't kept for a fault that may pass
abbrev pub IsAnswer : StationValue → List ℕ → List ℕ → Prepared → StationValue → Type 0
IsAnswer before name octets Later after = IsTaken before.layout name × (after.ready ≡ None) × (after.fault ≡ Some fault.MayPass)
IsAnswer before name octets Ready after = IsTried before name octets after

-- where the file that is ready was kept, if it can be
abbrev pub place_of : Option ReadyFile → Option (List ℕ)
place_of None = None
place_of (Some file) = file.place

-- a try: its answer, and how the file is stored
pub record Prepares (before : StationValue) (name octets : List ℕ) (result : Prepared) (after : StationValue) : Type 0 where
  pub answer : IsAnswer before name octets result after
  pub untouched : ¬ (IsTaken before.layout name) → after.done ≡ before.done
  pub stores : Stores before.clash (path_of before.layout name) octets (place_of after.ready) before.done after.done
