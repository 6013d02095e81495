-- Meaning. A store with a folder for each source: what the plain store below it does.
use Rattle.std.specs.Prelude.{◌≡◌, ◌⊎◌, ℕ, ◌+◌, List, ◌++◌, Option, Some, None, Result, Err, codes, decimal}
use Rattle.cfdp_types.specs.declared.key.EntityId.{EntityId}
use Rattle.disk.specs.declared.device.Fault.{Fault}
use Rattle.disk.specs.declared.device.Fault.TheVariants as fault
use Rattle.file_stores.specs.declared.filestore.StoreFault.{StoreFault}
use Rattle.file_stores.specs.declared.filestore.StoreFault.TheVariants.{BadName, Failed}
use Rattle.station_store.specs.declared.prepared.Prepared.{Prepared}
use Rattle.station_store.specs.declared.prepared.Prepared.TheVariants.{Later, Ready}
use Rattle.station_store.specs.declared.settings.Layout.{Layout}
use Rattle.station_store.specs.Paths.{IsTaken, path_of}
use Rattle.station_store.specs.Stations.{Prepares, StationDeposits, StationValue}

-- the name of a file in the folder of its source
abbrev pub name_from : EntityId → List ℕ → List ℕ
name_from source path = decimal source.0 ++ (codes "/" ++ path)

-- no file is ready, and the disk was asked nothing
abbrev pub forgotten : Option Fault → StationValue → StationValue
forgotten why before = record before { fault = why; ready = None }

-- likewise, and a deposit failed
abbrev pub refused : StationValue → StationValue
refused before = record before { calls = before.calls + 1; failures = before.failures + 1; fault = None; ready = None }

-- a deposit of a valid name is that of its name in the source's folder, or fails where memory runs out; any other name is bad
pub record SourceDeposits (layout : Layout) (source : EntityId) (before : StationValue) (name octets : List ℕ) (result : Result (Unit {0}) StoreFault) (after : StationValue) : Type 0 where
  pub taken : IsTaken layout name → StationDeposits before (name_from source (path_of layout name)) octets result after ⊎ ((result ≡ Err Failed) × (after ≡ refused before))
  pub other : ¬ (IsTaken layout name) → (result ≡ Err BadName) × (after ≡ refused before)

-- a try, likewise
pub record SourcePrepares (layout : Layout) (source : EntityId) (before : StationValue) (name octets : List ℕ) (result : Prepared) (after : StationValue) : Type 0 where
  pub taken : IsTaken layout name → Prepares before (name_from source (path_of layout name)) octets result after ⊎ ((result ≡ Later) × (after ≡ forgotten (Some fault.MayPass) before))
  pub other : ¬ (IsTaken layout name) → (result ≡ Ready) × (after ≡ forgotten None before)
