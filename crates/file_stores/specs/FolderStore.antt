-- Meaning. A store in a folder: what its disk was asked, and the effect of a deposit.
use Rattle.std.specs.Prelude.{◌≡◌, ◌↔◌, ℕ, List, Result, Err, OnOk}
use Rattle.disk.specs.Steps.{Step}
use Rattle.disk.specs.Promise.{HoldsAfterCut}
use Rattle.whole_files.specs.PartSteps.{Replaces}
use Rattle.file_stores.specs.declared.filestore.StoreFault.{StoreFault}
use Rattle.file_stores.specs.declared.filestore.StoreFault.TheVariants.{BadName}
use Rattle.file_stores.specs.Names.{IsFileName}

-- what the disk was asked, the deposits that were tried, and those that failed
pub record FolderValue : Type 0 where
  pub done : List Step
  pub calls : ℕ
  pub failures : ℕ

-- a deposit fails with BadName exactly at a bad name; a kept file is found with these octets after a power cut; it is
-- stored by way of a part, and nothing else changes but that the whole file may be under its name
pub record FolderDeposits (before : FolderValue) (name octets : List ℕ) (result : Result (Unit {0}) StoreFault) (after : FolderValue) : Type 0 where
  pub ok : OnOk result (IsFileName name)
  pub bad_name : (result ≡ Err BadName) ↔ ¬ (IsFileName name)
  pub holds : OnOk result (HoldsAfterCut after.done name octets)
  pub stores : Replaces name octets before.done after.done
