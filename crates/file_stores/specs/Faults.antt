-- Meaning. The numbers of the faults of a store.
use Rattle.std.specs.Prelude.{ℕ}
use Rattle.file_stores.specs.declared.filestore.StoreFault.{StoreFault}
use Rattle.file_stores.specs.declared.filestore.StoreFault.TheVariants.{BadName, Failed}

-- the number of a fault
abbrev pub fault_number : StoreFault → ℕ
fault_number BadName = 1
fault_number Failed = 2
