-- Meaning. Which failures of the system may pass, and what hinders then.
use Rattle.std.specs.Prelude.{ℕ, ℤ, pos, Bool, false, ◌||◌, if◌then◌else◌, List, codes, Option, Some, None}
use Rattle.std.specs.Ordering.{int_eq}
use Rattle.std.specs.declared.io.ErrorKind.{ErrorKind}
use Rattle.std.specs.declared.io.ErrorKind.TheVariants.{AlreadyExists, NotFound, OutOfMemory, QuotaExceeded, ReadOnlyFilesystem, StorageFull}
use Rattle.disk.specs.declared.device.Fault.{Fault}
use Rattle.disk.specs.declared.device.Fault.TheVariants.{Exists, MayPass, Failed}
use Rattle.disk.specs.declared.faults.Hindrance.{Hindrance}
use Rattle.disk.specs.declared.faults.Hindrance.TheVariants.{NoFolder, NoSpace, NoQuota, ReadOnly, NoMemory, InputOutput, TooManyFiles, Refuses}

-- these error numbers of the system may pass: input/output error, too many open files in the system or in the process
abbrev pub passes : Option ℤ → Bool
passes None = false
passes (Some code) = int_eq code (pos 5) || (int_eq code (pos 23) || int_eq code (pos 24))

-- the fault of an error of this kind with this number: no space, no memory, quota, read-only, and a folder that isn't there pass
abbrev pub fault_of : ErrorKind → Option ℤ → Fault
fault_of AlreadyExists code = Exists
fault_of NotFound code = MayPass
fault_of OutOfMemory code = MayPass
fault_of QuotaExceeded code = MayPass
fault_of ReadOnlyFilesystem code = MayPass
fault_of StorageFull code = MayPass
fault_of _ code = if passes code then MayPass else Failed

-- what hinders where an error of the system has this number
abbrev pub numbered_hindrance : Option ℤ → Hindrance
numbered_hindrance None = Refuses
numbered_hindrance (Some code) =
    if int_eq code (pos 5) then InputOutput
    else (if int_eq code (pos 23) || int_eq code (pos 24) then TooManyFiles else Refuses)

-- what hinders where an error has this kind and this number
abbrev pub hindrance_of : ErrorKind → Option ℤ → Hindrance
hindrance_of NotFound code = NoFolder
hindrance_of OutOfMemory code = NoMemory
hindrance_of QuotaExceeded code = NoQuota
hindrance_of ReadOnlyFilesystem code = ReadOnly
hindrance_of StorageFull code = NoSpace
hindrance_of _ code = numbered_hindrance code

-- each of them in words
abbrev pub words_of : Hindrance → List ℕ
words_of NoFolder = codes "the folder isn't there"
words_of NoSpace = codes "no space is left"
words_of NoQuota = codes "the quota is used up"
words_of ReadOnly = codes "the file system is read-only"
words_of NoMemory = codes "no memory is left"
words_of InputOutput = codes "an input or output error"
words_of TooManyFiles = codes "too many files are open"
words_of Refuses = codes "the system refuses it"
