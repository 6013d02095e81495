-- Meaning. The numbers of the decoding faults.
use Rattle.std.specs.Prelude.{ℕ}
use Rattle.pdu_reading.specs.declared.fault.DecodeFault.{DecodeFault}
use Rattle.pdu_reading.specs.declared.fault.DecodeFault.TheVariants.{TooShort, BadVersion, CrcPresent, LengthMismatch, UnknownDirective, FieldCut, NoFileName, NoMemory}

-- the number of a fault, as it is printed
abbrev pub fault_number : DecodeFault → ℕ
fault_number TooShort = 1
fault_number BadVersion = 2
fault_number CrcPresent = 3
fault_number LengthMismatch = 5
fault_number UnknownDirective = 6
fault_number FieldCut = 7
fault_number NoFileName = 8
fault_number NoMemory = 9
