-- Meaning. What a program replies to a command line by which nothing starts.
use Rattle.std.specs.Prelude.{ℕ, List, Option, None, Some}
use Rattle.program_start.specs.declared.fault.ProgramFault.{ProgramFault}
use Rattle.program_start.specs.declared.fault.ProgramFault.TheVariants as fault
use Rattle.program_words.specs.declared.fault.WordsFault.{WordsFault}
use Rattle.program_words.specs.declared.fault.WordsFault.TheVariants as words

-- the fault of a program, by that of its command line
abbrev pub fault_of : WordsFault → ProgramFault
fault_of words.NoMemory = fault.NoMemory
fault_of its = fault.Usage

-- the help or the version, where a command line asks for it
abbrev pub asked_text : WordsFault → List ℕ → List ℕ → Option (List ℕ)
asked_text words.Help help version = Some help
asked_text words.Version help version = Some version
asked_text its help version = None
