-- Meaning. The checksum types that a file may have here (the registry of CFDP checksum identifiers).
use Rattle.std.specs.Prelude.{ℕ}
use Rattle.cfdp_types.specs.declared.names.Checksum.{Checksum}
use Rattle.cfdp_types.specs.declared.names.Checksum.TheVariants.{Modular, Null}

-- the sum of the file's four-octet words
abbrev pub modular : ℕ
modular = 0

-- no checksum
abbrev pub null : ℕ
null = 15

-- the type of a checksum
abbrev pub type_of : Checksum → ℕ
type_of Modular = modular
type_of Null = null
