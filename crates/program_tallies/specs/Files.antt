-- Meaning. Files that came whole, and the sum of their sizes.
use Rattle.std.specs.Prelude.{ℕ, ◌+◌, ◌-◌, ◌^◌, min}
use Rattle.program_tallies.specs.declared.files.Files.{Files}

-- a number, at most the greatest one of 64 bits
abbrev pub at_most : ℕ → ℕ
at_most number = min number (2 ^ 64 - 1)

-- one more file of so many octets
abbrev pub with_file : ℕ → Files → Files
with_file octets files = record { files = at_most (files.files + 1); octets = at_most (files.octets + octets) }
