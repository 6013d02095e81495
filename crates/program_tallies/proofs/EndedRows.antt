-- Worked rows: places, counts, sums.
use Rattle.std.proofs.Common.{◌≡◌, true, false, ◌∷◌, [], map, refl}
use Rattle.cfdp_types.specs.declared.names.Delivery.TheVariants.{Complete, Incomplete}
use Rattle.cfdp_types.specs.declared.names.FileStatus.TheVariants.{Discarded, Rejected, Retained, Unreported}
use Rattle.program_tallies.specs.Counts.{count_of, noted, number_of, place_of}
use Rattle.program_tallies.specs.Files.{with_file}
use Rattle.program_tallies.specs.Whole.{is_whole}
use Rattle.program_tallies.specs.declared.counts.Class.TheVariants as classes
use Rattle.program_tallies.specs.declared.counts.Role.TheVariants as roles

-- the first and the last place of each role and class
places : map place_of
    (record { role = roles.Sender; class = classes.Unknown; condition = 0 }
    ∷ record { role = roles.Sender; class = classes.One; condition = 15 }
    ∷ record { role = roles.Sender; class = classes.Two; condition = 16 }
    ∷ record { role = roles.Receiver; class = classes.Unknown; condition = 3 }
    ∷ record { role = roles.Receiver; class = classes.One; condition = 0 }
    ∷ record { role = roles.Receiver; class = classes.Two; condition = 15 } ∷ [])
    ≡ 0 ∷ 31 ∷ 32 ∷ 51 ∷ 64 ∷ 95 ∷ []
places = refl

numbers : map number_of (classes.Unknown ∷ classes.One ∷ classes.Two ∷ []) ≡ 0 ∷ 1 ∷ 2 ∷ []
numbers = refl

-- one more is counted at its place alone, up to the greatest number
counts : noted (record { role = roles.Sender; class = classes.Unknown; condition = 1 }) (7 ∷ 8 ∷ 9 ∷ []) ≡ 7 ∷ 9 ∷ 9 ∷ []
counts = refl

greatest : noted (record { role = roles.Sender; class = classes.Unknown; condition = 0 }) (18446744073709551615 ∷ 1 ∷ [])
    ≡ 18446744073709551615 ∷ 1 ∷ []
greatest = refl

count : count_of (record { role = roles.Sender; class = classes.Unknown; condition = 2 }) (7 ∷ 8 ∷ 9 ∷ []) ≡ 9
count = refl

sums : map (with_file 5) (record { files = 2; octets = 10 } ∷ record { files = 18446744073709551615; octets = 18446744073709551613 } ∷ [])
    ≡ record { files = 3; octets = 15 } ∷ record { files = 18446744073709551615; octets = 18446744073709551615 } ∷ []
sums = refl

-- without a fault, complete and retained: each of them is needed, and no other file status does
whole : is_whole 0 Complete Retained ∷ is_whole 1 Complete Retained ∷ is_whole 15 Complete Retained ∷ is_whole 0 Incomplete Retained
    ∷ is_whole 0 Complete Discarded ∷ is_whole 0 Complete Rejected ∷ is_whole 0 Complete Unreported ∷ is_whole 0 Incomplete Unreported ∷ []
    ≡ true ∷ false ∷ false ∷ false ∷ false ∷ false ∷ false ∷ false ∷ []
whole = refl
