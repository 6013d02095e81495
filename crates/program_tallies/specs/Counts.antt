-- Meaning. Counts of transactions that ended, by role, class and condition.
use Rattle.std.specs.Prelude.{ℕ, ◌+◌, ◌-◌, ◌%◌, ◌^◌, min, List, get_or, set}
use Rattle.program_tallies.specs.declared.counts.Class.{Class}
use Rattle.program_tallies.specs.declared.counts.Class.TheVariants as classes
use Rattle.program_tallies.specs.declared.counts.Ended.{Ended}
use Rattle.program_tallies.specs.declared.counts.Role.{Role}
use Rattle.program_tallies.specs.declared.counts.Role.TheVariants as roles

-- the place of the first count of a role: 48 counts for each
abbrev pub role_place : Role → ℕ
role_place roles.Sender = 0
role_place roles.Receiver = 48

-- the place of the first count of a class, counted from its role's: 16 counts for each
abbrev pub class_place : Class → ℕ
class_place classes.Unknown = 0
class_place classes.One = 16
class_place classes.Two = 32

-- the number of a class, or 0 where it isn't known
abbrev pub number_of : Class → ℕ
number_of classes.Unknown = 0
number_of classes.One = 1
number_of classes.Two = 2

-- the place of the count of transactions that ended like this
abbrev pub place_of : Ended → ℕ
place_of ended = role_place ended.role + class_place ended.class + ended.condition % 16

-- how many ended like this
abbrev pub count_of : Ended → List ℕ → ℕ
count_of ended counts = get_or counts (place_of ended) 0

-- the counts with one more that ended like this, at most the greatest number of 64 bits
abbrev pub noted : Ended → List ℕ → List ℕ
noted ended counts = set counts (place_of ended) (min (count_of ended counts + 1) (2 ^ 64 - 1))
