-- Meaning. What a pace guarantees of the octets that leave by it.
use Rattle.std.specs.Prelude.{◌≡◌, ℕ, ◌+◌, ◌*◌, ◌^◌, ◌<◌, ◌≤◌, ◌-◌, ◌&&◌, nat_le, max, Bool, true, false, if◌then◌else◌, List, [], ◌∷◌, Some}
use Rattle.program_agenda.specs.declared.pace.Pace.{Pace}
use Rattle.program_agenda.specs.Paces.{is_free, spent, charged}

-- octets that left at a moment, in milliseconds, and whether they are of a file, which leaves by the pace
pub record Departure : Type 0 where
  pub at : ℕ
  pub octets : ℕ
  pub of_file : Bool

-- the pace after octets left
abbrev pub gone : Bool → ℕ → ℕ → Pace → Pace
gone true octets at pace = spent octets at pace
gone false octets at pace = charged octets at pace

-- the pace after a run of departures, newest first
abbrev pub paced : Pace → List Departure → Pace
paced pace [] = pace
paced pace (departure ∷ earlier) = gone departure.of_file departure.octets departure.at (paced pace earlier)

-- each departure of a file was at a moment at which the pace was free
abbrev pub IsPaced : Pace → List Departure → Type 0
IsPaced pace [] = Unit {0}
IsPaced pace (departure ∷ earlier) = (departure.of_file ≡ true → is_free departure.at (paced pace earlier) ≡ true) × IsPaced pace earlier

-- no departure of a file is of more octets
abbrev pub AreAtMost : ℕ → List Departure → Type 0
AreAtMost most [] = Unit {0}
AreAtMost most (departure ∷ earlier) = (departure.of_file ≡ true → departure.octets ≤ most) × AreAtMost most earlier

-- how many octets of files left from one moment to another, both included
abbrev pub octets_within : ℕ → ℕ → List Departure → ℕ
octets_within start end [] = 0
octets_within start end (departure ∷ earlier) =
    (if departure.of_file && (nat_le start departure.at && nat_le departure.at end) then departure.octets else 0)
    + octets_within start end earlier

-- whatever else leaves, the octets of files that leave in any span of milliseconds are at most what the limit, in
-- octets a second, allows in it and in the ten milliseconds of slack, and one departure; for departures of less than 4
-- GiB, and up to a moment that is five centuries off
abbrev pub KeepsToRate : Type 0
KeepsToRate = (pace : Pace) (limit most start end : ℕ) (run : List Departure) → pace.limit ≡ Some limit → IsPaced pace run
    → most < 2 ^ 32 → AreAtMost most run → end < 2 ^ 44
    → octets_within start end run * 1000 ≤ max limit 1 * (end + 10 - start) + most * 1000
